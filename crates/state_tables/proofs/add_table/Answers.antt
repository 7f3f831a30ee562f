use Rattle.std.proofs.Common.{arith, sym, refl, ◌∙◌, length-set}
use Rattle.definition.specs.State.{with_tables}
use Rattle.definition.specs.Reference.Insert.{add_table}
use Rattle.state.specs.Represents.{sizes_of}
use Rattle.state.specs.Stored.{represented, carried}
use Rattle.state_tables.specs.Listed.{tables_of, add_there, add_new, length_new, length-listed}
use Rattle.state_tables.proofs.add_table.Goals as goal

pub returns-then-listed : goal.returns-then-listed
returns-then-listed c =
    record { holds = λ st h. add_there h c.args.t (sym (rw c.stored.ensures at c.listed.ensures) ∙ c.if-listed.true); place = refl }

pub bounds-words-2 : goal.bounds-words-2
bounds-words-2 c = omega (arith, sizes_of (represented c.args.s.now.holds))

pub bounds-words-n : goal.bounds-words-n
bounds-words-n c =
    let h = represented c.args.s.now.holds in
    omega (arith, sizes_of h, length-listed h, length_new c.args.t (tables_of c.args.s.now.words.now) (sym (rw c.stored.ensures at c.listed.ensures) ∙ c.if-listed.false), c.requires)

pub overflow_add-words-2 : goal.overflow_add-words-2
overflow_add-words-2 c = omega (arith, sizes_of (represented c.args.s.now.holds))

pub bounds-words-2-2 : goal.bounds-words-2-2
bounds-words-2-2 c = simp length-set (omega (arith, sizes_of (represented c.args.s.now.holds)))

pub invariant_of-s : goal.invariant_of-s
invariant_of-s c =
    record {
      holds = carried (λ st. with_tables (add_table c.args.t st.tables) st) c.args.s.now.holds
          (λ st h. add_new h c.args.t (sym (rw c.stored.ensures at c.listed.ensures) ∙ c.if-listed.false) c.requires);
    }

pub returns : goal.returns
returns c =
    record {
      holds = λ st h. add_new h c.args.t (sym (rw c.stored.ensures at c.listed.ensures) ∙ c.if-listed.false) c.requires;
      place = refl;
    }
