use Rattle.std.proofs.Common.{arith, sym, ap, ◌∙◌}
use Rattle.std.specs.Prelude.{ℕ, ◌≡◌, ◌+◌, true, length}
use Rattle.lists.specs.Lists.{among}
use Rattle.state.specs.Stored.{represented}
use Rattle.state_tables.specs.Listed.{tables_of, length-local, list-other, list-local, at_most}
use Rattle.state_tables.proofs.tables_after.Goals as goal
use Rattle.state_tables.proofs.tables_after.Goals.{else-t-eq-TABLE_LOCAL-via-then-t-eq-TABLE_LOCAL+else-not-listed, else-t-eq-TABLE_LOCAL-via-else-t-eq-TABLE_LOCAL}

pub overflow_add-result : goal.overflow_add-result
overflow_add-result c = omega (arith, c.with_table-n.ensures, at_most c.args.t (represented c.args.s.holds))

pub returns-then-not-listed : goal.returns-then-not-listed
returns-then-not-listed c =
    ap (λ (n : ℕ). n + 1) c.with_table-n.ensures
    ∙ sym (length-local c.args.t (tables_of c.args.s.words.now) c.if-t-eq-TABLE_LOCAL.true (sym c.listed.ensures ∙ c.if-not-listed.true))

pub returns-else-t-eq-TABLE_LOCAL : goal.returns-else-t-eq-TABLE_LOCAL
returns-else-t-eq-TABLE_LOCAL c =
    let l = tables_of c.args.s.words.now in
    elim c.else-t-eq-TABLE_LOCAL.branch [
      | else-t-eq-TABLE_LOCAL-via-then-t-eq-TABLE_LOCAL+else-not-listed w ↦
          let there : among 254 l ≡ true = sym w.listed.ensures ∙ w.if-not-listed.false in
          c.with_table-n.ensures ∙ sym (rw (list-local c.args.t l w.if-t-eq-TABLE_LOCAL.true, there))
      | else-t-eq-TABLE_LOCAL-via-else-t-eq-TABLE_LOCAL w ↦ c.with_table-n.ensures ∙ sym (ap length (list-other c.args.t l w.if-t-eq-TABLE_LOCAL.false))
    ]
