use Rattle.std.proofs.Common.{◌∙◌}
use Rattle.definition.specs.State.{with_tables}
use Rattle.definition.specs.Words.{decode}
use Rattle.definition.specs.Reference.Insert.{add_table}
use Rattle.state.specs.Stored.{represented}
use Rattle.state_tables.specs.Listed.{tables_of, list-other, main_first, create_one, create_two, local-next}
use Rattle.state_tables.proofs.list_table.Goals as goal
use Rattle.state_tables.proofs.list_table.Goals.{then-t-eq-TABLE_LOCAL, else-t-eq-TABLE_LOCAL}

pub add_table-requires : goal.add_table-requires
add_table-requires c =
    main_first c.args.t (tables_of c.args.s.now.words.now) c.if-t-eq-TABLE_LOCAL.true c.requires

pub add_table-requires-2 : goal.add_table-requires-2
add_table-requires-2 c =
    let h = represented c.args.s.now.holds in
    elim c.if-t-eq-TABLE_LOCAL.branch [
      | then-t-eq-TABLE_LOCAL w ↦ rw w.s-is (local-next c.args.t h (w.add_table.ensures.holds (decode c.args.s.now.words.now) h) w.if-t-eq-TABLE_LOCAL.true c.requires)
      | else-t-eq-TABLE_LOCAL w ↦ rw w.s-is (rw (list-other c.args.t (tables_of c.args.s.now.words.now) w.if-t-eq-TABLE_LOCAL.false) at c.requires)
    ]

pub returns : goal.returns
returns c =
    elim c.if-t-eq-TABLE_LOCAL.branch [
      | then-t-eq-TABLE_LOCAL w ↦ record {
        holds = λ st h. create_two st c.args.t w.if-t-eq-TABLE_LOCAL.true (c.add_table-2.ensures.holds (with_tables (add_table 254 st.tables) st) (rw w.s-is (w.add_table.ensures.holds st h)));
        place = c.add_table-2.ensures.place ∙ (rw w.s-is w.add_table.ensures.place);
      }
      | else-t-eq-TABLE_LOCAL w ↦ record {
        holds = λ st h. create_one st c.args.t w.if-t-eq-TABLE_LOCAL.false (c.add_table-2.ensures.holds st (rw w.s-is h));
        place = rw w.s-is at c.add_table-2.ensures.place;
      }
    ]
