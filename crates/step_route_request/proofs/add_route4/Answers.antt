use Rattle.std.proofs.Common.{arith, refl}
use Rattle.definition.specs.Words.{decode}
use Rattle.state.specs.Stored.{represented}
use Rattle.definition.specs.Reference.Insert.{create4}
use Rattle.definition.specs.Reference.Routes.{table_named}
use Rattle.step_events.specs.Emits.{tells-none, tells-behind}
use Rattle.step_route_request.specs.Check.{check_all}
use Rattle.step_route_request.specs.Add.{table-full, asked-fits, checked-linked, way_refused, way_added}
use Rattle.step_route_request.proofs.add_route4.Goals as goal

pub returns-then-tables_after-gt-TABLE_LIMIT : goal.returns-then-tables_after-gt-TABLE_LIMIT
returns-then-tables_after-gt-TABLE_LIMIT c =
    λ st h g. table-full c.args.q.now c.table_named-t.result c.table_named-t.ensures h (rw (← c.stored.ensures) (omega (arith, c.tables_after.ensures, c.if-tables_after-gt-TABLE_LIMIT.true)))

pub add_checked-requires-clause-fit : goal.add_checked-requires-clause-fit
add_checked-requires-clause-fit c =
    let st = decode c.args.change.now.state.words.now in
    let made = create4 (table_named c.args.q.now) st in
    asked-fits c.args.q.now made c.in-Ok.linked
    (checked-linked (check_all c.args.q.now made) (c.check.ensures st (rw c.stored-2.ensures (represented c.args.change.now.state.holds))) c.in-Ok.linked c.in-Ok.is)
    c.told-q c.requires.fit

pub returns-in-Err : goal.returns-in-Err
returns-in-Err c =
    λ st h g.
    way_refused c.args.q.now c.table_named-t.result st c.check.result c.table_named-t.ensures (c.check.ensures st (rw c.stored-2.ensures h)) c.in-Err.refusal c.in-Err.is
    (c.list_table.ensures.holds st h) (tells-behind (tells-none c.args.change.now) refl refl c.list_table.ensures.place refl)

pub returns-in-Ok : goal.returns-in-Ok
returns-in-Ok c =
    λ st h g.
    way_added c.args.q.now c.table_named-t.result st c.check.result c.table_named-t.ensures (c.check.ensures st (rw c.stored-2.ensures h)) c.in-Ok.linked c.in-Ok.is
    (c.add_checked.ensures st h g)
