use Rattle.std.proofs.Common.{refl, sym, ◌∙◌}
use Rattle.step_events.specs.Emits.{tells-behind}
use Rattle.step_route_request.specs.Delete.{del_unlisted, del_bad, del_none, del_row}
use Rattle.step_route_request.proofs.del_route4.Goals as goal

pub returns-then-not-listed : goal.returns-then-not-listed
returns-then-not-listed c =
    λ st h.
    del_unlisted c.args.q.now h c.table_named-t.result c.table_named-t.ensures (rw c.stored.ensures at (sym c.if-not-listed.true ∙ c.listed.ensures))

pub returns-then-bad_prefix : goal.returns-then-bad_prefix
returns-then-bad_prefix c =
    λ st h.
    del_bad c.args.q.now h c.table_named-t.result c.table_named-t.ensures (rw c.stored.ensures at (sym c.if-not-listed.false ∙ c.listed.ensures)) (sym c.if-bad_prefix.true ∙ c.bad_prefix.ensures)

pub returns-in_default : goal.returns-in_default
returns-in_default c =
    λ st h.
    let rows = c.routes-routes.ensures.rows st (rw c.stored-2.ensures h) in
    del_none c.args.q.now h c.table_named-t.result c.table_named-t.ensures (rw c.stored.ensures at (sym c.if-not-listed.false ∙ c.listed.ensures)) (sym c.if-bad_prefix.false ∙ c.bad_prefix.ensures)
    (rw rows at (sym c.select_route.ensures ∙ c.in_default.is))

pub returns : goal.returns
returns c =
    λ st h.
    let rows = c.routes-routes.ensures.rows st (rw c.stored-2.ensures h) in
    del_row c.args.q.now h c.table_named-t.result c.table_named-t.ensures (rw c.stored.ensures at (sym c.if-not-listed.false ∙ c.listed.ensures)) (sym c.if-bad_prefix.false ∙ c.bad_prefix.ensures)
    c.in-Some.place (rw rows at (sym c.select_route.ensures ∙ c.in-Some.is))
    (c.remove_route.ensures.holds st (rw c.del_route4.ensures.state h))
    (tells-behind (rw rows at c.del_route4.ensures.tells) refl refl c.remove_route.ensures.place refl)
