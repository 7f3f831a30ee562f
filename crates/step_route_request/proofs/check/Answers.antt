-- `step_route_request::check` meets its contract.
-- Assumes nothing.
use Rattle.std.proofs.Common.{eqb, arith, ◌||◌}
use Rattle.std.proofs.lemmas.Grind.{common_steps}
use Rattle.step_route_request.specs.Check.{or_listed, check-refused, check-on}
use Rattle.step_route_request.proofs.check.Goals as goal

pub returns-in_err-linked : goal.returns-in_err-linked
returns-in_err-linked c = λ st h.
    let on = check-refused c.args.q.now st c.table_named-t.result c.table_named-t.ensures c.form_check.result c.form_check.ensures _ c.in_ok-form_check.was (c.listed.result || eqb 255 c.table_named-t.result) (c.listed-2.result || eqb 253 c.table_named-t.result) (or_listed h 255 c.table_named-t.result c.listed.result c.listed.ensures) (or_listed h 253 c.table_named-t.result c.listed-2.result c.listed-2.ensures) c.reach_check.result (rw (c.routes-routes.ensures.rows st h) at c.reach_check.ensures) _ c.in_err-linked.was in
    grind (arith, common_steps)

pub returns : goal.returns
returns c = λ st h.
    let on = check-on c.args.q.now st c.table_named-t.result c.table_named-t.ensures c.form_check.result c.form_check.ensures _ c.in_ok-form_check.was (c.listed.result || eqb 255 c.table_named-t.result) (c.listed-2.result || eqb 253 c.table_named-t.result) (or_listed h 255 c.table_named-t.result c.listed.result c.listed.ensures) (or_listed h 253 c.table_named-t.result c.listed-2.result c.listed-2.ensures) c.reach_check.result (rw (c.routes-routes.ensures.rows st h) at c.reach_check.ensures) _ c.in_ok-linked.was in
    rw on (c.prefsrc_check.ensures st h (or_listed h 255 c.table_named-t.result c.listed.result c.listed.ensures))
