use Rattle.std.proofs.Common.{arith, ap, ◌∙◌, ◌<◌, ◌-◌}
use Rattle.lists.specs.Lists.{eq_row}
use Rattle.step_insert.specs.Plan.{none-planned, some-planned}
use Rattle.step_insert.specs.Whole.{own-run, between-at}
use Rattle.step_insert.proofs.plan4.Goals as goal

pub returns-then-end-start-clause-result_value : goal.returns-then-end-start-clause-result_value
returns-then-end-start-clause-result_value c =
    λ o.
    let here = own-run c.args.new.now c.args.routes.rows.now _ _ _ _ _ _ c.find_run-run.ensures.start_value c.alike4-alike.ensures.run o in
    rw c.created.ensures (none-planned _ c.args.flags _ _ _ _ here o c.if-end-start.true)

pub returns-clause-result_value : goal.returns-clause-result_value
returns-clause-result_value c =
    λ o.
    let here = own-run c.args.new.now c.args.routes.rows.now _ _ _ _ _ _ c.find_run-run.ensures.start_value c.alike4-alike.ensures.run o in
    let within : c.alike4-alike.result.start < c.find_run-run.result.end - c.find_run-run.result.start = omega (arith, c.find_run-run.ensures.start_le_end, c.alike4-alike.ensures.start_le_end, c.if-end-start.false) in
    rw c.among.ensures
    (some-planned _ c.args.flags _ _ _ _ here o c.if-end-start.false c.eq-first.result
    (c.eq-first.ensures
    ∙ ap (eq_row c.args.new.now) (between-at c.find_run-run.result.start c.find_run-run.result.end c.alike4-alike.result.start c.args.routes.rows.now within)))
