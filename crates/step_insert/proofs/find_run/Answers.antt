use Rattle.std.proofs.Common.{◌≡◌, arith, length, get_or, [], ne_eqb}
use Rattle.step_insert.specs.Find.{stops, find_start, find_stop, find_end}
use Rattle.step_insert.proofs.find_run.Goals as goal
use Rattle.step_insert.proofs.find_run.Goals.{in_default-via-in-Less+else-start-end, in_default-via-in_default}

pub loop-end-init : goal.loop-end-init
loop-end-init c = find_start _ _

pub returns-in_default-clause-start_value : goal.returns-in_default-clause-start_value
returns-in_default-clause-start_value c =
    find_stop _ _ _ _ c.loop-end.invariant c.loop-end-test.true
    (stops c.args.new.now c.see.result c.loop-end.start c.loop-end.end (get_or c.args.routes.rows.now c.loop-end.end []) c.see.ensures.in_front_value c.see.ensures.in_run_value
    (elim c.in_default.branch [
      | in_default-via-in-Less+else-start-end w ↦ rw (w.in-Less.is, ne_eqb _ _ w.if-start-end.false)
      | in_default-via-in_default w ↦ rw w.in_default.is
    ]))

pub returns-clause-start_value : goal.returns-clause-start_value
returns-clause-start_value c =
    let at : c.loop-end.end ≡ length c.args.routes.rows.now = omega arith in
    rw at at (find_end _ _ _ _ c.loop-end.invariant at)
