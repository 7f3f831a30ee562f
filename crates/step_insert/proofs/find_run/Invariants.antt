use Rattle.step_insert.specs.Find.{Sofar}
use Rattle.step_insert.proofs.find_run.Given as goal

abbrev pub invariant-loop-end : goal.invariant-loop-end
invariant-loop-end l = Sofar l.new l.routes.rows.now l.end l.start
