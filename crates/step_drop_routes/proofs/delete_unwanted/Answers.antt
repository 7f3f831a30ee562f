use Rattle.definition.specs.Preservation.Shrinking.{potential}
use Rattle.step_events.specs.Iterations.{going_ready}
use Rattle.step_drop_routes.specs.Iterations.{leaving-start, leaving-next, leaving-last}
use Rattle.step_drop_routes.proofs.delete_unwanted.Goals as goal

pub loop-r-init : goal.loop-r-init
loop-r-init c = λ st f. leaving-start c.args.rows.now f

pub unless_wanted-requires : goal.unless_wanted-requires
unless_wanted-requires c = going_ready potential (c.loop-r.invariant c.requires.state c.requires.fits)

pub loop-r-preserved : goal.loop-r-preserved
loop-r-preserved c = λ st f. leaving-next c.args.rows.now c.loop-r.r-index (c.loop-r.invariant st f) c.loop-r-test.true c.unless_wanted.ensures

pub returns : goal.returns
returns c = λ st f. leaving-last c.args.rows.now c.loop-r.r-index (c.loop-r.invariant st f) c.loop-r-test.false
