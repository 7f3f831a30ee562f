use Rattle.lists.specs.Lists.{zeros}
use Rattle.state_tally.specs.Tally.{hinting-start, hinting-set}
use Rattle.state_tally.proofs.hints.Goals as goal

pub loop-i-init : goal.loop-i-init
unfolding zeros
loop-i-init c = hinting-start c.args.tables.now c.requires.0

pub loop-i-preserved : goal.loop-i-preserved
loop-i-preserved c = hinting-set c.loop-i.hints c.class.result c.loop-i.i c.loop-i-test.true c.loop-i.invariant
