use Rattle.lists.specs.Lists.{zeros}
use Rattle.state_tally.specs.Tally.{tally-start, tally-nowhere, tally-at}
use Rattle.state_tally.proofs.by_search.Goals as goal
use Rattle.state_tally.proofs.by_search.Goals.{in-Some, in_default}

pub loop-r-init : goal.loop-r-init
unfolding zeros
loop-r-init c = tally-start c.args.routes.now c.args.tables.now c.requires.1

pub loop-r-preserved : goal.loop-r-preserved
loop-r-preserved c = elim c.match-place.branch [
  | in-Some w ↦
      let there = w.in-Some.ensures in
      rw w.counts-is (tally-at c.args.routes.now c.args.tables.now c.loop-r.r-index c.loop-r-test.true c.loop-r.invariant w.in-Some.i c.requires.1 there.0 there.1)
  | in_default w ↦ rw w.counts-is (tally-nowhere c.args.routes.now c.args.tables.now c.loop-r.r-index c.loop-r-test.true c.loop-r.invariant w.in_default.ensures)
]
