-- The rows looked at are counted.
use Rattle.state_tally.specs.Tally.{Tallied}
use Rattle.state_tally.proofs.by_search.Given as goal

abbrev pub invariant-loop-r : goal.invariant-loop-r
invariant-loop-r l = Tallied l.routes l.tables l.r-index l.counts
