-- The rows looked at of each half are counted.
use Rattle.state_tally.specs.Tally.{Tallied}
use Rattle.state_tally.proofs.by_hints.Given as goal

abbrev pub invariant-loop-k : goal.invariant-loop-k
invariant-loop-k l = Tallied l.front l.tables l.k l.counts × Tallied l.back l.tables l.k l.others

abbrev pub invariant-loop-last : goal.invariant-loop-last
invariant-loop-last l = Tallied l.back l.tables l.last l.others
