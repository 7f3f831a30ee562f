use Rattle.state_tally.specs.Tally.{Hinting}
use Rattle.state_tally.proofs.hints.Given as goal

abbrev pub invariant-loop-i : goal.invariant-loop-i
invariant-loop-i l = Hinting l.tables l.hints
