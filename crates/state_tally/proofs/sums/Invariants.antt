-- The numbers looked at are added.
use Rattle.std.specs.Prelude.{◌≡◌, take}
use Rattle.state_tally.specs.Tally.{sums}
use Rattle.state_tally.proofs.sums.Given as goal

abbrev pub invariant-loop-i : goal.invariant-loop-i
invariant-loop-i l = l.sums ≡ sums l.a (take l.i l.b)
