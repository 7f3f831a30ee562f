-- Of the numbers looked at, from the end on, none is twice, and each has set its bit.
use Rattle.std.specs.Prelude.{◌≡◌, true, drop}
use Rattle.definition.specs.Words.{none_twice}
use Rattle.state_well_formed.specs.Twice.{marked}
use Rattle.state_well_formed.proofs.none_twice.Given as goal

abbrev pub invariant-loop-i : goal.invariant-loop-i
invariant-loop-i l = (none_twice (drop l.i l.l) ≡ true) × (marked l.seen (drop l.i l.l) ≡ true)
