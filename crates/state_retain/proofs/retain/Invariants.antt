-- After i iterations those of the first i rows that stay stand in front.
use Rattle.definition.specs.Words.{decode}
use Rattle.state_retain.specs.Retain.{Keeping}
use Rattle.state_retain.proofs.retain.Given as goal

abbrev pub invariant-loop-i : goal.invariant-loop-i
invariant-loop-i g l = Keeping g.F.Fn l.stays (decode l.initial.words).routes l.initial.words l.i l.j l.words
