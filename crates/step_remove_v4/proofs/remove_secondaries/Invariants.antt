use Rattle.definition.specs.State.{State}
use Rattle.definition.specs.Preservation.Shrinking.{potential}
use Rattle.step_events.specs.EmitsWithin.{RoomFor}
use Rattle.step_remove_v4.specs.One.{Going1}
use Rattle.step_remove_v4.proofs.remove_secondaries.Given as goal

abbrev pub invariant-loop-j : goal.invariant-loop-j
invariant-loop-j l = (st : State) → RoomFor potential st l.initial.change → Going1 l.a st l.n l.j l.initial.change l.change
