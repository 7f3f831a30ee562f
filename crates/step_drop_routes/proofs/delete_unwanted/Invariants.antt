use Rattle.definition.specs.State.{State}
use Rattle.definition.specs.Preservation.Shrinking.{potential}
use Rattle.step_events.specs.EmitsWithin.{RoomFor}
use Rattle.step_drop_routes.specs.Iterations.{Leaving}
use Rattle.step_drop_routes.proofs.delete_unwanted.Given as goal

abbrev pub invariant-loop-r : goal.invariant-loop-r
invariant-loop-r l = (st : State) → RoomFor potential st l.initial.change → Leaving st l.rows l.r-index l.initial.change l.change
