use Rattle.std.proofs.Common.{◌-◌, ◌*◌}
use Rattle.definition.specs.Words.{address_count}
use Rattle.definition.specs.State.{State}
use Rattle.definition.specs.Preservation.Shrinking.{potential}
use Rattle.step_events.specs.EmitsWithin.{RoomFor}
use Rattle.step_expire.proofs.Loop.{Expiring}
use Rattle.step_expire.proofs.expire.Given as goal

abbrev pub invariant-loop-i : goal.invariant-loop-i
invariant-loop-i l = (st : State) → RoomFor potential st l.initial.change → Expiring l.clock.allowance.0 l.clock.time.0 st l.i l.initial.change l.change

-- a removal begins again with an address less, and there are never more than 64
abbrev pub decreases-loop-i : goal.decreases-loop-i
decreases-loop-i l = 66 * address_count l.change.state.words.now - l.i
