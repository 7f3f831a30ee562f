-- What a removing step needs and leaves.
-- Assumes nothing.
use Rattle.std.specs.Prelude.{◌+◌, ◌*◌, ◌≤◌, ◌≡◌, length}
use Rattle.std.proofs.Common.{sym, ap, arith}
use Rattle.definition.specs.State.{State, Out}
use Rattle.definition.specs.Words.{route_count}
use Rattle.definition.specs.Preservation.Shrinking.{potential}
use Rattle.state.specs.Represents.{count-routes}
use Rattle.step_events.specs.EmitsWithin.{SomeRoom, EmitsWithin, step_same}
use Rattle.step_events.specs.declared.change.Change.{Change}

-- room for as many rows as there are routes
pub ready_room : {a : Change} → SomeRoom potential a → 34 * (a.told + route_count a.state.words.now) ≤ length a.events.now
ready_room y = omega (arith, y.fits.room, count-routes y.fits.holds)

-- a step known by an equation
pub step_eq : {st : State} {o p : Out} {a b : Change} → o ≡ p → EmitsWithin potential st p a b → EmitsWithin potential st o a b
step_eq e t = step_same potential (ap (λ (x : Out). x.state) (sym e)) (ap (λ (x : Out). x.emitted) (sym e)) t
