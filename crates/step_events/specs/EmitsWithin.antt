-- Steps that emit within a weight that bounds how many rows may still come: what a step emits and the weight that it leaves never
-- pass the weight before, so one inequality at the start gives room at every level.
-- Assumes nothing.
use Rattle.std.specs.Prelude.{ℕ, ◌+◌, ◌*◌, ◌≤◌, ◌≡◌, [], ◌∷◌, length}
use Rattle.std.proofs.Common.{arith, length-append}
use Rattle.lists.specs.Lists.{Row}
use Rattle.definition.specs.State.{State, Out, becomes, stays, also}
use Rattle.state.specs.Represents.{Represents}
use Rattle.step_events.specs.Tells.{Tells}
use Rattle.step_events.specs.Emits.{Emits, does-same, does-none, does-one, does-also}
use Rattle.step_events.specs.declared.change.Change.{Change}

-- the words hold a state, and there is room for as many rows more as its weight
pub record RoomFor (potential : State → ℕ) (st : State) (a : Change) : Type 0 where
  pub holds : Represents a.state.words.now st
  pub room : 34 * (a.told + potential st) ≤ length a.events.now

-- some state does
pub record SomeRoom (potential : State → ℕ) (a : Change) : Type 0 where
  pub state : State
  pub fits : RoomFor potential state a

-- a step from st came to o
pub record EmitsWithin (potential : State → ℕ) (st : State) (o : Out) (a b : Change) : Type 0 where
  pub emits : Emits o a b
  pub less : length o.emitted + potential o.state ≤ potential st
  pub room : 34 * (a.told + potential st) ≤ length a.events.now

module _ (potential : State → ℕ) {st : State} where
  pub step_same : {o p : Out} {a b : Change} → o.state ≡ p.state → o.emitted ≡ p.emitted → EmitsWithin potential st o a b → EmitsWithin potential st p a b
  step_same e f t = record { emits = does-same e f t.emits; less = rw (e, f) at t.less; room = t.room }

  pub step-none : {a : Change} → RoomFor potential st a → EmitsWithin potential st (stays st) a a
  step-none {a} f = record { emits = does-none st a f.holds; less = omega arith; room = f.room }

  pub step-one : {a b : Change} (st' : State) (row : Row) → RoomFor potential st a → Represents b.state.words.now st' → length row ≡ 34 → 1 + potential st' ≤ potential st
      → Tells (row ∷ []) a b → EmitsWithin potential st (becomes st' (row ∷ [])) a b
  step-one st' row f h e l t = record { emits = does-one st' row h e t; less = l; room = f.room }

  pub does-step : {o : Out} {a b : Change} → Emits o a b → RoomFor potential st a → length o.emitted + potential o.state ≤ potential st → EmitsWithin potential st o a b
  does-step d f l = record { emits = d; less = l; room = f.room }

module _ (potential : State → ℕ) {st : State} {o : Out} {a b : Change} (t : EmitsWithin potential st o a b) where
  -- what may still come has room
  pub rest-fits : RoomFor potential o.state b
  rest-fits =
      record {
        holds = t.emits.holds;
        room = omega (arith, t.less, t.room, t.emits.tells.told, t.emits.tells.long);
      }

  pub rest-room : SomeRoom potential b
  rest-room = record { state = o.state; fits = rest-fits }

  -- one step after another is one
  pub step-also : (f : State → Out) {c : Change} → EmitsWithin potential o.state (f o.state) b c → EmitsWithin potential st (also o f) a c
  step-also f u =
      record {
        emits = does-also t.emits f u.emits;
        less = unfold also in omega (arith, t.less, u.less, length-append o.emitted (f o.state).emitted);
        room = t.room;
      }
