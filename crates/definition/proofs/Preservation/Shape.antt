-- Replies whose rows can be read back from the buffer: of a call's kind of row, as many as its numbers say, and no more than the
-- buffer has room for.
-- Assumes nothing.
use Rattle.std.specs.Prelude.{ℕ, ◌*◌, ◌≤◌, ◌≡◌, refl, true, false, eqb, leb, length}
use Rattle.std.proofs.Common.{arith, ne_eqb, leb-true}
use Rattle.std.proofs.Math.Option.{Option, none, some}
use Rattle.lists.specs.Rows.{sized}
use Rattle.layout.specs.Route as Route
use Rattle.layout.specs.Route.{fit_route}
use Rattle.definition.specs.State.{State}
use Rattle.definition.specs.Call.{Reply, numbers, refusal, valued, written, optionally, found_row}
use Rattle.definition.specs.Reference.Lookup as Lookup
use Rattle.definition.specs.Reference.Lookup.{Flow, lookup_in}
use Rattle.definition.specs.Reference.Source.{dump4}
use Rattle.definition.specs.Step.{Buffer, unlent, for_events, for_listing, for_row, listing_room}
use Rattle.definition.specs.Preservation.Fit.{fit-state, length-route}
use Rattle.definition.specs.Preservation.Encode.{Admissible}
use Rattle.definition.proofs.Preservation.Numbers.{OfFound, lookup-number}
use Rattle.definition.proofs.Preservation.Reading.{dump4-listing, FoundIn, lookup-fit}
use Rattle.definition.specs.Noninterference.Public.{room_of, width, many}

pub record Shaped (k : Buffer) (r : Reply) : Type 0 where
  pub counts : many k (numbers r) ≡ length r.rows
  pub size : sized (width k) r.rows ≡ true
  pub room : width k * length r.rows ≤ room_of k

-- a refusal by its number has none
pub refusal-shaped : (k : Buffer) (n : ℕ) → eqb n 0 ≡ false → Shaped k (refusal n)
refusal-shaped unlent n h = record { counts = refl; size = refl; room = omega arith }
refusal-shaped (for_events room) n h = record { counts = refl; size = refl; room = omega arith }
refusal-shaped (for_listing room) n h = record { counts = refl; size = refl; room = omega arith }
refusal-shaped (for_row room) n h = record { counts = rw h; size = refl; room = omega arith }

-- a listing, a lookup's row, where the buffer suffices
pub listing-shaped : (room : ℕ) (st : State) → Admissible st → leb listing_room room ≡ true → Shaped (for_listing room) (written (dump4 st))
listing-shaped room st g p =
    let l = dump4-listing st g in
    record { counts = refl; size = l.1; room = omega (arith, l.0, leb-true listing_room room p) }

found-shaped : (room : ℕ) (x : Lookup.Found) → leb Route.size room ≡ true → FoundIn fit_route x → OfFound x → Shaped (for_row room) (found_row x)
found-shaped room (Lookup.route r) p h o = record { counts = refl; size = rw (length-route r h); room = omega (arith, leb-true Route.size room p) }
found-shaped room (Lookup.no_route n) p h o = refusal-shaped (for_row room) n (ne_eqb n 0 (λ e. omega (arith, o.positive)))

pub lookup-shaped : (room : ℕ) (st : State) (f : Flow) → Admissible st → leb Route.size room ≡ true → Shaped (for_row room) (found_row (lookup_in st f))
lookup-shaped room st f g p = found-shaped room (lookup_in st f) p (lookup-fit st f (fit-state st g.fits)) (lookup-number st f)

-- an answer in numbers alone
pub valued-shaped : (v : ℕ) → Shaped unlent (valued v)
valued-shaped v = record { counts = refl; size = refl; room = omega arith }

pub optionally-shaped : (o : Option ℕ) → Shaped unlent (optionally o)
optionally-shaped none = record { counts = refl; size = refl; room = omega arith }
optionally-shaped (some v) = record { counts = refl; size = refl; room = omega arith }
