-- 201 has these causes and no others, 200 goes first, and of an event only the row of its kind is looked at.
-- Assumes nothing.
use Rattle.std.specs.Prelude.{ℕ, suc, ◌*◌, ◌-◌, ◌≤◌, ◌<◌, ◌≡◌, ◌≢◌, Bool, true, false, ◌&&◌, ◌||◌, List, [], ◌∷◌, eqb, leb, ltb, length, get_or}
use Rattle.std.specs.Prelude.{take, drop}
use Rattle.std.proofs.Common.{sym, ap, ◌∙◌, arith, eqb-true, eq-eqb, ne_eqb, lt-ltb, le-leb, leb-true, ltb-false, get_or-take}
use Rattle.std.proofs.lemmas.Bool.{eqb-false}
use Rattle.std.proofs.lemmas.List.{drop-take}
use Rattle.std.proofs.Math.Bool.{or-false}
use Rattle.lists.specs.Lists.{Row}
use Rattle.lists.specs.Bools.{or_case, test-case, fails, true-false}
use Rattle.endian.specs.Endian.{words_of}
use Rattle.layout.specs.Event as Event
use Rattle.layout.specs.Address.{fit_address}
use Rattle.layout.specs.Route.{fit_route}
use Rattle.definition.specs.Call.{refusal}
use Rattle.netlink_event.specs.Written.{message}
use Rattle.netlink_event.specs.Writer.{kind, flags, address_row, route_row, of_address, of_route, address_head, address_entries}
use Rattle.netlink_event.specs.Writer.{event_message, writes, sent, write_call, write_on_bytes}
use Rattle.netlink_event.proofs.Fit.{one-of-two, address-message, event-long, flags-fit, row-fits, address-fits, route-fits}

-- why an event is refused by 201
pub data Unwritable (e : Row) : Type 0 where
  no_event : (length e ≡ 34 → ⊥) → Unwritable e
  wide_flags : 65535 < flags e → Unwritable e
  other_kind : of_address e ≡ false → of_route e ≡ false → Unwritable e
  unfit_address : of_address e ≡ true → fit_address (address_row e) ≡ false → Unwritable e
  unfit_route : of_route e ≡ true → fit_route (route_row e) ≡ false → Unwritable e

module _ (e : Row) where
  takes-address : eqb (length e) 34 ≡ true → ltb (flags e) 65536 ≡ true → of_address e ≡ true → fit_address (address_row e) ≡ true
      → writes e ≡ true
  unfolding writes
  takes-address l f a g = rw (l, f, a, g)

  takes-route : eqb (length e) 34 ≡ true → ltb (flags e) 65536 ≡ true → of_address e ≡ false → of_route e ≡ true
      → fit_route (route_row e) ≡ true → writes e ≡ true
  unfolding writes
  takes-route l f a r g = rw (l, f, a, r, g)

  -- no other cause
  pub only-these : writes e ≡ false → Unwritable e
  only-these h =
      test-case (eqb (length e) 34)
      (λ l. test-case (ltb (flags e) 65536)
      (λ f. test-case (of_address e)
      (λ a. test-case (fit_address (address_row e)) (λ g. absurd (true-false (writes e) (takes-address l f a g) h)) (λ g. unfit_address a g))
      (λ a. test-case (of_route e)
      (λ r. test-case (fit_route (route_row e)) (λ g. absurd (true-false (writes e) (takes-route l f a r g) h)) (λ g. unfit_route r g))
      (λ r. other_kind a r)))
      (λ f. wide_flags (omega (arith, ltb-false (flags e) 65536 f))))
      (λ l. no_event (eqb-false (length e) 34 l))

  -- each is one
  pub each-refuses : Unwritable e → writes e ≡ false
  each-refuses (no_event h) = fails (writes e) (λ w. h (event-long e w))
  each-refuses (wide_flags h) = fails (writes e) (λ w. omega (arith, h, flags-fit e w))
  each-refuses (other_kind a r) =
      fails (writes e) (λ w. row-fits e w (λ k f. true-false (of_address e) k a) (λ k f. true-false (of_route e) k r))
  each-refuses (unfit_address a g) = fails (writes e) (λ w. true-false (fit_address (address_row e)) (address-fits e w a) g)
  each-refuses (unfit_route r g) = fails (writes e) (λ w. true-false (fit_route (route_row e)) (route-fits e w r) g)

-- kinds as numbers
pub low-kind : (e : Row) → 1 ≤ kind e → kind e ≤ 2 → of_address e ≡ true
low-kind e a b =
    test-case (eqb (kind e) 1) (λ h. rw h) (λ h. let two : kind e ≡ 2 = omega (arith, eqb-false (kind e) 1 h) in rw (h, eq-eqb (kind e) 2 two))

pub high-kind : (e : Row) → 3 ≤ kind e → kind e ≤ 4 → of_route e ≡ true
high-kind e a b =
    test-case (eqb (kind e) 3) (λ h. rw h) (λ h. let four : kind e ≡ 4 = omega (arith, eqb-false (kind e) 3 h) in rw (h, eq-eqb (kind e) 4 four))

pub no-kind : (e : Row) → (1 ≤ kind e → kind e ≤ 4 → ⊥) → writes e ≡ false
no-kind e h =
    each-refuses e
    (other_kind (fails (of_address e) (λ a. or_case (eqb (kind e) 1) (eqb (kind e) 2) a (λ q. at 0 (eqb-true (kind e) 1 q) (omega arith)) (λ q. at 1 (eqb-true (kind e) 2 q) (omega arith))))
    (fails (of_route e) (λ r. or_case (eqb (kind e) 3) (eqb (kind e) 4) r (λ q. at 2 (eqb-true (kind e) 3 q) (omega arith)) (λ q. at 3 (eqb-true (kind e) 4 q) (omega arith)))))
  where
    at : (n : ℕ) → kind e ≡ suc n → n < 4 → ⊥
    at n q k = h (omega (arith, q)) (omega (arith, q))

-- what is left to look at, case by case
module _ (e : Row) (long : length e ≡ 34) (narrow : flags e ≤ 65535) where
  pub by-address : of_address e ≡ true → fit_address (address_row e) ≡ writes e
  by-address a =
      test-case (fit_address (address_row e))
      (λ g. g ∙ sym (takes-address e (eq-eqb (length e) 34 long) (lt-ltb (flags e) 65536 (omega arith)) a g))
      (λ g. g ∙ sym (each-refuses e (unfit_address a g)))

  pub by-route : of_route e ≡ true → fit_route (route_row e) ≡ writes e
  by-route r =
      let a : of_address e ≡ false = fails (of_address e) (λ a. one-of-two e a r) in
      test-case (fit_route (route_row e))
      (λ g. g ∙ sym (takes-route e (eq-eqb (length e) 34 long) (lt-ltb (flags e) 65536 (omega arith)) a r g))
      (λ g. g ∙ sym (each-refuses e (unfit_route r g)))

-- ---- words behind an address row aren't looked at
only-address : (e : Row) → of_address e ≡ true
    → writes e ≡ eqb (length e) 34 && ltb (flags e) 65536 && fit_address (address_row e)
unfolding writes
only-address e a =
    rw (a, fails (of_route e) (λ r. one-of-two e a r))
    (ap (λ (b : Bool). eqb (length e) 34 && ltb (flags e) 65536 && b) (or-false (fit_address (address_row e))))

module _ (e f : Row) (a : of_address e ≡ true) (long : length e ≡ length f) (same : take 22 e ≡ take 22 f) where
  word : (i : ℕ) → i < 22 → get_or e i 0 ≡ get_or f i 0
  word i h = sym (get_or-take 22 e i 0 h) ∙ ap (λ (l : Row). get_or l i 0) same ∙ get_or-take 22 f i 0 h

  alike : of_address f ≡ true
  alike = ap (λ (k : ℕ). eqb k 1 || eqb k 2) (sym (word 0 (omega arith))) ∙ a

  same-row : address_row e ≡ address_row f
  same-row = sym (drop-take 2 20 e) ∙ ap (drop 2) same ∙ drop-take 2 20 f

  pub behind-writes : writes e ≡ writes f
  behind-writes =
      only-address e a
      ∙ (λ i. eqb (long i) 34 && ltb (word 1 (omega arith) i) 65536 && fit_address (same-row i))
      ∙ sym (only-address f alike)

  pub behind-message : (sequence port now : ℕ) → event_message sequence port now e ≡ event_message sequence port now f
  behind-message sequence port now =
      address-message sequence port now e a
      ∙ (λ i. message (get_or (20 ∷ 21 ∷ 24 ∷ 25 ∷ []) (word 0 (omega arith) i - 1) 0) (word 1 (omega arith) i) sequence port
      (address_head (same-row i)) (address_entries now (same-row i)))
      ∙ sym (address-message sequence port now f alike)

-- ---- 200 before 201
module _ (room sequence port now : ℕ) (e : Row) where
  pub short-room : room < 216 → write_call room sequence port now e ≡ refusal 200
  unfolding write_call
  short-room h = rw (fails (leb 216 room) (λ f. omega (arith, leb-true 216 room f)))

  pub unwritten : 216 ≤ room → writes e ≡ false → write_call room sequence port now e ≡ refusal 201
  unfolding write_call
  unwritten h f = rw (le-leb 216 room h, f)

  pub is-sent : 216 ≤ room → writes e ≡ true → write_call room sequence port now e ≡ sent (event_message sequence port now e)
  unfolding write_call
  is-sent h f = rw (le-leb 216 room h, f)

-- ---- on bytes: 200 first, then 201 for what isn't an event row's words whole
module _ (room sequence port now : ℕ) (b : List ℕ) where
  pub short-bytes : room < 216 → write_on_bytes room sequence port now b ≡ refusal 200
  unfolding write_on_bytes
  short-bytes h = rw (fails (leb 216 room) (λ f. omega (arith, leb-true 216 room f)))

  pub cut-bytes : 216 ≤ room → length b ≢ 4 * Event.size → write_on_bytes room sequence port now b ≡ refusal 201
  unfolding write_on_bytes
  cut-bytes h k = rw (le-leb 216 room h, ne_eqb (length b) (4 * Event.size) k)

  pub whole-bytes : 216 ≤ room → length b ≡ 4 * Event.size
      → write_on_bytes room sequence port now b ≡ write_call room sequence port now (words_of b)
  unfolding write_on_bytes
  whole-bytes h k = rw (le-leb 216 room h, eq-eqb (length b) (4 * Event.size) k)
