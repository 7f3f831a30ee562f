-- What an event has that isn't refused: a kind from 1 to 4, flags of two bytes, a row that fits.
-- Assumes nothing.
use Rattle.std.specs.Prelude.{ℕ, zero, suc, ◌+◌, ◌*◌, ◌^◌, ◌≤◌, ◌<◌, ◌≡◌, refl, true, false, cond, ◌&&◌, ◌||◌, List, [], ◌∷◌, eqb}
use Rattle.std.specs.Prelude.{leb, ltb, length, get_or, take, drop}
use Rattle.std.proofs.Common.{sym, ap, ap₂, ◌∙◌, arith, get_or-drop, drop-cons, eqb-true, leb-true, ltb-true}
use Rattle.std.proofs.Math.Option.{none, some}
use Rattle.std.proofs.lemmas.Bool.{eqb-false}
use Rattle.lists.specs.Lists.{Row}
use Rattle.lists.specs.Bools.{and_left, and_right, and_iff, or_case, fails, true-false, test-case, cond-case}
use Rattle.life.specs.Life.{left_preferred, left_valid}
use Rattle.endian.specs.Laws.{Below}
use Rattle.prefix.specs.Mask.{host_bits}
use Rattle.layout.specs.Address as Address
use Rattle.layout.specs.Address.{fit_address, optional, permanent}
use Rattle.layout.specs.Route as Route
use Rattle.layout.specs.Route.{fit_route}
use Rattle.definition.specs.Reference.Source.{Left, left}
use Rattle.netlink.specs.Reader as Reader
use Rattle.netlink.specs.Reader.{address, flag}
use Rattle.netlink_event.specs.Written.{address_bytes, message}
use Rattle.netlink_event.proofs.Back.{address-back, or-back, given-is}
use Rattle.netlink_event.specs.Writer.{kind, flags, address_row, route_row, of_address, of_route, type_for, type_of}
use Rattle.netlink_event.specs.Writer.{address_head, address_entries, route_head, route_entries, address_message, route_message}
use Rattle.netlink_event.specs.Writer.{event_message, writes}

-- ---- n words from a place on, word by word
abbrev pub listed : ℕ → ℕ → List ℕ → List ℕ
listed zero at l = []
listed (suc n) at l = get_or l at 0 ∷ listed n (suc at) l

pub lists : (n at : ℕ) (l : List ℕ) → at + n ≤ length l → take n (drop at l) ≡ listed n at l
lists zero at l h = refl
lists (suc n) at l h =
    ap (take (suc n)) (drop-cons l at 0 (omega arith)) ∙ ap (λ (k : List ℕ). get_or l at 0 ∷ k) (lists n (suc at) l (omega arith))

-- ---- numbers of 32 bits
below-take : (k n : ℕ) (l : List ℕ) → 0 < k → Below k l → Below k (take n l)
below-take k zero l h b i = h
below-take k (suc n) [] h b i = h
below-take k (suc n) (x ∷ l) h b zero = b zero
below-take k (suc n) (x ∷ l) h b (suc i) = below-take k n l h (λ j. b (suc j)) i

pub below-drop : (k n : ℕ) (l : List ℕ) → Below k l → Below k (drop n l)
below-drop k n l b i = rw (get_or-drop n l i 0) (b (n + i))

pub below-part : (n m : ℕ) (l : List ℕ) → Below 4294967296 l → Below 4294967296 (take n (drop m l))
below-part n m l b = below-take 4294967296 n (drop m l) (omega arith) (below-drop 4294967296 m l b)

preferred-below : (preferred changed now : ℕ) → preferred < 4294967296 → left_preferred preferred changed now < 4294967296
unfolding left_preferred
preferred-below preferred changed now h =
    cond-case (λ (n : ℕ). n < 4294967296) (eqb preferred 4294967295) (λ e. omega arith) (λ e. omega arith)

valid-below : (valid preferred changed now : ℕ) → valid < 4294967296 → left_valid valid preferred changed now < 4294967296
unfolding left_valid
valid-below valid preferred changed now h =
    cond-case (λ (n : ℕ). n < 4294967296) (eqb preferred 4294967295) (λ e. h)
    (λ e. cond-case (λ (n : ℕ). n < 4294967296) (eqb valid 4294967295) (λ d. omega arith) (λ d. omega arith))

module _ (a : Row) (now : ℕ) (b : Below 4294967296 a) where
  pub left-preferred-below : (left a now).preferred < 4294967296
  unfolding left
  left-preferred-below =
      cond-case (λ (l : Left). l.preferred < 4294967296) (permanent a) (λ e. omega arith)
      (λ e. preferred-below (Address.preferred a) (Address.changed a) now (b 15))

  pub left-valid-below : (left a now).valid < 4294967296
  unfolding left
  left-valid-below =
      cond-case (λ (l : Left). l.valid < 4294967296) (permanent a) (λ e. omega arith)
      (λ e. valid-below (Address.valid a) (Address.preferred a) (Address.changed a) now (b 14))

-- ---- marks
bit-back : (n : ℕ) → n ≤ 1 → flag (eqb n 1) ≡ n
bit-back n h =
    test-case (eqb n 1) (λ e. rw e (sym (eqb-true n 1 e))) (λ e. rw e (omega (arith, h, eqb-false n 1 e)))

mark-back : (present value : ℕ) → optional present value ≡ true → flag (eqb present 1) ≡ present
mark-back present value h = bit-back present (leb-true present 1 (and_left (leb present 1) (eqb present 1 || eqb value 0) h))

absent : (present value : ℕ) → optional present value ≡ true → eqb present 1 ≡ false → value ≡ 0
absent present value h e =
    or_case (eqb present 1) (eqb value 0) (and_right (leb present 1) (eqb present 1 || eqb value 0) h)
    (λ d. absurd (true-false (eqb present 1) d e))
    (λ d. eqb-true value 0 d)

-- the mark and the value, as the reader has them
pub value-back : (p v : ℕ) → optional p v ≡ true → v < 4294967296
    → Reader.optional address (cond (eqb p 1) (some (address_bytes v)) none) ≡ p ∷ v ∷ []
value-back p v h k =
    ap₂ (λ (x y : ℕ). x ∷ y ∷ []) (ap flag (given-is (eqb p 1) (address_bytes v)) ∙ mark-back p v h)
    (or-back address (eqb p 1) (address_bytes v) v (address-back v k) (absent p v h))

-- ---- rows that fit
pub record AddressFits (a : Row) : Type 0 where
  pub long : length a ≡ 20
  pub broadcast : optional (Address.broadcast_present a) (Address.broadcast a) ≡ true
  pub short : Address.label_length a ≤ 15
  pub label : Address.label a < 2 ^ (8 * Address.label_length a)

pub fit-address : (a : Row) → fit_address a ≡ true → AddressFits a
unfolding fit_address
fit-address a h =
    let k = simp and_iff at h in
    record {
      long = eqb-true (length a) 20 k.0.0.0.0.0;
      broadcast = simp and_iff k.0.0.0.1;
      short = leb-true (Address.label_length a) 15 k.1.0;
      label = ltb-true (Address.label a) (2 ^ (8 * Address.label_length a)) k.1.1;
    }

pub record RouteFits (r : Row) : Type 0 where
  pub long : length r ≡ 32
  pub host : host_bits (Route.dst r) (Route.len r) ≡ 0
  pub prefsrc : optional (Route.prefsrc_present r) (Route.prefsrc r) ≡ true
  pub gateway : optional (Route.gateway_present r) (Route.gateway r) ≡ true
  pub device : Route.device r ≤ 1

pub fit-route : (r : Row) → fit_route r ≡ true → RouteFits r
unfolding fit_route
fit-route r h =
    let k = simp and_iff at h in
    record {
      long = eqb-true (length r) 32 k.0.0.0.0.0.0.0.0.0.0.0;
      host = eqb-true (host_bits (Route.dst r) (Route.len r)) 0 k.0.0.0.0.0.0.0.0.0.1;
      prefsrc = simp and_iff k.0.0.0.0.1;
      gateway = simp and_iff k.0.0.0.1;
      device = leb-true (Route.device r) 1 k.0.0.1;
    }

-- ---- the event
pub event-long : (e : Row) → writes e ≡ true → length e ≡ 34
unfolding writes
event-long e h = let k = simp and_iff at h in eqb-true (length e) 34 k.0.0

pub flags-fit : (e : Row) → writes e ≡ true → flags e < 65536
unfolding writes
flags-fit e h = let k = simp and_iff at h in ltb-true (flags e) 65536 k.0.1

pub one-of-two : (e : Row) → of_address e ≡ true → of_route e ≡ true → ⊥
one-of-two e h k =
    let no : (n : ℕ) → n ≤ 2 → eqb (kind e) n ≡ true → ⊥ =
    (λ n g d. or_case (eqb (kind e) 3) (eqb (kind e) 4) k
    (λ c. omega (arith, g, eqb-true (kind e) n d, eqb-true (kind e) 3 c))
    (λ c. omega (arith, g, eqb-true (kind e) n d, eqb-true (kind e) 4 c)))
    in
    or_case (eqb (kind e) 1) (eqb (kind e) 2) h (no 1 (omega arith)) (no 2 (omega arith))

pub row-of : (e : Row) {C : Type 0} → writes e ≡ true
    → (of_address e ≡ true → fit_address (address_row e) ≡ true → C) → (of_route e ≡ true → fit_route (route_row e) ≡ true → C) → C
unfolding writes
row-of e h f g =
    let a = of_address e && fit_address (address_row e) in
    let r = of_route e && fit_route (route_row e) in
    or_case a r (and_right (eqb (length e) 34 && ltb (flags e) 65536) (a || r) h)
    (λ k. f (and_left (of_address e) (fit_address (address_row e)) k) (and_right (of_address e) (fit_address (address_row e)) k))
    (λ k. g (and_left (of_route e) (fit_route (route_row e)) k) (and_right (of_route e) (fit_route (route_row e)) k))

pub row-fits : (e : Row) {C : Type 0} → writes e ≡ true
    → (of_address e ≡ true → AddressFits (address_row e) → C) → (of_route e ≡ true → RouteFits (route_row e) → C) → C
row-fits e h f g = row-of e h (λ k a. f k (fit-address (address_row e) a)) (λ k r. g k (fit-route (route_row e) r))

module _ (e : Row) (h : writes e ≡ true) where
  pub address-fits : of_address e ≡ true → fit_address (address_row e) ≡ true
  address-fits k = row-of e h (λ a f. f) (λ r f. absurd (one-of-two e k r))

  pub route-fits : of_route e ≡ true → fit_route (route_row e) ≡ true
  route-fits k = row-of e h (λ a f. absurd (one-of-two e a k)) (λ r f. f)

  pub of-address : of_address e ≡ true → AddressFits (address_row e)
  of-address k = row-fits e h (λ a f. f) (λ r f. absurd (one-of-two e k r))

  pub of-route : of_route e ≡ true → RouteFits (route_row e)
  of-route k = row-fits e h (λ a f. absurd (one-of-two e a k)) (λ r f. f)

-- ---- its message
module _ (sequence port now : ℕ) (e : Row) where
  abbrev pub address_as : ℕ → List ℕ
  address_as type = message type (flags e) sequence port (address_head (address_row e)) (address_entries now (address_row e))

  abbrev pub route_as : ℕ → List ℕ
  route_as type = message type (flags e) sequence port (route_head (route_row e)) (route_entries (route_row e))

  pub address-message : of_address e ≡ true → event_message sequence port now e ≡ address_as (type_of e)
  unfolding event_message address_message
  address-message k = rw k

  pub route-message : of_route e ≡ true → event_message sequence port now e ≡ route_as (type_of e)
  unfolding event_message route_message
  route-message k = rw (fails (of_address e) (λ a. one-of-two e a k))

  pub message-1 : kind e ≡ 1 → event_message sequence port now e ≡ address_as 20
  message-1 k = address-message (rw k) ∙ ap (λ (n : ℕ). address_as (type_for n)) k

  pub message-2 : kind e ≡ 2 → event_message sequence port now e ≡ address_as 21
  message-2 k = address-message (rw k) ∙ ap (λ (n : ℕ). address_as (type_for n)) k

  pub message-3 : kind e ≡ 3 → event_message sequence port now e ≡ route_as 24
  message-3 k = route-message (rw k) ∙ ap (λ (n : ℕ). route_as (type_for n)) k

  pub message-4 : kind e ≡ 4 → event_message sequence port now e ≡ route_as 25
  message-4 k = route-message (rw k) ∙ ap (λ (n : ℕ). route_as (type_for n)) k
