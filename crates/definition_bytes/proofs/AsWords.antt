-- A call on bytes is the call on words that `as_words` says, with its checks, whatever the bytes lack.
-- Assumes nothing.
use Rattle.std.specs.Prelude.{ℕ, ◌*◌, ◌≡◌, refl, Bool, true, false, ◌&&◌, List, eqb, leb, length, take}
use Rattle.std.proofs.Common.{arith, ap, ap₂, ◌∙◌, length-take, eqb-true, eq-eqb, leb-true, le-leb}
use Rattle.std.proofs.Math.Bool.{and-false}
use Rattle.lists.specs.Bools.{and_left, and_right, and_rest, and_iff, fails, test-case, cond-true, cond-false, true-false}
use Rattle.endian.specs.Endian.{words_of}
use Rattle.definition.specs.Words.{state_size}
use Rattle.definition.specs.Call.{Call}
use Rattle.definition.specs.Step.{refuses, Checks, Action, changes, replies, lists, alters, checked, changing, reading, act, semantics, step, request_is}
use Rattle.definition_bytes.specs.Bytes.{state_fits, Handed, nothing, request, row, Room, without, at_least, handed_is, room_is, Traits, marshalled, room_on, lends, hands, suffices, given, least, inner, request_in, handed_in, lent_in, as_words}

-- ---- lacking buffers are refused with 200
no-buffers : (k : Checks) (w : List ℕ) → k.buffers ≡ false → checked k w ≡ 200
no-buffers k w h = let e : eqb (length w) state_size && k.buffers ≡ false = ap (λ b. eqb (length w) state_size && b) h ∙ and-false (eqb (length w) state_size) in rw e

pub lacking : (c : Call) (w : List ℕ) → (semantics c).checks.buffers ≡ false → step c w ≡ refuses 200 w
unfolding changing reading
lacking c w h = go (semantics c).action
  where
    k : Checks
    k = (semantics c).checks

    go : (a : Action) → act a k w ≡ refuses 200 w
    go (changes listed f) = rw (no-buffers k w h)
    go (replies f) = rw (no-buffers k w h)
    go (lists f) = rw (no-buffers k w h)

-- ---- what is handed over, and the room
handed-yes : (h : Handed) (rest : Bool) → hands h rest ≡ true → (handed_in h ≡ given h) × (rest ≡ true)
handed-yes nothing rest e = (refl, e)
handed-yes (request size q) rest e =
    let long = eqb (length q) (4 * size) in
    (cond-true long (words_of q) (take 1 (words_of q)) (and_left long rest e), and_right long rest e)
handed-yes (row size b) rest e = (refl, e)

handed-no : (h : Handed) (rest fits : Bool) → (rest ≡ false → fits ≡ false) → hands h rest ≡ false → handed_is h (handed_in h) fits ≡ false
handed-no nothing rest fits f e = f e
handed-no (request size q) rest fits f e =
    let long = eqb (length q) (4 * size) in
    let r = request_in size q in
    fails (leb 2 size && (request_is size r && fits)) (λ t.
    let p = simp and_iff at t in
    test-case long
    (λ l. true-false fits p.1.1 (f (and_rest long rest l e)))
    (λ l.
    let one : r ≡ take 1 (words_of q) = cond-false long (words_of q) (take 1 (words_of q)) l in
    omega (arith, leb-true 2 size p.0, eqb-true (length r) size p.1.0, ap length one, length-take 1 (words_of q))))
handed-no (row size b) rest fits f e = f e

module _ (s : List ℕ) where
  room-yes : (m : Room) → lends m s ≡ true → lent_in m ≡ least m
  room-yes without e = refl
  room-yes (at_least size bytes) e = cond-true (leb (4 * size) bytes) size 0 (and_right (state_fits s) (leb (4 * size) bytes) e)

  room-no : (m : Room) → state_fits s ≡ true → lends m s ≡ false → room_is m (lent_in m) ≡ false
  room-no without f e = absurd (true-false (state_fits s) f e)
  room-no (at_least size bytes) f e =
      let lacks = and_rest (state_fits s) (leb (4 * size) bytes) f e in
      ap (leb size) (cond-false (leb (4 * size) bytes) size 0 lacks)
      ∙ fails (leb size 0) (λ t. true-false (leb (4 * size) bytes) (le-leb (4 * size) bytes (omega (arith, leb-true size 0 t))) lacks)

-- ---- what the call on words is, where the bytes suffice and where they don't; and it is of the same kind
pub record Is (c : Call) (s : List ℕ) : Type 0 where
  pub kind : alters (semantics (as_words c)).action ≡ alters (semantics c).action
  pub yes : suffices c s ≡ true → as_words c ≡ inner c
  pub no : suffices c s ≡ false → (semantics (as_words c)).checks.buffers ≡ false

pub is : (s : List ℕ) → length s ≡ 4 * state_size → (c : Call) → Is c s
is s long c =
    let m = marshalled c in
    let h = m.handed in
    let room = room_on c in
    let same = m.same (handed_in h) (lent_in room) in
    record {
      kind = ap (λ (x : Traits). x.changes) same;
      yes = λ e. let y = handed-yes h (lends room s) e in ap₂ m.call y.0 (room-yes s room y.1);
      no = λ e.
          ap (λ (x : Traits). x.buffers) same
          ∙ handed-no h (lends room s) (room_is room (lent_in room)) (room-no s room (eq-eqb (length s) (4 * state_size) long)) e;
    }
