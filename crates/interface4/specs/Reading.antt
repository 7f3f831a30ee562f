-- The calls on bytes that read.
-- Assumes nothing.
use Rattle.std.specs.Prelude.{ℕ, ◌*◌, ◌/◌, ◌-◌, ◌≤◌, ◌≡◌, Bool, true, false, cond, eqb, leb, length, take, drop}
use Rattle.std.proofs.Common.{arith, sym, ◌∙◌, take_all, eqb-true, leb-true, eq-eqb, ne_eqb}
use Rattle.std.proofs.Math.Path.{refl, ap, subst}
use mathlib.Core.List.{List, []}
use mir.Val.{bool_byte}
use Rattle.lists.specs.Lists.{Row, put}
use Rattle.lists.specs.Bools.{and_left, and_right, test-case, cond-true, cond-false}
use Rattle.layout.specs.Route as Route
use Rattle.endian.specs.Endian.{words_of, bytes_of}
use Rattle.endian.specs.Laws.{Below, words-below, bytes-none}
use Rattle.definition.specs.Words.{state_size}
use Rattle.definition.specs.Call.{Call, Numbers, numbers, refusal}
use Rattle.definition.specs.Step.{Buffer, unlent, for_listing, for_row, alters, semantics, step, listing_room}
use Rattle.definition.proofs.Preservation.Shape.{Shaped}
use Rattle.definition.specs.Noninterference.Public as Words
use Rattle.definition.specs.Noninterference.Public.{Lent, width, many}
use Rattle.definition.proofs.Noninterference.ReadBack.{shaped}
use Rattle.definition_bytes.specs.Bytes.{state_fits, row_words, with, suffices, inner, Made}
use Rattle.definition.specs.Reference.Lookup.{lookup4, lookup4_flow}
use Rattle.interface4.specs.Made.{Wrote, wrote, part-words, made_gave, made-no, made-yes}

-- ---- as many bytes as there must be
pub record EnoughRoom (n : ℕ) (s out : List ℕ) : Type 0 where
  pub state : length s ≡ 4 * state_size
  pub room : n ≤ length out

pub fits : (n : ℕ) (s out : List ℕ) → with s n (length out) ≡ true → EnoughRoom n s out
fits n s out h =
    record {
      state = eqb-true (length s) (4 * state_size) (and_left (state_fits s) (leb n (length out)) h);
      room = leb-true n (length out) (and_right (state_fits s) (leb n (length out)) h);
    }

pub row-no : (n : ℕ) (b : List ℕ) → (length b ≡ n → ⊥) → [] ≡ row_words n b
row-no n b h = sym (cond-false (eqb (length b) n) (words_of b) [] (ne_eqb (length b) n h))

pub row-yes : (n : ℕ) (b : List ℕ) → length b ≡ n → words_of b ≡ row_words n b
row-yes n b h = sym (cond-true (eqb (length b) n) (words_of b) [] (eq-eqb (length b) n h))

-- the bytes of a row that are read
abbrev pub row_size : ℕ → ℕ
row_size n = cond (eqb n (4 * Route.size)) (4 * Route.size) 0

pub row-part : (row l m : List ℕ) (k : ℕ) → k ≡ row_size (length row) → m ≡ put 0 (words_of (take (k - 0) (drop 0 row))) l
    → take (k / 4 - 0) (drop 0 m) ≡ row_words (4 * Route.size) row
row-part row l m k e f =
    let whole = eqb (length row) (4 * Route.size) in
    test-case whole
    (λ h.
    let all : k ≡ 4 * Route.size = e ∙ cond-true whole (4 * Route.size) 0 h in
    let long : length row ≡ 4 * Route.size = eqb-true (length row) (4 * Route.size) h in
    let same : take (k - 0) (drop 0 row) ≡ row = rw all (take_all (4 * Route.size) row (omega arith)) in
    rw all (part-words Route.size row l m long (f ∙ ap (λ (x : List ℕ). put 0 (words_of x) l) same) ∙ row-yes (4 * Route.size) row long))
    (λ h.
    let none : k ≡ 0 = e ∙ cond-false whole (4 * Route.size) 0 h in
    rw none (sym (cond-false whole (words_of row) [] h)))

-- ---- a call that reads, by the call on words that it is, what that call writes and how many bytes it wants
pub record OnBytes (c d : Call) (k : Buffer) (s : List ℕ) (fit : Bool) : Type 0 where
  pub inside : inner c ≡ d
  pub suffice : suffices c s ≡ fit
  pub reads : alters (semantics c).action ≡ false
  pub buffer : (semantics d).lent ≡ k

module _ {c d : Call} {k : Buffer} {s : List ℕ} {fit : Bool} (x : OnBytes c d k s fit) {w e e' : List ℕ} {n : Numbers}
    (ew : w ≡ words_of s) (m : Words.Made d w e n w e') where
  made : Words.Made (inner c) (words_of s) e n w e'
  made =
      subst (λ (v : List ℕ). Words.Made (inner c) v e n w e') ew
      (subst (λ (i : Call). Words.Made i w e n w e') (sym x.inside) m)

  written : Wrote k n (step (inner c) (words_of s)).reply.rows
  unfolding made
  written =
      let r = (step (inner c) (words_of s)).reply in
      let lent : (semantics (inner c)).lent ≡ k = ap (λ (i : Call). (semantics i).lent) x.inside ∙ x.buffer in
      wrote k r n (subst (λ (j : Buffer). Shaped j r) lent (shaped (inner c) (words_of s))) made.reply

  read-yes : (b : List ℕ) {b' : List ℕ} → Lent (semantics c).lent b → fit ≡ true → Below 256 s
      → b' ≡ put 0 (bytes_of (take (width k * many k n) e')) b → Below 4294967296 e' → Made c s b n s b'
  unfolding made written
  read-yes b l h f v g =
      made-yes c s b l (width k * many k n) (x.suffice ∙ h) (made_gave made) written.long
      (sym (cond-false (alters (semantics c).action) (bytes_of w) s x.reads)) v (subst (Below 4294967296) (sym ew) (words-below s f)) g

-- ---- a listing
module _ (s out : List ℕ) where
  list_on : OnBytes (Call.dump4 (length out)) (Call.dump4 listing_room) (for_listing listing_room) s (with s (4 * listing_room) (length out))
  list_on = record { inside = refl; suffice = refl; reads = refl; buffer = refl }

  pub listed-no : {n : Numbers} → with s (4 * listing_room) (length out) ≡ false → n ≡ numbers (refusal 200) → Made (Call.dump4 (length out)) s out n s out
  listed-no h e = made-no (Call.dump4 (length out)) s out refl h e

  module _ {w e e' : List ℕ} {n : Numbers} (ew : w ≡ words_of s) (long : length e ≡ listing_room) (m : Words.Made (Call.dump4 (length e)) w e n w e') where
    list-made : Words.Made (Call.dump4 listing_room) w e n w e'
    list-made = subst (λ (room : ℕ). Words.Made (Call.dump4 room) w e n w e') long m

    pub listing-room : Route.size * n.value ≤ listing_room
    unfolding list_on list-made written
    listing-room = (written list_on ew list-made).room

    pub listed-yes : {out' : List ℕ} → with s (4 * listing_room) (length out) ≡ true → Below 256 s → out' ≡ put 0 (bytes_of (take (Route.size * n.value) e')) out
        → Below 4294967296 e' → Made (Call.dump4 (length out)) s out n s out'
    unfolding list_on list-made
    listed-yes h f v g = read-yes list_on ew list-made out refl h f v g

-- ---- a lookup
bit : (b : Bool) → bool_byte b ≡ cond b 1 0
bit true = refl
bit false = refl

pub one : (b : Bool) → bool_byte b ≤ 1
one true = omega arith
one false = omega arith

module _ (ip tos oif : ℕ) (s out : List ℕ) where
  find_on : OnBytes (Call.lookup4_flow (length out) ip tos oif) (Call.lookup4_flow Route.size ip tos oif) (for_row Route.size) s (with s (4 * Route.size) (length out))
  find_on = record { inside = refl; suffice = refl; reads = refl; buffer = refl }

  pub found-no : {n : Numbers} → with s (4 * Route.size) (length out) ≡ false → n ≡ numbers (refusal 200) → Made (Call.lookup4_flow (length out) ip tos oif) s out n s out
  found-no h e = made-no (Call.lookup4_flow (length out) ip tos oif) s out refl h e

  pub found-yes : {w e e' out' : List ℕ} {n : Numbers} → w ≡ words_of s → length e ≡ Route.size → Words.Made (Call.lookup4_flow (length e) ip tos oif) w e n w e'
      → with s (4 * Route.size) (length out) ≡ true → Below 256 s → out' ≡ put 0 (bytes_of (take (Route.size * bool_byte (eqb n.number 0)) e')) out
      → Below 4294967296 e' → Made (Call.lookup4_flow (length out) ip tos oif) s out n s out'
  unfolding find_on
  found-yes {w} {e} {e'} {out'} {n} ew long m h f v g =
      let m' : Words.Made (Call.lookup4_flow Route.size ip tos oif) w e n w e' = subst (λ (room : ℕ). Words.Made (Call.lookup4_flow room ip tos oif) w e n w e') long m in
      read-yes find_on ew m' out refl h f (v ∙ ap (λ (i : ℕ). put 0 (bytes_of (take (Route.size * i) e')) out) (bit (eqb n.number 0))) g

-- for no type of service and any device
pub flow-any : {ip : ℕ} {s out out' : List ℕ} {n : Numbers} → Made (Call.lookup4_flow (length out) ip 0 0) s out n s out' → Made (Call.lookup4 (length out) ip) s out n s out'
unfolding lookup4 lookup4_flow
flow-any m = record { lent = m.lent; reply = m.reply; state = m.state; buffer = m.buffer; narrow = m.narrow }

-- ---- a question
no_words : Below 4294967296 []
no_words i = omega arith

-- a call that is lent no buffer, by the row that is handed over
pub record Asks (f : Row → Call) : Type 0 where
  pub on : (row : Row) (s : List ℕ) → OnBytes (f row) (f (row_words (4 * Route.size) row)) unlent s (state_fits s)
  pub unlent_is : (row : Row) → (semantics (f row)).lent ≡ unlent

pub local4-asks : (ip : ℕ) → Asks (λ row. Call.local4 ip)
local4-asks ip = record { on = λ row s. record { inside = refl; suffice = refl; reads = refl; buffer = refl }; unlent_is = λ row. refl }

pub source4-asks : (ip : ℕ) → Asks (λ row. Call.source4 row ip)
source4-asks ip = record { on = λ row s. record { inside = refl; suffice = refl; reads = refl; buffer = refl }; unlent_is = λ row. refl }

pub source-asks : (ip : ℕ) → Asks (λ row. Call.source ip)
source-asks ip = record { on = λ row s. record { inside = refl; suffice = refl; reads = refl; buffer = refl }; unlent_is = λ row. refl }

pub select4-asks : (dst_present dst scope : ℕ) → Asks (λ row. Call.select4 dst_present dst scope)
select4-asks dst_present dst scope = record { on = λ row s. record { inside = refl; suffice = refl; reads = refl; buffer = refl }; unlent_is = λ row. refl }

module _ {f : Row → Call} (k : Asks f) (row : Row) (s : List ℕ) where
  lent_none : Lent (semantics (f row)).lent []
  lent_none = subst (λ (b : Buffer). Lent b []) (sym (k.unlent_is row)) tt

  pub asked-no : {n : Numbers} → state_fits s ≡ false → n ≡ numbers (refusal 200) → Made (f row) s [] n s []
  unfolding lent_none
  asked-no h e = made-no (f row) s [] lent_none ((k.on row s).suffice ∙ h) e

  pub asked-yes : {w r : List ℕ} {n : Numbers} → w ≡ words_of s → r ≡ row_words (4 * Route.size) row → Words.Made (f r) w [] n w []
      → state_fits s ≡ true → Below 256 s → Made (f row) s [] n s []
  unfolding lent_none
  asked-yes {w} {r} {n} ew er m h low =
      let m' = subst (λ (x : Row). Words.Made (f x) w [] n w []) er m in
      read-yes (k.on row s) ew m' [] lent_none h low (bytes-none []) no_words
