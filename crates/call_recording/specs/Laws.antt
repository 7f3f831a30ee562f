-- What rebuilding gives is what the calls answer: on words, on bytes, and of two recordings.
-- Assumes nothing.
use Rattle.std.specs.Prelude.{ℕ, zero, suc, ◌+◌, ◌*◌, ◌/◌, ◌%◌, ◌≤◌, ◌<◌, ◌≡◌, ◌≢◌, refl, Bool, true, false, ◌&&◌, List, [], ◌∷◌, ◌++◌, map, eqb, leb, length, get_or, drop, replicate, Ok, Err, MatchResult, IsErrAnd}
use Rattle.std.specs.Prelude.{Result as Answer}
use Rattle.std.specs.List.{flat_map}
use Rattle.std.specs.Simd.{first_chunks}
use Rattle.std.specs.Cmp.Lexicographic.{pointwise}
use Rattle.std.proofs.Common.{sym, ap, ap₂, ◌∙◌, arith, add-one, drop-cons, drop_of_length-le, eq-eqb, eqb-true}
use Rattle.std.proofs.Math.Nat.{div-div-eq-div-mul}
use Rattle.std.proofs.lemmas.List.{map-id}
use denote.Ref.{Bor}
use Rattle.lists.specs.Lists.{Row, flat, put, zeros, chop, eq_row}
use Rattle.lists.specs.Bools.{and_left, and_right}
use Rattle.lists.specs.Put.{put-no-rows}
use Rattle.refusal.specs.declared.Refusal.{Refusal}
use Rattle.refusal.specs.declared.Refusal.TheVariants.{WrongLength}
use Rattle.refusal.specs.Refusal.{number_of, unless}
use Rattle.refusal.specs.Laws.{failed, passed}
use Rattle.endian.specs.Endian.{words_of, bytes_of}
use Rattle.endian.specs.Laws.{length-words_of, bytes-none}
use Rattle.rows.specs.Rows.{chunks-chop}
use Rattle.definition.specs.Call.{Reply, refusal, written}
use Rattle.definition.specs.Step.{listing_room}
use Rattle.definition_recording.specs.Recording.{Rebuilt, rows, event, next, rebuild_from, whole, events_of, rebuilt, rebuilt_reply, rebuild_call, same_rows, compared_reply, same_call}
use Rattle.definition_bytes.specs.Recording.{whole_bytes, rebuild_on_bytes, same_on_bytes}
use Rattle.definition_bytes.specs.Laws.{rows-bytes}
use Rattle.call_read.specs.Answer.{Says, Writes, Numbers, valuing}
use Rattle.call_read.specs.Laws.{exit, says-refusal}
use Rattle.step_rebuild.specs.Holds.{HoldsRows, Accepted, Denies}

-- a local of n zeros
pub fresh : (n : ℕ) → replicate n 0 ≡ zeros n
unfolding zeros
fresh zero = refl
fresh (suc n) = ap (λ (l : List ℕ). 0 ∷ l) (fresh n)

-- an event at its place among those mapped
pub mapped : {A : Type 0} (f : A → Row) (xs : List A) (i : ℕ) (x : A) → i < length xs → x ≡ get_or xs i x → get_or (map f xs) i [] ≡ f x
mapped f [] i x h e = absurd (omega arith)
mapped f (y ∷ xs) zero x h e = ap f (sym e)
mapped f (y ∷ xs) (suc i) x h e = mapped f xs i x (omega arith) e

-- ---- a pass over events, from rows: the words hold those of the events before place i
pub record Sofar (events : List Row) (w : List ℕ) (i : ℕ) (l : List Row) : Type 0 where
  pub list : List Row
  pub holds : HoldsRows w list
  pub rest : rebuild_from events l ≡ rebuild_from (drop i events) list

pub sofar-start : (events : List Row) {w : List ℕ} (l : List Row) → HoldsRows w l → Sofar events w 0 l
sofar-start events l h = record { list = l; holds = h; rest = refl }

module _ (events : List Row) {w : List ℕ} (i : ℕ) {l : List Row} (s : Sofar events w i l) where
  pub sofar-end : length events ≤ i → Accepted (rebuild_from events l) w
  unfolding rebuild_from
  sofar-end b =
      let none_left : drop i events ≡ [] = drop_of_length-le events {i = i} b in
      record { list = s.list; is = s.rest ∙ ap (λ (m : List Row). rebuild_from m s.list) none_left; holds = s.holds }

  module _ (b : i < length events) {e : Row} (here : get_or events i [] ≡ e) where
    one_more : rebuild_from events l ≡ next (event e s.list) (rebuild_from (drop (i + 1) events))
    unfolding rebuild_from
    one_more = s.rest ∙ rw (add-one, drop-cons events i [] b, here)

    pub sofar-refused : (x : Refusal) → Denies (event e s.list) x → Denies (rebuild_from events l) x
    sofar-refused x it = (one_more ∙ ap (λ (y : Rebuilt). next y (rebuild_from (drop (i + 1) events))) it.0, it.1)

    pub sofar-next : {u : List ℕ} → Accepted (event e s.list) u → Sofar events u (i + 1) l
    sofar-next it =
        record {
          list = it.list;
          holds = it.holds;
          rest = one_more ∙ ap (λ (x : Rebuilt). next x (rebuild_from (drop (i + 1) events))) it.is;
        }

-- ---- what an answer says of what a rebuilding comes to: its rows, which are few, or its refusal
abbrev pub Gives : Rebuilt → Answer (Bor (List Row)) Refusal → Type 0
Gives x r = MatchResult r (λ l. (x ≡ rows l.now) × (length l.now ≤ 256)) (Denies x)

pub gives-no : (x : Rebuilt) (t : Answer (Bor (List Row)) Refusal) (e : Refusal) → IsErrAnd t (λ y. y ≡ e) → Denies x e → Gives x t
gives-no x t e h d = rw (exit h) d

-- ---- a refusal that is handed on
module _ {A : Type 0} {by : A → Numbers} (x : Reply) (e : Refusal) (t : Answer A Refusal)
    (is : x ≡ refusal (number_of e)) (some : number_of e ≢ 0) (handed : IsErrAnd t (λ y. y ≡ e)) where
  pub says-no : Says by x t
  says-no = rw (is, exit handed) (says-refusal (refl, some))

  pub writes-no : (b : List ℕ) → Writes by x b b t
  writes-no b = record { refuses = says-no.refuses; says = says-no.says; rows = put-no-rows b ∙ ap (λ (y : Reply). put 0 (flat y.rows) b) (sym is) }

pub bytes-no : {x : Reply} {n : ℕ} (b : List ℕ) → x ≡ refusal n → b ≡ put 0 (bytes_of (flat x.rows)) b
unfolding flat
bytes-no b is = rw is (bytes-none b)

-- ---- the rows, as they are lent
pub flattened : (l : List Row) → flat_map (λ x. x) l ≡ flat l
unfolding flat
flattened [] = refl
flattened (r ∷ l) = ap (λ (m : List ℕ). r ++ m) (flattened l)

pub same-pointwise : (l m : List Row) → pointwise (pointwise eqb) l m ≡ same_rows l m
same-pointwise [] [] = refl
same-pointwise [] (y ∷ m) = refl
same-pointwise (x ∷ l) [] = refl
same-pointwise (x ∷ l) (y ∷ m) = ap₂ (λ (p q : Bool). p && q) (row_pointwise x y) (same-pointwise l m)
  where
    row_pointwise : (a b : Row) → pointwise eqb a b ≡ eq_row a b
    row_pointwise [] [] = refl
    row_pointwise [] (y ∷ b) = refl
    row_pointwise (x ∷ a) [] = refl
    row_pointwise (x ∷ a) (y ∷ b) = ap (λ (q : Bool). eqb x y && q) (row_pointwise a b)

-- ---- the events, as they are lent
pub words-events : (w : List ℕ) → map (λ e. e) (first_chunks 34 (length w / 34) w) ≡ events_of w
words-events w = map-id (first_chunks 34 (length w / 34) w) ∙ chunks-chop 34 (length w / 34) w

pub bytes-events : (b : List ℕ) → map words_of (first_chunks 136 (length b / 136) b) ≡ events_of (words_of b)
bytes-events b =
    let count : length (words_of b) / 34 ≡ length b / 136 = ap (λ (n : ℕ). n / 34) (length-words_of b) ∙ div-div-eq-div-mul (length b) 4 34 in
    ap (map words_of) (chunks-chop 136 (length b / 136) b) ∙ rows-bytes 34 (length b / 136) b ∙ ap (λ (n : ℕ). chop 34 n (words_of b)) (sym count)

-- bytes that are whole event rows are words that are
whole_words : (b : List ℕ) → whole_bytes b ≡ true → whole (words_of b) ≡ true
whole_words b h =
    let none_left : length b % 136 ≡ 0 = eqb-true (length b % 136) 0 h in
    eq-eqb (length (words_of b) % 34) 0 (omega (arith, length-words_of b))

-- the test of a lent part that is behind the last whole row
pub nothing-left : (k : ℕ) (w : List ℕ) {b : Bool} {n : ℕ} → b ≡ eqb n 0 → n ≡ length w % k → b ≡ eqb (length w % k) 0
nothing-left k w e f = e ∙ ap (λ (n : ℕ). eqb n 0) f

-- ---- the calls, by whether lengths are right
module _ (room : ℕ) (recording : List ℕ) where
  pub rebuild_unfit : (whole recording && leb listing_room room) ≡ false → rebuild_call room recording ≡ refusal 200
  unfolding rebuild_call
  rebuild_unfit e = rw e

  pub rebuild_fit : (whole recording && leb listing_room room) ≡ true → rebuild_call room recording ≡ rebuilt_reply (rebuild_from (events_of recording) [])
  unfolding rebuild_call rebuilt
  rebuild_fit e = rw e

  pub bytes-unfit : (whole_bytes recording && leb (4 * listing_room) room) ≡ false → rebuild_on_bytes room recording ≡ refusal 200
  unfolding rebuild_on_bytes
  bytes-unfit e = rw e

  pub bytes-fit : (whole_bytes recording && leb (4 * listing_room) room) ≡ true → rebuild_on_bytes room recording ≡ rebuilt_reply (rebuild_from (events_of (words_of recording)) [])
  unfolding rebuild_on_bytes rebuild_call rebuilt
  bytes-fit e = rw (e, whole_words recording (and_left (whole_bytes recording) (leb (4 * listing_room) room) e))

module _ (first second : List ℕ) where
  pub same-unfit : (whole first && whole second) ≡ false → same_call first second ≡ refusal 200
  unfolding same_call
  same-unfit e = rw e

  pub same-fit : (whole first && whole second) ≡ true
      → same_call first second ≡ compared_reply (rebuild_from (events_of first) []) (rebuild_from (events_of second) [])
  unfolding same_call rebuilt
  same-fit e = rw e

  pub same-bytes-unfit : (whole_bytes first && whole_bytes second) ≡ false → same_on_bytes first second ≡ refusal 200
  unfolding same_on_bytes
  same-bytes-unfit e = rw e

  pub same-bytes-fit : (whole_bytes first && whole_bytes second) ≡ true
      → same_on_bytes first second ≡ compared_reply (rebuild_from (events_of (words_of first)) []) (rebuild_from (events_of (words_of second)) [])
  unfolding same_on_bytes same_call rebuilt
  same-bytes-fit e =
      rw (e, whole_words first (and_left (whole_bytes first) (whole_bytes second) e), whole_words second (and_right (whole_bytes first) (whole_bytes second) e))

-- ---- a call by its check: refused, or what it is behind that
module _ (x : Reply) (b : Bool) {c : Bool} (same : c ≡ b) {r : Answer (Unit {0}) Refusal} (h : r ≡ unless c WrongLength) where
  pub call-refused : (e : Refusal) → r ≡ Err e → (b ≡ false → x ≡ refusal 200) → (x ≡ refusal (number_of e)) × (number_of e ≢ 0)
  call-refused e k f =
      let why = failed b WrongLength e (sym k ∙ h ∙ ap (λ (y : Bool). unless y WrongLength) same) in
      let number : number_of e ≡ 200 = ap number_of why.1 in
      (f why.0 ∙ ap refusal (sym number), λ z. omega (arith, number, z))

  pub call-passed : {u : Unit {0}} → r ≡ Ok u → b ≡ true
  call-passed k = passed b WrongLength (sym k ∙ h ∙ ap (λ (y : Bool). unless y WrongLength) same)

-- and then by what its events, as they are lent, rebuild
module _ {y : Reply} {lent events : List Row} (f : y ≡ rebuilt_reply (rebuild_from events [])) (g : lent ≡ events) where
  pub reply-refused : (e : Refusal) → Denies (rebuild_from lent []) e → y ≡ refusal (number_of e)
  reply-refused e d = f ∙ ap (λ (l : List Row). rebuilt_reply (rebuild_from l [])) (sym g) ∙ ap rebuilt_reply d.0

  pub reply-rows : (l : List Row) → rebuild_from lent [] ≡ rows l → y ≡ written l
  reply-rows l d = f ∙ ap (λ (m : List Row). rebuilt_reply (rebuild_from m [])) (sym g) ∙ ap rebuilt_reply d

pub says-rows : (l : List Row) {n : ℕ} → n ≡ length l → Says valuing (written l) (Ok n)
says-rows l e = record { refuses = refl; says = ap valuing e }

pub both-lent : {a b c d : List Row} → a ≡ c → b ≡ d
    → compared_reply (rebuild_from c []) (rebuild_from d []) ≡ compared_reply (rebuild_from a []) (rebuild_from b [])
both-lent e f = ap₂ (λ (l m : List Row). compared_reply (rebuild_from l []) (rebuild_from m [])) (sym e) (sym f)
