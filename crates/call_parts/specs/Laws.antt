-- A part of a listing, cut from the words of the whole.
-- Assumes nothing.
use Rattle.std.specs.Prelude.{ℕ, ◌+◌, ◌-◌, ◌*◌, ◌≤◌, min, ◌≡◌, refl, true, not, ◌||◌, List, [], ◌∷◌, ◌++◌, eqb, leb, length, get_or, take, drop, Ok, Err, IsErrAnd}
use Rattle.std.specs.Prelude.{Result as Answer}
use Rattle.std.proofs.Common.{arith, sym, ap, ◌∙◌, append_assoc, length-drop, drop_of_length-le, drop_at, take_at, take_all, leb-true, leb-false}
use Rattle.lists.specs.Lists.{Row, flat, put}
use Rattle.lists.specs.Rows.{sized}
use Rattle.lists.specs.At.{all_drop, length-flat-take, flat-cut}
use Rattle.lists.specs.Bools.{test-case}
use Rattle.lists.specs.Put.{put-no-rows, put_whole}
use Rattle.refusal.specs.declared.Refusal.{Refusal}
use Rattle.refusal.specs.Refusal.{Refuses}
use Rattle.definition.specs.Words.{state_of, change_count, largest_count}
use Rattle.definition.specs.Call.{refusal}
use Rattle.definition.specs.Step.{checked}
use Rattle.definition.specs.Reference.Source.{dump4}
use Rattle.definition_parts.specs.Parts.{cursor_place, cursor_count, part_rows, end_reached, PartResult, part, part_checks}
use Rattle.definition_parts.specs.Laws.{part-passed, part-refused}
use Rattle.call_read.specs.Answer.{Says, Writes}
use Rattle.call_read.specs.Laws.{exit, refuses_some, says-refusal}
use Rattle.call_parts.specs.declared.Part.{Part}
use Rattle.call_parts.specs.declared.Place.{Place}
use Rattle.call_parts.specs.Answer.{part_by, from, part_call}

-- past the end there is nothing
drop-min : (n : ℕ) (l : List Row) → drop (min (length l) n) l ≡ drop n l
drop-min n l =
    test-case (leb n (length l))
    (λ e. ap (λ (k : ℕ). drop k l) (omega (arith, leb-true n (length l) e)))
    (λ e.
    let past = leb-false n (length l) e in
    drop_of_length-le l {i = min (length l) n} (omega (arith, past)) ∙ sym (drop_of_length-le l {i = n} (omega (arith, past))))

take-min : (n : ℕ) (l : List Row) → take (min (length l) n) l ≡ take n l
take-min n l =
    test-case (leb n (length l))
    (λ e. ap (λ (k : ℕ). take k l) (omega (arith, leb-true n (length l) e)))
    (λ e.
    let past = leb-false n (length l) e in
    take_all (min (length l) n) l (omega (arith, past)) ∙ sym (take_all n l (omega (arith, past))))

-- the rows of a run are a run of the rows' words
flat-run : (l : List Row) (from n : ℕ) → sized 32 l ≡ true → from + n ≤ length l → (rest : List ℕ) → take (32 * n) (drop (32 * from) (flat l ++ rest)) ≡ flat (take n (drop from l))
flat-run l from n s h rest =
    let d = drop from l in
    let sd : sized 32 d ≡ true = all_drop (λ r. eqb (length r) 32) from l s in
    let behind : drop (32 * from) (flat l ++ rest) ≡ flat d ++ rest =
    ap (λ (x : List ℕ). drop (32 * from) (x ++ rest)) (flat-cut 32 l from s)
    ∙ ap (drop (32 * from)) (append_assoc (flat (take from l)) (flat d) rest)
    ∙ drop_at (flat (take from l)) (flat d ++ rest) (32 * from) (length-flat-take 32 l from s (omega (arith, h)))
    in
    let fits : n ≤ length d = simp length-drop (omega (arith, h)) in
    ap (take (32 * n)) behind
    ∙ ap (λ (x : List ℕ). take (32 * n) (x ++ rest)) (flat-cut 32 d n sd)
    ∙ ap (take (32 * n)) (append_assoc (flat (take n d)) (flat (drop n d)) rest)
    ∙ take_at (flat (take n d)) (flat (drop n d) ++ rest) (32 * n) (length-flat-take 32 d n sd fits)

-- the words from one place up to another are those of a part
module _ (l : List Row) (place rows : ℕ) {from to : ℕ} (f : from ≡ min (length l) place) (t : to ≡ min (length l) (from + rows)) (s : sized 32 l ≡ true) where
  here : take (to - from) (drop from l) ≡ part_rows place rows l
  here =
      let start : drop from l ≡ drop place l = ap (λ (k : ℕ). drop k l) f ∙ drop-min place l in
      let count : to - from ≡ min (length (drop from l)) rows = simp length-drop (omega (arith, f, t)) in
      ap (λ (k : ℕ). take k (drop from l)) count ∙ take-min rows (drop from l) ∙ ap (take rows) start

  pub part-words : (listing own : List ℕ) {listing' all : List ℕ} → all ≡ put 0 (flat l) own → listing' ≡ put 0 (take (32 * to - 32 * from) (drop (32 * from) all)) listing
      → listing' ≡ put 0 (flat (part_rows place rows l)) listing
  unfolding put
  part-words listing own {all = all} a e =
      let many : 32 * to - 32 * from ≡ 32 * (to - from) = omega (arith, f, t) in
      e ∙ ap (λ (x : List ℕ). put 0 x listing)
      (ap (λ (k : ℕ). take k (drop (32 * from) all)) many ∙ ap (λ (x : List ℕ). take (32 * (to - from)) (drop (32 * from) x)) a
      ∙ flat-run l from (to - from) s (omega (arith, f, t)) _ ∙ ap flat here)

-- ---- the answer, by the checks
module _ (place : Place) (room : ℕ) (k : List ℕ) (rows : ℕ) (w : List ℕ) where
  abbrev at : List ℕ
  at = from place k w

  abbrev all-rows : List Row
  all-rows = dump4 (state_of w)

  abbrev given : List Row
  given = part_rows (cursor_place at) rows all-rows

  -- refused, it writes nothing
  module _ {A : Type 0} {r : Answer A Refusal} {e : Refusal} (c : Refuses r (checked (part_checks room k rows) w)) (f : r ≡ Err e) where
    none : part_call place room k rows w ≡ record { reply = refusal (checked (part_checks room k rows) w); cursor = k }
    none = part-refused at room k rows w refl (refuses_some c f).1

    pub part-no : {t : Answer Part Refusal} → IsErrAnd t (λ y. y ≡ e) → (b : List ℕ) → Writes part_by (part_call place room k rows w).reply b b t
    part-no x b =
        let said : Says part_by (refusal (checked (part_checks room k rows) w)) (Err e) = says-refusal (refuses_some c f) in
        rw (none, exit x) (record { refuses = said.refuses; says = said.says; rows = put-no-rows b })

    pub cursor-no : k ≡ (part_call place room k rows w).cursor
    cursor-no = sym (ap (λ (y : PartResult). y.cursor) none)

  -- passed, it is a part
  module _ (z : checked (part_checks room k rows) w ≡ 0) where
    pub part-yes : (p : Part) {b b' : List ℕ} → p.rows ≡ length given → p.complete ≡ end_reached (cursor_place at + p.rows) all-rows
        → p.interrupted ≡ (not (eqb (change_count w) (cursor_count at)) || eqb (change_count w) largest_count)
        → b' ≡ put 0 (flat given) b → Writes part_by (part_call place room k rows w).reply b b' (Ok p)
    unfolding part
    part-yes p e f g h =
        rw (part-passed at room k rows w z) (record { refuses = refl; says = rw (f, g, e) refl; rows = h })

    pub cursor-yes : (n : ℕ) {k' : List ℕ} → length k ≡ 3 → n ≡ length given → k' ≡ put 0 ((cursor_place at + n) ∷ get_or at 1 0 ∷ get_or at 2 0 ∷ []) k
        → k' ≡ (part_call place room k rows w).cursor
    unfolding part
    cursor-yes n long e h =
        rw (part-passed at room k rows w z, ← e) (h ∙ put_whole ((cursor_place at + n) ∷ get_or at 1 0 ∷ get_or at 2 0 ∷ []) k (sym long))
