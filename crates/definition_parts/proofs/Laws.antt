-- One part: the mark, the next place, the end, and what the first part looks at.
-- Assumes nothing.
use Rattle.std.specs.Prelude.{ℕ, ◌+◌, ◌*◌, ◌<◌, ◌≤◌, min, ◌≡◌, refl, Bool, true, false, cond, not, ◌&&◌, ◌||◌, List, [], ◌↔◌, ◌≢◌, eqb, leb, length}
use Rattle.std.proofs.Common.{sym, ap, ◌∙◌, arith, length-take, length-drop, eqb-true, eq-eqb, ne_eqb, le-leb}
use Rattle.std.proofs.lemmas.Bool.{eqb-false, not-true, false≢true}
use mathlib.Core.Logic.{◌⊎◌, inl, inr, ⊎_elim}
use Rattle.lists.specs.Lists.{Row}
use Rattle.lists.specs.Bools.{or_case, or_left, or_right, or-false, false-not}
use Rattle.definition.specs.Words.{state_of, change_count, largest_count}
use Rattle.definition.specs.Step.{checked, unless}
use Rattle.definition.specs.Reference.Source.{dump4}
use Rattle.definition.proofs.Preservation.Step.{good-held}
use Rattle.definition.proofs.Preservation.Reading.{dump4-listing}
use Rattle.definition_parts.specs.Parts.{cursor_place, cursor_count, begun, interrupted_mark, mark_of, part_rows, part, part_checks, part_from, dump4_begin_call, dump4_next_call}
use Rattle.definition_parts.specs.Statement.{Marked}
use Rattle.definition_parts.specs.Laws.{part-passed, part-checked, part-past, passed}

-- ---- the mark
marked : (b : Bool) → (cond b interrupted_mark 0 ≡ interrupted_mark) ↔ (b ≡ true)
marked true = ((λ e. refl), (λ e. refl))
marked false = ((λ e. absurd (omega (arith, e))), (λ e. absurd (false≢true e)))

unmarked : (b : Bool) → (cond b interrupted_mark 0 ≡ 0) ↔ (b ≡ false)
unmarked true = ((λ e. absurd (omega (arith, e))), (λ e. absurd (false≢true (sym e))))
unmarked false = ((λ e. refl), (λ e. refl))

-- "exactly if the count is not the start's or is at its largest"
pub mark-exactly : (count start : ℕ) → (mark_of count start ≡ 0x10) ↔ ((count ≢ start) ⊎ (count ≡ largest_count))
mark-exactly count start =
    let differs : Bool = not (eqb count start) in
    let largest : Bool = eqb count largest_count in
    let m = marked (differs || largest) in (
      (λ h. or_case differs largest (m.0 h) (λ e. inl (eqb-false count start (not-true (eqb count start) e))) (λ e. inr (eqb-true count largest_count e))),
      (λ h. m.1 (⊎_elim (λ d. or_left differs largest (false-not (eqb count start) (ne_eqb count start d))) (λ d. or_right differs largest (eq-eqb count largest_count d)) h)),
    )

-- else it is 0
pub no-mark-exactly : (count start : ℕ) → (mark_of count start ≡ 0) ↔ ((count ≡ start) × (count ≢ largest_count))
no-mark-exactly count start = (
  (λ h.
      let o = or-false (not (eqb count start)) (eqb count largest_count) ((unmarked (not (eqb count start) || eqb count largest_count)).0 h) in
      (eqb-true count start (not-false (eqb count start) o.0), eqb-false count largest_count o.1)),
  (λ h. rw (eq-eqb count start h.0, ne_eqb count largest_count h.1) refl),
)
  where
    not-false : (b : Bool) → not b ≡ false → b ≡ true
    not-false true e = refl
    not-false false e = sym e

-- of a part from the cursor k on: by its count
module _ (room : ℕ) (k : List ℕ) (rows : ℕ) (w : List ℕ) where
  from-marked : (j : List ℕ) → Marked (part_from j room k rows w).reply (change_count w) (cursor_count j)
  unfolding part
  from-marked j =
      record {
        mark = λ h. rw (part-passed j room k rows w (part-checked j room k rows w h)) (mark-exactly (change_count w) (cursor_count j));
        none = λ h. rw (part-passed j room k rows w (part-checked j room k rows w h)) (no-mark-exactly (change_count w) (cursor_count j));
      }

  -- dump4_next by the cursor that it is lent, dump4_begin by the largest count alone
  pub next-marked : Marked (dump4_next_call room k rows w).reply (change_count w) (cursor_count k)
  unfolding dump4_next_call
  next-marked = from-marked k

  pub begin-marked : Marked (dump4_begin_call room k rows w).reply (change_count w) (change_count w)
  unfolding dump4_begin_call
  begin-marked = from-marked (begun w)

-- ---- the next place
-- of a list of at most 256 rows it is a word where the place is one, past the end too
pub next-place : (place rows : ℕ) (l : List Row) → length l ≤ 256 → place < 4294967296 → place + length (part_rows place rows l) < 4294967296
next-place place rows l h p = simp (length-take, length-drop) (omega arith)

-- the next place is a word where the place is one: past the end no row is given
pub next-word : (k : List ℕ) (room : ℕ) (cursor : List ℕ) (rows : ℕ) (w : List ℕ) → checked (part_checks room cursor rows) w ≡ 0 → cursor_place k < 4294967296
    → cursor_place (part rows k w).cursor < 4294967296
unfolding part
next-word k room cursor rows w z h =
    next-place (cursor_place k) rows (dump4 (state_of w)) (dump4-listing (state_of w) (good-held w (passed room cursor rows w z).held)).0 h

-- "A place past the end gives no row and finishes it"
pub past-end : (room : ℕ) (k : List ℕ) (rows : ℕ) (w : List ℕ) → (dump4_next_call room k rows w).reply.number ≡ 0 → length (dump4 (state_of w)) ≤ cursor_place k
    → ((dump4_next_call room k rows w).reply.rows ≡ []) × ((dump4_next_call room k rows w).reply.second ≡ 1)
unfolding dump4_next_call part
past-end room k rows w h z =
    let l = dump4 (state_of w) in
    rw (part-passed k room k rows w (part-checked k room k rows w h), part-past (cursor_place k) rows l z)
    (refl, (rw (le-leb (length l) (cursor_place k + 0) (omega (arith, z))) refl))

-- dump4_begin looks at nothing in the cursor but its length, and writes all of it
pub begin-whatever : (room : ℕ) (k j : List ℕ) (rows : ℕ) (w : List ℕ) → length k ≡ length j → (dump4_begin_call room k rows w).reply.number ≡ 0
    → dump4_begin_call room k rows w ≡ dump4_begin_call room j rows w
unfolding dump4_begin_call
begin-whatever room k j rows w e h =
    let z = part-checked (begun w) room k rows w h in
    let same : checked (part_checks room j rows) w ≡ checked (part_checks room k rows) w =
    ap (λ (n : ℕ). checked (record { buffers = eqb n 3 && leb (32 * min rows 256) room; row = true; request = unless (leb 1 rows && leb rows 256) 202 }) w) (sym e)
    in
    part-passed (begun w) room k rows w z ∙ sym (part-passed (begun w) room j rows w (same ∙ z))
