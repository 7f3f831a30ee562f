-- One part: the mark, the rows, the next place, what a refusal leaves.
-- Assumes nothing.
use Rattle.std.specs.Prelude.{ℕ, zero, suc, ◌*◌, ◌≤◌, min, ◌≡◌, refl, true, ◌&&◌, List, [], ◌≢◌, eqb, leb, length, take, drop}
use Rattle.std.proofs.Common.{ap, ◌∙◌, arith, length-take, drop_of_length-le, eqb-true, eq-eqb, ne_eqb, leb-true}
use Rattle.std.proofs.lemmas.Bool.{eqb-false}
use Rattle.std.proofs.Math.Nat.{min-eq_left}
use Rattle.lists.specs.Lists.{Row}
use Rattle.lists.specs.Rows.{sized}
use Rattle.lists.specs.At.{all_take, all_drop}
use Rattle.lists.specs.Bools.{and_left, and_right, cond-case, cond-true, cond-false}
use Rattle.definition.specs.Words.{state_of}
use Rattle.definition.specs.Call.{Reply, refusal}
use Rattle.definition.specs.Step.{checked}
use Rattle.definition.specs.Reference.Source.{dump4}
use Rattle.definition.proofs.Preservation.Change.{unless-passed}
use Rattle.definition.proofs.Preservation.Step.{Held, good-held, checked-held, checked-passes}
use Rattle.definition.proofs.Preservation.Reading.{dump4-listing}
use Rattle.definition_parts.specs.Parts.{cursor_place, part_rows, PartResult, part, part_checks, part_from}

-- ---- by the checks: a part, or a refusal that leaves the cursor
module _ (k : List ℕ) (room : ℕ) (cursor : List ℕ) (rows : ℕ) (w : List ℕ) where
  pub part-passed : checked (part_checks room cursor rows) w ≡ 0 → part_from k room cursor rows w ≡ part rows k w
  unfolding part_from
  part-passed z = cond-true (eqb (checked (part_checks room cursor rows) w) 0) _ _ (eq-eqb (checked (part_checks room cursor rows) w) 0 z)

  pub part-refused : {n : ℕ} → n ≡ checked (part_checks room cursor rows) w → n ≢ 0
      → part_from k room cursor rows w ≡ record { reply = refusal n; cursor = cursor }
  unfolding part_from
  part-refused {n} e h = rw (← e) (cond-false (eqb n 0) _ _ (ne_eqb n 0 h))

  pub part-case : (P : PartResult → Type 0) → (checked (part_checks room cursor rows) w ≡ 0 → P (part rows k w))
      → ((n : ℕ) → n ≢ 0 → P (record { reply = refusal n; cursor = cursor })) → P (part_from k room cursor rows w)
  unfolding part_from
  part-case P x y =
      let n = checked (part_checks room cursor rows) w in
      cond-case P (eqb n 0) (λ e. x (eqb-true n 0 e)) (λ e. y n (eqb-false n 0 e))

  -- a part that isn't refused passed the checks, so the words are well-formed
  pub part-checked : (part_from k room cursor rows w).reply.number ≡ 0 → checked (part_checks room cursor rows) w ≡ 0
  part-checked = part-case (λ (r : PartResult). r.reply.number ≡ 0 → checked (part_checks room cursor rows) w ≡ 0) (λ z e. z) (λ n h e. absurd (h e))

  -- a refusal has no row and leaves the cursor
  pub part-leaves : (part_from k room cursor rows w).reply.number ≢ 0
      → ((part_from k room cursor rows w).cursor ≡ cursor) × ((part_from k room cursor rows w).reply.rows ≡ [])
  unfolding part
  part-leaves =
      part-case (λ (r : PartResult). r.reply.number ≢ 0 → (r.cursor ≡ cursor) × (r.reply.rows ≡ [])) (λ z h. absurd (h refl)) (λ n h e. (refl, refl))

-- ---- the rows: no more than were asked for
pub part-few : (place rows : ℕ) (l : List Row) → length (part_rows place rows l) ≤ rows
part-few place rows l = simp length-take (omega arith)

-- a place past the end gives no row
pub part-past : (place rows : ℕ) (l : List Row) → length l ≤ place → part_rows place rows l ≡ []
part-past place rows l h = ap (take rows) (drop_of_length-le l h) ∙ take-none rows
  where
    take-none : (n : ℕ) → take {A = Row} n [] ≡ []
    take-none zero = refl
    take-none (suc n) = refl

-- ---- what a call for a part writes, for the code: as many rows of 32 words as its value says, no more than the buffer has room for
pub record PartShape (room : ℕ) (r : Reply) : Type 0 where
  pub counts : r.value ≡ length r.rows
  pub few : length r.rows ≤ 256
  pub size : sized 32 r.rows ≡ true
  pub fits : 32 * length r.rows ≤ room

-- the checks, passed
pub record PartPassed (room : ℕ) (cursor : List ℕ) (rows : ℕ) (w : List ℕ) : Type 0 where
  pub held : Held w
  pub three : length cursor ≡ 3
  pub some : 1 ≤ rows
  pub most : rows ≤ 256
  pub spacious : 32 * rows ≤ room

pub passed : (room : ℕ) (cursor : List ℕ) (rows : ℕ) (w : List ℕ) → checked (part_checks room cursor rows) w ≡ 0 → PartPassed room cursor rows w
passed room cursor rows w z =
    let k = part_checks room cursor rows in
    let p = checked-passes k w z in
    let asked = unless-passed (leb 1 rows && leb rows 256) p.fit in
    let some = leb-true 1 rows (and_left (leb 1 rows) (leb rows 256) asked) in
    let most = leb-true rows 256 (and_right (leb 1 rows) (leb rows 256) asked) in
    let room-for = leb-true (32 * min rows 256) room (and_right (eqb (length cursor) 3) (leb (32 * min rows 256) room) p.room) in
    record {
      held = checked-held k w z;
      three = eqb-true (length cursor) 3 (and_left (eqb (length cursor) 3) (leb (32 * min rows 256) room) p.room);
      some = some;
      most = most;
      spacious = omega (arith, room-for, min-eq_left most);
    }

pub part-shaped : (k : List ℕ) (room : ℕ) (cursor : List ℕ) (rows : ℕ) (w : List ℕ) → PartShape room (part_from k room cursor rows w).reply
unfolding part
part-shaped k room cursor rows w =
    part-case k room cursor rows w (λ (r : PartResult). PartShape room r.reply)
    (λ z.
    let p = passed room cursor rows w z in
    let l = dump4 (state_of w) in
    let sized-all = (dump4-listing (state_of w) (good-held w p.held)).1 in
    let few = part-few (cursor_place k) rows l in
    record {
      counts = refl;
      few = omega (arith, few, p.most);
      size = all_take (λ r. eqb (length r) 32) rows (drop (cursor_place k) l) (all_drop (λ r. eqb (length r) 32) (cursor_place k) l sized-all);
      fits = omega (arith, few, p.spacious);
    })
    (λ n h. record { counts = refl; few = omega arith; size = refl; fits = omega arith })
