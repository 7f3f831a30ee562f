-- Parts make up the listing where nothing changed, and where no part has the mark: `saw-no-change`, `in-parts`, `mark-tells`; and each
-- part has it exactly as the paper says, `parts-marked`.
-- Assumes nothing.
use Rattle.std.specs.Prelude.{ℕ, zero, suc, ◌+◌, ◌<◌, ◌≤◌, ◌≡◌, refl, true, List, [], ◌∷◌, ◌++◌, ◌≢◌, eqb, length, take, drop}
use Rattle.std.proofs.Common.{sym, ap, ap₂, subst, ◌∙◌, arith, take-append-drop, drop_of_length-le, drop-drop, eqb-true, eq-eqb, leb-true}
use Rattle.std.proofs.lemmas.Bool.{false≢true}
use Rattle.lists.specs.Lists.{Row}
use Rattle.lists.specs.Bools.{test-case, and_both, and_left, and_right}
use Rattle.definition.specs.Words.{state_of, largest_count, change_count}
use Rattle.definition.specs.Step.{step}
use Rattle.definition.specs.Reference.Source.{dump4}
use Rattle.definition_parts.specs.Parts.{cursor_place, cursor_count, begun, further, mark_of, part_rows, end_reached, PartResult, part, dump4_begin_call, dump4_next_call}
use Rattle.definition_parts.specs.Laws.{part-case, part-passed, part-checked, part-past}
use Rattle.definition_parts.proofs.Laws.{no-mark-exactly, begin-marked, next-marked}
use Rattle.definition_parts.specs.Statement.{Act, words_after, cursor_after, Marked, PartsMarked, continued, listing, together, complete, unmarked, SawNoChange, InParts, MarkTells}
use Rattle.definition_parts.proofs.Run.{Tells, stays-tells, step-tells, tells-through, Still, still-unchanged, still-counted}

-- ---- a part, and what is behind it
take-length : (n : ℕ) (l : List Row) → take (length (take n l)) l ≡ take n l
take-length zero l = refl
take-length (suc n) [] = refl
take-length (suc n) (x ∷ l) = ap (λ (m : List Row). x ∷ m) (take-length n l)

given-rest : (place rows : ℕ) (l : List Row) → part_rows place rows l ++ drop (place + length (part_rows place rows l)) l ≡ drop place l
given-rest place rows l =
    let m = length (part_rows place rows l) in
    ap₂ (λ (a b : List Row). a ++ b) (sym (take-length rows (drop place l))) (sym (drop-drop m place l)) ∙ take-append-drop m (drop place l)

-- ---- a listing that began on the words w
module _ (w : List ℕ) where
  abbrev all-rows : List Row
  all-rows = dump4 (state_of w)

  -- each part that isn't refused finds these words
  abbrev Finds : List Act → List ℕ → List ℕ → Type 0
  Finds [] v k = Unit {0}
  Finds (Act.call c ∷ acts) v k = Finds acts (step c v).words k
  Finds (Act.next room rows ∷ acts) v k =
      ((dump4_next_call room k rows v).reply.number ≡ 0 → v ≡ w) × Finds acts v (dump4_next_call room k rows v).cursor

  -- then there is no row from a place past the end
  none-past : (acts : List Act) (v k : List ℕ) → Finds acts v k → length all-rows ≤ cursor_place k → together (continued acts v k) ≡ []
  unfolding continued dump4_next_call part
  none-past [] v k f z = refl
  none-past (Act.call c ∷ acts) v k f z = none-past acts (step c v).words k f z
  none-past (Act.next room rows ∷ acts) v k f z =
      part-case k room k rows v
      (λ (r : PartResult). (r.reply.number ≡ 0 → v ≡ w) × Finds acts v r.cursor → r.reply.rows ++ together (continued acts v r.cursor) ≡ [])
      (λ p g.
      let none : part_rows (cursor_place k) rows (dump4 (state_of v)) ≡ [] =
      ap (λ (x : List ℕ). part_rows (cursor_place k) rows (dump4 (state_of x))) (g.0 refl) ∙ part-past (cursor_place k) rows all-rows z
      in
      rw none (none-past acts v (further 0 k) (rw none at g.1) (omega arith)))
      (λ n h g. none-past acts v k g.1 z) f

  -- and the rows from a part on are those from its place on, where it reaches the end or those behind it do
  part-from : (acts : List Act) (v k : List ℕ) (rows : ℕ) → v ≡ w → Finds acts v (part rows k v).cursor
      → (complete (continued acts v (part rows k v).cursor) ≡ true
      → together (continued acts v (part rows k v).cursor) ≡ drop (cursor_place (part rows k v).cursor) all-rows)
      → complete ((part rows k v).reply ∷ continued acts v (part rows k v).cursor) ≡ true
      → (part rows k v).reply.rows ++ together (continued acts v (part rows k v).cursor) ≡ drop (cursor_place k) all-rows
  unfolding part
  part-from acts v k rows s f later d =
      let l = dump4 (state_of v) in
      let same : l ≡ all-rows = ap (λ (x : List ℕ). dump4 (state_of x)) s in
      let given = part_rows (cursor_place k) rows l in
      let next = cursor_place k + length given in
      let behind : together (continued acts v (further (length given) k)) ≡ drop next l =
      test-case (end_reached next l)
      (λ e.
      let z = leb-true (length l) next e in
      none-past acts v (further (length given) k) f (omega (arith, z, ap length same)) ∙ sym (drop_of_length-le l z))
      (λ e. later (rw e at d) ∙ ap (drop next) (sym same))
      in
      ap (λ (m : List Row). given ++ m) behind ∙ given-rest (cursor_place k) rows l ∙ ap (drop (cursor_place k)) same

  rows-from : (acts : List Act) (v k : List ℕ) → Finds acts v k → complete (continued acts v k) ≡ true
      → together (continued acts v k) ≡ drop (cursor_place k) all-rows
  unfolding continued dump4_next_call part
  rows-from [] v k f d = absurd (false≢true d)
  rows-from (Act.call c ∷ acts) v k f d = rows-from acts (step c v).words k f d
  rows-from (Act.next room rows ∷ acts) v k f d =
      part-case k room k rows v
      (λ (r : PartResult). (r.reply.number ≡ 0 → v ≡ w) × Finds acts v r.cursor → complete (r.reply ∷ continued acts v r.cursor) ≡ true
      → r.reply.rows ++ together (continued acts v r.cursor) ≡ drop (cursor_place k) all-rows)
      (λ z g e. part-from acts v k rows (g.0 refl) g.1 (rows-from acts v (part rows k v).cursor g.1) e)
      (λ n h g e. rows-from acts v k g.1 e) f d

  -- one that wasn't refused as it began is a part from the first place on, and what continues it
  begins : (room : ℕ) (cursor : List ℕ) (rows : ℕ) (acts : List Act) → (dump4_begin_call room cursor rows w).reply.number ≡ 0
      → listing room cursor rows acts w ≡ (part rows (begun w) w).reply ∷ continued acts w (part rows (begun w) w).cursor
  unfolding listing dump4_begin_call
  begins room cursor rows acts h =
      ap (λ (r : PartResult). r.reply ∷ continued acts w r.cursor)
      (part-passed (begun w) room cursor rows w (part-checked (begun w) room cursor rows w h))

  whole : (room : ℕ) (cursor : List ℕ) (rows : ℕ) (acts : List Act) → (dump4_begin_call room cursor rows w).reply.number ≡ 0
      → Finds acts w (part rows (begun w) w).cursor → complete (listing room cursor rows acts w) ≡ true
      → together (listing room cursor rows acts w) ≡ all-rows
  whole room cursor rows acts h f d =
      let e = begins room cursor rows acts h in
      ap together e
      ∙ part-from acts w (begun w) rows refl f (rows-from acts w (part rows (begun w) w).cursor f) (ap complete (sym e) ∙ d)

-- ---- no change
finds-still : (w : List ℕ) (acts : List Act) (k : List ℕ) → Still w acts → Finds w acts w k
finds-still w [] k s = tt
finds-still w (Act.call c ∷ acts) k s = subst (λ (v : List ℕ). Finds w acts v k) (sym s.0) (finds-still w acts k s.1)
finds-still w (Act.next room rows ∷ acts) k s = ((λ e. refl), finds-still w acts (dump4_next_call room k rows w).cursor s)

pub saw-no-change : SawNoChange
saw-no-change room cursor rows acts w n u d =
    whole w room cursor rows acts n (finds-still w acts (part rows (begun w) w).cursor (still-unchanged w acts u)) d

-- ---- by the count: and no part has the mark
module _ (w : List ℕ) (below : change_count w < largest_count) where
  part-clean : (acts : List Act) (k : List ℕ) (rows : ℕ) → cursor_count k ≡ change_count w → unmarked (continued acts w (part rows k w).cursor) ≡ true
      → unmarked ((part rows k w).reply ∷ continued acts w (part rows k w).cursor) ≡ true
  unfolding part
  part-clean acts k rows e later =
      let none = (no-mark-exactly (change_count w) (cursor_count k)).1 (sym e, (λ d. omega (arith, d))) in
      and_both (eqb (mark_of (change_count w) (cursor_count k)) 0) (unmarked (continued acts w (part rows k w).cursor))
      (eq-eqb (mark_of (change_count w) (cursor_count k)) 0 none) later

  clean-from : (acts : List Act) (k : List ℕ) → Still w acts → cursor_count k ≡ change_count w → unmarked (continued acts w k) ≡ true
  unfolding continued dump4_next_call part
  clean-from [] k s e = refl
  clean-from (Act.call c ∷ acts) k s e = ap (λ (v : List ℕ). unmarked (continued acts v k)) s.0 ∙ clean-from acts k s.1 e
  clean-from (Act.next room rows ∷ acts) k s e =
      part-case k room k rows w (λ (r : PartResult). unmarked (r.reply ∷ continued acts w r.cursor) ≡ true)
      (λ z. part-clean acts k rows e (clean-from acts (part rows k w).cursor s e)) (λ n h. clean-from acts k s e)

pub in-parts : InParts
unfolding part
in-parts room cursor rows acts w n h below d =
    let s = still-counted w below acts h in
    let k = (part rows (begun w) w).cursor in
    record {
      rows = whole w room cursor rows acts n (finds-still w acts k s) d;
      clean = ap unmarked (begins w room cursor rows acts n) ∙ part-clean w below acts (begun w) rows refl (clean-from w below acts k s refl);
    }

-- ---- by the marks
-- a part without it finds the words of the start
module _ (w : List ℕ) (below : change_count w < largest_count) where
  part-same : (acts : List Act) (v k : List ℕ) (rows : ℕ) → Tells w v → cursor_count k ≡ change_count w
      → unmarked ((part rows k v).reply ∷ continued acts v (part rows k v).cursor) ≡ true → v ≡ w
  unfolding part
  part-same acts v k rows t e u =
      let none = eqb-true (mark_of (change_count v) (cursor_count k)) 0 (and_left (eqb (mark_of (change_count v) (cursor_count k)) 0) _ u) in
      t.same (((no-mark-exactly (change_count v) (cursor_count k)).0 none).0 ∙ e) below

  behind-unmarked : (acts : List Act) (v k : List ℕ) (rows : ℕ) → unmarked ((part rows k v).reply ∷ continued acts v (part rows k v).cursor) ≡ true
      → unmarked (continued acts v (part rows k v).cursor) ≡ true
  unfolding part
  behind-unmarked acts v k rows u = and_right (eqb (mark_of (change_count v) (cursor_count k)) 0) _ u

  finds-unmarked : (acts : List Act) (v k : List ℕ) → Tells w v → cursor_count k ≡ change_count w → unmarked (continued acts v k) ≡ true → Finds w acts v k
  unfolding continued dump4_next_call part
  finds-unmarked [] v k t e u = tt
  finds-unmarked (Act.call c ∷ acts) v k t e u = finds-unmarked acts (step c v).words k (tells-through w v (step c v).words t (step-tells c v)) e u
  finds-unmarked (Act.next room rows ∷ acts) v k t e u =
      part-case k room k rows v
      (λ (r : PartResult). unmarked (r.reply ∷ continued acts v r.cursor) ≡ true → (r.reply.number ≡ 0 → v ≡ w) × Finds w acts v r.cursor)
      (λ z m. ((λ i. part-same acts v k rows t e m), finds-unmarked acts v (part rows k v).cursor t e (behind-unmarked acts v k rows m)))
      (λ n h m. ((λ i. absurd (h i)), finds-unmarked acts v k t e m)) u

-- the first part is marked at the largest count
first-below : (acts : List Act) (rows : ℕ) (w : List ℕ) → change_count w ≤ largest_count
    → unmarked ((part rows (begun w) w).reply ∷ continued acts w (part rows (begun w) w).cursor) ≡ true → change_count w < largest_count
unfolding part
first-below acts rows w h u =
    let none = eqb-true (mark_of (change_count w) (change_count w)) 0 (and_left (eqb (mark_of (change_count w) (change_count w)) 0) _ u) in
    let other : change_count w ≢ largest_count = ((no-mark-exactly (change_count w) (change_count w)).0 none).1 in
    omega arith

pub mark-tells : MarkTells
unfolding part
mark-tells room cursor rows acts w n h d u =
    let clean = ap unmarked (sym (begins w room cursor rows acts n)) ∙ u in
    let below = first-below acts rows w h clean in
    let k = (part rows (begun w) w).cursor in
    whole w room cursor rows acts n (finds-unmarked w below acts w k (stays-tells w) refl (behind-unmarked w below acts w (begun w) rows clean)) d

-- ---- the mark of each part
-- a part leaves the count that the cursor has, refused or not
count-kept : (acts : List Act) (w k : List ℕ) → cursor_count (cursor_after acts w k) ≡ cursor_count k
unfolding cursor_after dump4_next_call part
count-kept [] w k = refl
count-kept (Act.call c ∷ acts) w k = count-kept acts (step c w).words k
count-kept (Act.next room rows ∷ acts) w k =
    count-kept acts w (dump4_next_call room k rows w).cursor
    ∙ part-case k room k rows w (λ (r : PartResult). cursor_count r.cursor ≡ cursor_count k) (λ z. refl) (λ n h. refl)

-- the one that begins returns the start's
count-begun : (room : ℕ) (cursor : List ℕ) (rows : ℕ) (w : List ℕ) → (dump4_begin_call room cursor rows w).reply.number ≡ 0
    → cursor_count (dump4_begin_call room cursor rows w).cursor ≡ change_count w
unfolding dump4_begin_call part
count-begun room cursor rows w h =
    ap (λ (r : PartResult). cursor_count r.cursor) (part-passed (begun w) room cursor rows w (part-checked (begun w) room cursor rows w h))

pub parts-marked : PartsMarked
parts-marked room cursor rows w n = (
  begin-marked room cursor rows w,
  (λ acts room' rows'.
      let k = (dump4_begin_call room cursor rows w).cursor in
      let same = count-kept acts w k ∙ count-begun room cursor rows w n in
      subst (Marked (dump4_next_call room' (cursor_after acts w k) rows' (words_after acts w)).reply (change_count (words_after acts w))) same
      (next-marked room' (cursor_after acts w k) rows' (words_after acts w))),
)
