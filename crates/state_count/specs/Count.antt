-- The change count's words in place: where they are read, and what raising it leaves.
-- Assumes nothing.
use Rattle.std.specs.Prelude.{ℕ, suc, ◌+◌, ◌*◌, ◌%◌, ◌/◌, ◌<◌, ◌≤◌, ◌≡◌, Bool, true, false, cond, List, [], ◌∷◌, ◌++◌, get_or, set, length, ltb, take, drop}
use Rattle.std.proofs.Common.{arith, sym, ap, ◌∙◌, get_or-drop, take_at, append_assoc, append-nil, length-append, length-drop}
use Rattle.std.proofs.lemmas.Bool.{lt-ltb, le-ltb}
use Rattle.lists.specs.Lists.{put, span}
use Rattle.lists.specs.Put.{cut, put-at, put_one, put-more}
use Rattle.lists.specs.Rows.{length-span}
use Rattle.definition.specs.Words.{table_limit, base_size, count_size, row_counts_at, state_size, decode, well_formed, base, state_of, row_counts, largest_count, change_count, count_words, counted}
use Rattle.definition.proofs.Preservation.Step.{base-long, length-counted}

pub count-read : (w : List ℕ) (n : ℕ) → n ≡ get_or w 9507 0 + get_or w 9508 0 * 4294967296 → n ≡ change_count w
count-read w n e = simp get_or-drop e

module _ (w : List ℕ) (long : length w ≡ state_size) where
  -- at the largest the words stay
  pub count-stays : largest_count ≤ change_count w → w ≡ put base_size (counted true w) w
  unfolding counted put
  count-stays h =
      let full : ltb (change_count w) largest_count ≡ false = le-ltb (change_count w) largest_count h in
      rw (full, length-span base_size count_size w (omega (arith, long))) (cut base_size count_size w)

  pub count-raised : (after : ℕ) → after ≡ suc (change_count w) → change_count w < largest_count
      → set (set w base_size (after % 4294967296)) (base_size + 1) (after / 4294967296) ≡ put base_size (counted true w) w
  unfolding counted
  count-raised after e h =
      let low = after % 4294967296 in
      let high = after / 4294967296 in
      let below : ltb (change_count w) largest_count ≡ true = lt-ltb (change_count w) largest_count h in
      ap (λ (l : List ℕ). set l (base_size + 1) high) (put_one base_size low w (omega (arith, long)))
      ∙ put-more base_size (low ∷ []) high w (omega (arith, long))
      ∙ ap (λ (n : ℕ). put base_size (count_words n) w) e
      ∙ ap (λ (b : Bool). put base_size (cond b (count_words (suc (change_count w))) (span base_size count_size w)) w) (sym below)

-- ---- the words behind the lists, both counts
module _ (w u : List ℕ) (long : length w ≡ state_size) (raised : u ≡ put base_size (counted true w) w) where
  pub parts : u ≡ base w ++ (counted true w ++ drop row_counts_at w)
  unfolding put
  parts = raised ∙ ap (λ (n : ℕ). base w ++ (counted true w ++ drop (base_size + n) w)) (length-counted true w long)

  pub lists-stay : base u ≡ base w
  lists-stay = ap base parts ∙ take_at (base w) (counted true w ++ drop row_counts_at w) base_size (base-long w long)

  pub settled : (counts : List ℕ) {v : List ℕ} → (well_formed (base u) ≡ true → counts ≡ row_counts (decode (base u))) → length counts ≡ table_limit
      → v ≡ put row_counts_at counts u → well_formed (base w) ≡ true → v ≡ base w ++ (counted true w ++ row_counts (state_of w))
  settled counts e many there h =
      let front = base w ++ counted true w in
      let behind = drop row_counts_at w in
      let joined : u ≡ front ++ (behind ++ []) = parts ∙ sym (append_assoc (base w) (counted true w) behind) ∙ ap (λ (l : List ℕ). front ++ l) (sym (append-nil behind)) in
      let is : counts ≡ row_counts (state_of w) = rw lists-stay at (e (ap well_formed lists-stay ∙ h)) in
      there
      ∙ ap (put row_counts_at counts) joined
      ∙ put-at front behind [] counts row_counts_at (simp length-append (omega (arith, base-long w long, length-counted true w long))) (simp length-drop (omega (arith, many)))
      ∙ ap (λ (l : List ℕ). front ++ l) (append-nil counts ∙ is)
      ∙ append_assoc (base w) (counted true w) (row_counts (state_of w))
