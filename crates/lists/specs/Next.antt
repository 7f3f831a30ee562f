-- What is left to look at of a list from a place on, one element further.
-- Assumes nothing.
use Rattle.std.specs.Prelude.{ℕ, ◌+◌, ◌≤◌, ◌<◌, ◌≡◌, refl, Bool, true, cond, ◌&&◌, ◌||◌, List, [], ◌∷◌, length, get_or, drop}
use Rattle.std.proofs.Common.{add-one, arith, length-drop, drop_of_length-le, drop-cons}
use Rattle.std.proofs.Math.Option.{none, some}
use Rattle.lists.specs.Lists.{all, any, first, pairwise}

module _ {A : Type 0} (l : List A) (i : ℕ) (d : A) (h : i < length l) where
  pub all-next : (p : A → Bool) → all p (drop i l) ≡ p (get_or l i d) && all p (drop (i + 1) l)
  all-next p = rw (drop-cons l i d h, add-one i)

  pub any_next : (p : A → Bool) → any p (drop i l) ≡ p (get_or l i d) || any p (drop (i + 1) l)
  any_next p = rw (drop-cons l i d h, add-one i)

  pub first_next : (p : A → Bool) → first p (drop i l) ≡ cond (p (get_or l i d)) (some (get_or l i d)) (first p (drop (i + 1) l))
  first_next p = rw (drop-cons l i d h, add-one i)

  pub pairwise-next : (r : A → A → Bool) → pairwise r (drop i l) ≡ all (r (get_or l i d)) (drop (i + 1) l) && pairwise r (drop (i + 1) l)
  pairwise-next r = rw (drop-cons l i d h, add-one i)

-- nothing is left, or one element
pub all_end : {A : Type 0} (p : A → Bool) (l : List A) (i : ℕ) → length l ≤ i → all p (drop i l) ≡ true
all_end p l i h = rw (drop_of_length-le l {i = i} h)

pub first-end : {A : Type 0} (p : A → Bool) (l : List A) (i : ℕ) → length l ≤ i → first p (drop i l) ≡ none
first-end p l i h = rw (drop_of_length-le l {i = i} h)

pub pairwise-end : {A : Type 0} (r : A → A → Bool) (l : List A) (i : ℕ) → length l ≤ i + 1 → pairwise r (drop i l) ≡ true
pairwise-end {A} r l i h = go (drop i l) (rw length-drop (omega arith))
  where
    go : (l : List A) → length l ≤ 1 → pairwise r l ≡ true
    go [] k = refl
    go (a ∷ []) k = refl
    go (a ∷ b ∷ l) k = absurd (omega arith)
