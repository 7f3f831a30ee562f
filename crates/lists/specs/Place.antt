-- The place of the first element that passes a test, and what the searches say by it.
use Rattle.std.specs.Prelude.{ℕ, zero, suc, ◌+◌, ◌≤◌, ◌<◌, ◌≡◌, refl, Bool, true, false, cond, ◌||◌, List, [], ◌∷◌, ◌++◌, length, get_or, take, drop, set}
use Rattle.std.proofs.Common.{not-suc-le-zero, le_of_suc-le-suc, add-one, arith, ap, drop-cons}
use Rattle.std.proofs.lemmas.Bool.{false≢true}
use Rattle.std.proofs.Math.Option.{none, some}
use Rattle.std.proofs.Math.ListN.{get_elem?}
use Rattle.lists.specs.Lists.{any, first, remove_first, replace_first}

module _ {A : Type 0} (p : A → Bool) where
  -- the place of the first element that passes, the length where none does
  abbrev pub place_of : List A → ℕ
  place_of [] = 0
  place_of (x ∷ l) = cond (p x) 0 (suc (place_of l))

  pub place_le : (l : List A) → place_of l ≤ length l
  place_le [] = omega arith
  place_le (x ∷ l) = go (p x) (place_le l)
    where
      go : (b : Bool) → place_of l ≤ length l → cond b 0 (suc (place_of l)) ≤ suc (length l)
      go true h = omega arith
      go false h = omega arith

  pub first-at : (l : List A) → first p l ≡ get_elem? l (place_of l)
  first-at [] = refl
  first-at (x ∷ l) = go (p x) (first-at l)
    where
      go : (b : Bool) → first p l ≡ get_elem? l (place_of l) → cond b (some x) (first p l) ≡ get_elem? (x ∷ l) (cond b 0 (suc (place_of l)))
      go true h = refl
      go false h = h

  pub remove_at_lem : (l : List A) → remove_first p l ≡ take (place_of l) l ++ drop (suc (place_of l)) l
  remove_at_lem [] = refl
  remove_at_lem (x ∷ l) = go (p x) (remove_at_lem l)
    where
      go : (b : Bool) → remove_first p l ≡ take (place_of l) l ++ drop (suc (place_of l)) l → cond b l (x ∷ remove_first p l) ≡ take (cond b 0 (suc (place_of l))) (x ∷ l) ++ drop (suc (cond b 0 (suc (place_of l)))) (x ∷ l)
      go true h = refl
      go false h = ap (λ (k : List A). x ∷ k) h

  pub replace_at : (y : A) (l : List A) → replace_first p y l ≡ set l (place_of l) y
  replace_at y [] = refl
  replace_at y (x ∷ l) = go (p x) (replace_at y l)
    where
      go : (b : Bool) → replace_first p y l ≡ set l (place_of l) y → cond b (y ∷ l) (x ∷ replace_first p y l) ≡ set (x ∷ l) (cond b 0 (suc (place_of l))) y
      go true h = refl
      go false h = ap (λ (k : List A). x ∷ k) h

  -- some element passes exactly where the place is one of the list's
  pub any_at : (l : List A) → any p l ≡ true → place_of l < length l
  any_at [] e = absurd (false≢true e)
  any_at (x ∷ l) e = go (p x) e (any_at l)
    where
      go : (b : Bool) → (b || any p l) ≡ true → (any p l ≡ true → place_of l < length l) → cond b 0 (suc (place_of l)) < suc (length l)
      go true e h = omega arith
      go false e h =
          let k = h e in
          omega arith

  -- a search: the place is i on from the place in what is left
  pub place_here : (l : List A) (i : ℕ) (d : A) → i < length l → p (get_or l i d) ≡ true → place_of (drop i l) ≡ 0
  place_here l i d h e = rw (drop-cons l i d, e)

  pub place-past : (l : List A) (i : ℕ) (d : A) → i < length l → p (get_or l i d) ≡ false → place_of (drop i l) ≡ suc (place_of (drop (i + 1) l))
  place-past l i d h e = rw (add-one, drop-cons l i d, e)

-- ---- the element at a place, if there is one
module _ {A : Type 0} where
  pub nothing-from : (l : List A) (i : ℕ) → length l ≤ i → get_elem? l i ≡ none
  nothing-from [] i h = refl
  nothing-from (x ∷ l) zero h = absurd (not-suc-le-zero h)
  nothing-from (x ∷ l) (suc i) h = nothing-from l i (le_of_suc-le-suc h)

  pub something_at : (l : List A) (i : ℕ) (d : A) → i < length l → get_elem? l i ≡ some (get_or l i d)
  something_at [] i d h = absurd (not-suc-le-zero h)
  something_at (x ∷ l) zero d h = refl
  something_at (x ∷ l) (suc i) d h = something_at l i d (le_of_suc-le-suc h)
