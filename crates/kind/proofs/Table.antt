-- A table's rule, proved at all of its entries by one test that antt computes.
-- Assumes nothing.
use mathlib.Core.Path.{◌≡◌, sym, ◌∙◌, subst}
use mathlib.Core.Bool.{Bool, true, false}
use mathlib.Core.List.{List, [], ◌∷◌}
use Prim.Native.Nat.{ℕ, zero, suc, ◌+◌, ◌<◌}
use native.Mathlib.Nat.{add-zero, zero-add, add-suc, suc-add, le_of_suc-le-suc, not-suc-le-zero}
use lib.Dec.{T, eqb, eqb→eq}
use lib.ListN.{length, get_or}

abbrev both : Bool → Bool → Bool
both true b = b
both false b = false

both_left : (a b : Bool) → T (both a b) → T a
both_left true b t = tt
both_left false b t = absurd t

both_right : (a b : Bool) → T (both a b) → T b
both_right true b t = t
both_right false b t = absurd t

module _ (f : ℕ → ℕ) where
  -- each entry is f of its place, counted from i
  abbrev pub every : ℕ → List ℕ → Bool
  every i [] = true
  every i (x ∷ xs) = both (eqb x (f i)) (every (suc i) xs)

  from : (xs : List ℕ) (i : ℕ) → T (every i xs) → (k : ℕ) → k < length xs → get_or xs k 0 ≡ f (i + k)
  from [] i t k h = absurd (not-suc-le-zero h)
  from (x ∷ xs) i t zero h = rw add-zero (eqb→eq x (f i) (both_left (eqb x (f i)) (every (suc i) xs) t))
  from (x ∷ xs) i t (suc k) h =
      subst (λ (m : ℕ). get_or xs k 0 ≡ f m) (suc-add i k ∙ sym (add-suc i k))
      (from xs (suc i) (both_right (eqb x (f i)) (every (suc i) xs) t) k (le_of_suc-le-suc h))

  pub at : (xs : List ℕ) → T (every 0 xs) → (k : ℕ) → k < length xs → get_or xs k 0 ≡ f k
  at xs t k h = rw zero-add at (from xs 0 t k h)
