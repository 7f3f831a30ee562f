-- The place behind the last element that passes a test, found by a pass from the back.
-- Assumes nothing.
use Rattle.std.specs.Prelude.{ℕ, suc, ◌≤◌, ◌≡◌, Bool, ◌||◌, length}
use Rattle.std.proofs.Common.{arith, ◌∙◌}
use Rattle.std.proofs.Math.Path.{refl, ap}
use Rattle.std.proofs.Math.Bool.{true, false, cond}
use mathlib.Core.List.{List, [], ◌∷◌, ◌++◌}
use Rattle.std.proofs.Math.ListN.{take, drop}
use Rattle.lists.specs.Lists.{any, behind_last}
use Rattle.lists.specs.At.{insert_at}
use Rattle.lists.specs.Split.{any-joined}

module _ {A : Type 0} (p : A → Bool) where
  -- 0 where none passes
  abbrev pub behind_of : List A → ℕ
  behind_of [] = 0
  behind_of (x ∷ l) = cond (p x || any p l) (suc (behind_of l)) 0

  pub behind_le : (l : List A) → behind_of l ≤ length l
  behind_le [] = omega arith
  behind_le (x ∷ l) = go (p x || any p l) (behind_le l)
    where
      go : (b : Bool) → behind_of l ≤ length l → cond b (suc (behind_of l)) 0 ≤ suc (length l)
      go true h = omega arith
      go false h = omega arith

  pub behind-at : (y : A) (l : List A) → behind_last p y l ≡ insert_at (behind_of l) y l
  unfolding insert_at
  behind-at y [] = refl
  behind-at y (x ∷ l) = go (p x || any p l) (behind-at y l)
    where
      go : (b : Bool) → behind_last p y l ≡ take (behind_of l) l ++ (y ∷ drop (behind_of l) l)
          → cond b (x ∷ behind_last p y l) (y ∷ x ∷ l) ≡ take (cond b (suc (behind_of l)) 0) (x ∷ l) ++ (y ∷ drop (cond b (suc (behind_of l)) 0) (x ∷ l))
      go true h = ap (λ (m : List A). x ∷ m) h
      go false h = refl

  -- one element more at the end
  pub behind-joined : (l : List A) (x : A) → behind_of (l ++ (x ∷ [])) ≡ cond (p x) (suc (length l)) (behind_of l)
  behind-joined [] x = go (p x)
    where
      go : (b : Bool) → ◌≡◌ {A = ℕ} (cond (b || false) 1 0) (cond b 1 0)
      go true = refl
      go false = refl
  behind-joined (z ∷ l) x =
      ap (λ (b : Bool). cond (p z || b) (suc (behind_of (l ++ (x ∷ [])))) 0) (any-joined p l (x ∷ []))
      ∙ go (p z) (any p l) (p x) (behind_of (l ++ (x ∷ []))) (behind_of l) (length l) (behind-joined l x)
    where
      go : (a b c : Bool) (m k n : ℕ) → m ≡ cond c (suc n) k → cond (a || (b || (c || false))) (suc m) 0 ≡ cond c (suc (suc n)) (cond (a || b) (suc k) 0)
      go true b true m k n h = ap suc h
      go false true true m k n h = ap suc h
      go false false true m k n h = ap suc h
      go true b false m k n h = ap suc h
      go false true false m k n h = ap suc h
      go false false false m k n h = refl
