-- A pass over rows that lie one after the other in a list: what is left of them from row i on.
-- Assumes nothing.
use Prim.Native.Nat.{ℕ, zero, suc, ◌+◌, ◌-◌, ◌*◌, ◌≤◌, ◌<◌}
use Rattle.std.specs.Prelude.{◌≡◌, Bool, ◌&&◌, List, [], ◌∷◌, ◌++◌, get_or, take, drop}
use Rattle.std.proofs.Common.{sym, ap, ◌∙◌, mul-zero, mul-suc, not-suc-le-zero, le_of_suc-le-suc, get_or-take, get_or-drop}
use Rattle.std.proofs.Math.Bool.{and_assoc, and-true}
use native.Mathlib.Omega.{arith}
use Rattle.std.proofs.Math.Seq.{drop-drop}
use Rattle.lists.specs.Lists.{Row, all, chop, span}

module _ (k n : ℕ) (l : List ℕ) where
  -- the rows from row i on
  abbrev pub chop_from : ℕ → List Row
  chop_from i = chop k (n - i) (drop (k * i) l)

  pub chop-start : chop_from 0 ≡ chop k n l
  chop-start =
      let whole : n - 0 ≡ n = omega arith in
      rw (whole, mul-zero)

  pub chop-next : (i : ℕ) → i < n → chop_from i ≡ take k (drop (k * i) l) ∷ chop_from (i + 1)
  unfolding chop
  chop-next i h =
      let more : n - i ≡ suc (n - (i + 1)) = omega arith in
      let on : k * (i + 1) ≡ k * i + k = omega arith in
      rw (more, on, drop-drop k (k * i) l)

  pub chop-end : (i : ℕ) → n ≤ i → chop_from i ≡ []
  unfolding chop
  chop-end i h =
      let none : n - i ≡ 0 = omega arith in
      rw none

  -- a pass that asks every row: b is what the rows before i came to
  module _ (p : Row → Bool) where
    pub pass_all : (b : Bool) (i : ℕ) → i < n → (b && all p (chop_from i)) ≡ ((b && p (take k (drop (k * i) l))) && all p (chop_from (i + 1)))
    pass_all b i h = ap (λ (x : List Row). b && all p x) (chop-next i h) ∙ sym (and_assoc b (p (take k (drop (k * i) l))) (all p (chop_from (i + 1))))

    pub pass-all-end : (b : Bool) (i : ℕ) → n ≤ i → (b && all p (chop_from i)) ≡ b
    pass-all-end b i h = ap (λ (x : List Row). b && all p x) (chop-end i h) ∙ and-true b

-- word j of row i, where the rows start at m
pub chop-word-from : (k m : ℕ) (l : List ℕ) (i j : ℕ) → j < k → get_or (take k (drop (k * i) (drop m l))) j 0 ≡ get_or l (m + (k * i + j)) 0
chop-word-from k m l i j h = get_or-take k (drop (k * i) (drop m l)) j 0 h ∙ get_or-drop (k * i) (drop m l) j 0 ∙ get_or-drop m l (k * i + j) 0

-- row i of rows chopped off a list
pub chop-at : (k n : ℕ) (l : List ℕ) (i : ℕ) → i < n → take k (drop (k * i) l) ≡ get_or (chop k n l) i []
unfolding chop
chop-at k zero l i h = absurd (not-suc-le-zero h)
chop-at k (suc n) l zero h = rw mul-zero
chop-at k (suc n) l (suc i) h =
    let on : k * suc i ≡ k + k * i = rw mul-suc (omega arith) in
    rw (on, ← drop-drop (k * i) k l) (chop-at k n (drop k l) i (le_of_suc-le-suc h))

-- one row more
pub chop-more : (k i : ℕ) (l : List ℕ) → chop k (suc i) l ≡ chop k i l ++ (span (k * i) k l ∷ [])
unfolding chop span
chop-more k zero l = ap (λ (n : ℕ). take k (drop n l) ∷ []) (sym (mul-zero k))
chop-more k (suc i) l =
    let on : k + k * i ≡ k * suc i = rw mul-suc (omega arith) in
    ap (λ (x : List Row). take k l ∷ x)
    (chop-more k i (drop k l)
    ∙ ap (λ (x : List ℕ). chop k i (drop k l) ++ (take k x ∷ [])) (drop-drop (k * i) k l ∙ ap (λ (n : ℕ). drop n l) on))
