-- What the code's reading of a request's pairs comes to.
-- Assumes nothing.
use Rattle.std.specs.Prelude.{ℕ, zero, suc, ◌≤◌, ◌≡◌, refl, Bool, List, ◌∷◌, leb, take, drop}
use Rattle.std.proofs.Common.{ap, arith}
use Rattle.std.specs.Simd.{first_chunks}
use Rattle.lists.specs.Lists.{Row, chop}
use Rattle.layout.specs.Request.{pair_index}

abbrev pub fit_pair : Row → Bool
fit_pair p = leb (pair_index p) 16

-- the first of the library's chunks
pub chunks_take : (k n m : ℕ) (w : List ℕ) → n ≤ m → take n (first_chunks k m w) ≡ chop k n w
unfolding chop
chunks_take k zero m w h = refl
chunks_take k (suc n) zero w h = absurd (omega arith)
chunks_take k (suc n) (suc m) w h = ap (λ (l : List Row). take k w ∷ l) (chunks_take k n m (drop k w) (omega arith))
