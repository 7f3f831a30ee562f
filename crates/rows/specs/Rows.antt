-- Rows cut from words.
-- Assumes nothing.
use Rattle.std.specs.Prelude.{ℕ, zero, suc, ◌/◌, ◌<◌, ◌≡◌, refl, Bool, List, [], ◌∷◌, ◌++◌, length, take, drop}
use Rattle.std.proofs.Common.{sym, ap, ◌∙◌}
use Rattle.std.proofs.lemmas.List.{append-nil}
use Rattle.std.proofs.Math.Nat.{mul-div_cancel_left}
use Rattle.std.specs.Simd.{first_chunks}
use Rattle.lists.specs.Lists.{Row, flat, chop}
use Rattle.lists.specs.Rows.{chop-flat}
use Rattle.lists.specs.Laid.{Laid, laid-length}

-- the library's chunks are the rows
pub chunks-chop : (k n : ℕ) (w : List ℕ) → first_chunks k n w ≡ chop k n w
unfolding chop
chunks-chop k zero w = refl
chunks-chop k (suc n) w = ap (λ (l : List Row). take k w ∷ l) (chunks-chop k n (drop k w))

-- of words that are laid out rows, those rows
pub chunks-laid : (k : ℕ) {fit : Row → Bool} {w : List ℕ} {l : List Row} → 0 < k → Laid k fit w l → first_chunks k (length w / k) w ≡ l
chunks-laid k {fit} {w} {l} p h =
    let n : length w / k ≡ length l = ap (λ (m : ℕ). m / k) (laid-length h) ∙ mul-div_cancel_left (length l) p in
    let whole : w ≡ flat l ++ [] = h.words ∙ sym (append-nil (flat l)) in
    rw n (chunks-chop k (length l) w) ∙ ap (chop k (length l)) whole ∙ chop-flat k l [] h.width
