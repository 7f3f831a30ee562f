-- What a write to a part of a slice is of the whole.
-- Assumes nothing.
use Rattle.std.proofs.Common.{◌≡◌, ℕ, zero, suc, ◌+◌, ◌≤◌, List, ◌∷◌, length, refl, ap, ◌∙◌, append_assoc, drop-drop, arith, length-drop, length-take-le}
use Rattle.std.proofs.Math.ListN.{take, drop, replicate}
use Rattle.std.proofs.Math.Seq.{paste}
use borrow.Rule.Slice.PartMut.{put_mid}
use Rattle.lists.specs.Lists.{put, span, zeros}

pub put_mid-put : (at k : ℕ) (vs l ws : List ℕ) → ws ≡ vs → k ≡ length vs → put_mid at k l ws ≡ put at vs l
unfolding put
put_mid-put at k vs l ws e f = rw (e, f, drop-drop)

pub replicate-zeros : (m n : ℕ) → m ≡ n → replicate m 0 ≡ zeros n
unfolding zeros
replicate-zeros zero zero e = refl
replicate-zeros zero (suc n) e = absurd (omega arith)
replicate-zeros (suc m) zero e = absurd (omega arith)
replicate-zeros (suc m) (suc n) e = ap (λ (l : List ℕ). 0 ∷ l) (replicate-zeros m n (omega arith))

-- n words pasted are a run put in
pub pasted : (from to n k : ℕ) (l ws : List ℕ) → ws ≡ paste l to (drop from l) k → k ≡ n → from + n ≤ length l → ws ≡ put to (span from n l) l
unfolding put span
pasted from to n k l ws e f h =
    let long : length (take n (drop from l)) ≡ n = length-take-le n (drop from l) (rw length-drop (omega arith)) in
    e ∙ rw (f, long) (append_assoc (take to l) (take n (drop from l)) (drop (to + n) l))
