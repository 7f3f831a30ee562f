-- A row of rows laid out as words is a part of the words.
use Rattle.std.specs.Prelude.{ℕ, zero, suc, ◌+◌, ◌*◌, ◌<◌, ◌≡◌, true, List, [], ◌∷◌, ◌++◌, eqb, length, get_or, take, drop}
use Rattle.std.proofs.Common.{mul-zero, mul-suc, not-suc-le-zero, le_of_suc-le-suc, arith, take_at, eqb-true}
use Rattle.std.proofs.Math.Seq.{drop-append-add}
use Rattle.lists.specs.Lists.{Row, flat}
use Rattle.lists.specs.Bools.{and_left, and_right}
use Rattle.lists.specs.Rows.{sized}

-- the row at place i, as the part that is lent
pub part-row : (k : ℕ) (rows : List Row) (i : ℕ) → sized k rows ≡ true → i < length rows → take k (drop (k * i) (flat rows)) ≡ get_or rows i []
unfolding flat
part-row k [] i s h = absurd (not-suc-le-zero h)
part-row k (r ∷ rows) zero s h =
    let d : length r ≡ k = eqb-true (length r) k (and_left (eqb (length r) k) (sized k rows) s) in
    rw mul-zero (take_at r (flat rows) k d)
part-row k (r ∷ rows) (suc i) s h =
    let d : length r ≡ k = eqb-true (length r) k (and_left (eqb (length r) k) (sized k rows) s) in
    let far : drop (length r + k * i) (r ++ flat rows) ≡ drop (k * i) (flat rows) = drop-append-add r (flat rows) (k * i) in
    let at : k * suc i ≡ length r + k * i = rw mul-suc (omega arith) in
    rw (at, far) (part-row k rows i (and_right (eqb (length r) k) (sized k rows) s) (le_of_suc-le-suc h))
