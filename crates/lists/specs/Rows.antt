-- Laws of rows laid out as words: how long they are, and that chopping and joining undo one another.
-- Assumes nothing.
use Rattle.std.specs.Prelude.{ℕ, zero, suc, ◌+◌, ◌-◌, ◌*◌, ◌≤◌, ◌≡◌, refl, Bool, true, List, [], ◌∷◌, ◌++◌, eqb, length, take, drop}
use Rattle.std.proofs.Common.{sym, ap, ◌∙◌, append_assoc, append-nil, mul-zero, mul-suc, add_comm, zero-add, suc-add, arith, length-append, length-take, length-drop, take_at, drop_at, take-add, length-take-le, drop-drop, eqb-true, eq-eqb}
use Rattle.std.proofs.Math.Nat.{sub-zero}
use Rattle.lists.specs.Lists.{Row, all, all_zero, flat, zeros, pad, span, put, chop}
use Rattle.lists.specs.Bools.{and_left, and_right, and_both}

-- the rows have k words each
abbrev pub sized : ℕ → List Row → Bool
sized k rows = all (λ r. eqb (length r) k) rows

-- ---- zeros
pub length-zeros : (n : ℕ) → length (zeros n) ≡ n
unfolding zeros
length-zeros zero = refl
length-zeros (suc n) = ap suc (length-zeros n)

pub all_zero-zeros : (n : ℕ) → all_zero (zeros n) ≡ true
unfolding zeros
all_zero-zeros zero = refl
all_zero-zeros (suc n) = all_zero-zeros n

pub zeros-all_zero : (l : List ℕ) → all_zero l ≡ true → l ≡ zeros (length l)
unfolding zeros
zeros-all_zero [] h = refl
zeros-all_zero (x ∷ l) h =
    let d : 0 ≡ x = eqb-true 0 x (and_left (eqb 0 x) (all_zero l) h) in
    let e : l ≡ zeros (length l) = zeros-all_zero l (and_right (eqb 0 x) (all_zero l) h) in
    rw (← d, ← e)

pub zeros_cons : (n : ℕ) → 0 ∷ zeros n ≡ zeros (suc n)
unfolding zeros
zeros_cons n = refl

pub zeros_append : (m n : ℕ) → zeros m ++ zeros n ≡ zeros (m + n)
unfolding zeros
zeros_append zero n = ap zeros (sym (zero-add n))
zeros_append (suc m) n = ap (λ (l : List ℕ). 0 ∷ l) (zeros_append m n) ∙ ap zeros (sym (suc-add m n))

pub drop-zeros : (m n : ℕ) → drop m (zeros (m + n)) ≡ zeros n
drop-zeros m n = ap (drop m) (sym (zeros_append m n)) ∙ drop_at (zeros m) (zeros n) m (length-zeros m)

-- ---- pad
pub pad_nil : (n : ℕ) → pad n [] ≡ zeros n
unfolding pad
pad_nil n = ap zeros (sub-zero n)

pub length-pad : (n : ℕ) (l : List ℕ) → length l ≤ n → length (pad n l) ≡ n
unfolding pad
length-pad n l h = simp (length-append, length-zeros) (omega arith)

-- words filled up with the zeros that stand behind them in l
pub pad-take : (n m : ℕ) (l : List ℕ) → m ≤ n → n ≤ length l → all_zero (span m (n - m) l) ≡ true → pad n (take m l) ≡ take n l
unfolding pad span
pad-take n m l h k z =
    let short : length (take m l) ≡ m = length-take-le m l (omega arith) in
    let rest : length (take (n - m) (drop m l)) ≡ n - m = length-take-le (n - m) (drop m l) (simp length-drop (omega arith)) in
    let same : take (n - m) (drop m l) ≡ zeros (n - m) = rw rest at (zeros-all_zero (take (n - m) (drop m l)) z) in
    let whole : m + (n - m) ≡ n = omega arith in
    ap (λ (i : ℕ). take m l ++ zeros (n - i)) short
    ∙ ap (λ (r : List ℕ). take m l ++ r) (sym same)
    ∙ sym (take-add m (n - m) l)
    ∙ ap (λ (i : ℕ). take i l) whole

-- ---- flat and chop
pub length-flat : (k : ℕ) (rows : List Row) → sized k rows ≡ true → length (flat rows) ≡ k * length rows
unfolding flat
length-flat k [] h = sym (mul-zero k)
length-flat k (r ∷ rows) h =
    let d : length r ≡ k = eqb-true (length r) k (and_left (eqb (length r) k) (sized k rows) h) in
    let e : length (flat rows) ≡ k * length rows = length-flat k rows (and_right (eqb (length r) k) (sized k rows) h) in
    rw (length-append r (flat rows), mul-suc) (omega arith)

pub chop-flat : (k : ℕ) (rows : List Row) (rest : List ℕ) → sized k rows ≡ true → chop k (length rows) (flat rows ++ rest) ≡ rows
unfolding flat chop
chop-flat k [] rest h = refl
chop-flat k (r ∷ rows) rest h =
    let d : length r ≡ k = eqb-true (length r) k (and_left (eqb (length r) k) (sized k rows) h) in
    let e : chop k (length rows) (flat rows ++ rest) ≡ rows = chop-flat k rows rest (and_right (eqb (length r) k) (sized k rows) h) in
    rw (append_assoc r (flat rows) rest, take_at r (flat rows ++ rest) k d, drop_at r (flat rows ++ rest) k d, e)

pub length-chop : (k n : ℕ) (l : List ℕ) → length (chop k n l) ≡ n
unfolding chop
length-chop k zero l = refl
length-chop k (suc n) l = ap suc (length-chop k n (drop k l))

pub sized-chop : (k n : ℕ) (l : List ℕ) → k * n ≤ length l → sized k (chop k n l) ≡ true
unfolding chop
sized-chop k zero l h = refl
sized-chop k (suc n) l h =
    let room : k * n + k ≤ length l = rw (mul-suc k n) at h in
    and_both (eqb (length (take k l)) k) (sized k (chop k n (drop k l)))
    (eq-eqb (length (take k l)) k (length-take-le k l (omega arith)))
    (sized-chop k n (drop k l) (simp length-drop (omega arith)))

pub flat-chop : (k n : ℕ) (l : List ℕ) → flat (chop k n l) ≡ take (k * n) l
unfolding flat chop
flat-chop k zero l = ap (λ (i : ℕ). take i l) (sym (mul-zero k))
flat-chop k (suc n) l =
    ap (λ (r : List ℕ). take k l ++ r) (flat-chop k n (drop k l))
    ∙ sym (take-add k (k * n) l)
    ∙ ap (λ (i : ℕ). take i l) (add_comm k (k * n) ∙ sym (mul-suc k n))

-- the rows of a part
pub chop-part : (base k n : ℕ) (w : List ℕ) → base + k * n ≤ length w → chop k n (span base (k * n) w) ≡ chop k n (drop base w)
unfolding span
chop-part base k n w h =
    let rows = chop k n (drop base w) in
    let long : length rows ≡ n = length-chop k n (drop base w) in
    let there : take (k * n) (drop base w) ≡ flat rows ++ [] = sym (append-nil (flat rows) ∙ flat-chop k n (drop base w)) in
    ap (chop k n) there
    ∙ ap (λ (m : ℕ). chop k m (flat rows ++ [])) (sym long)
    ∙ chop-flat k rows [] (sized-chop k n (drop base w) (rw length-drop (omega arith)))

-- the rows in use and the zeros behind them
pub pad-chop : (size k n : ℕ) (l : List ℕ) → k * n ≤ size → size ≤ length l → all_zero (span (k * n) (size - k * n) l) ≡ true
    → pad size (flat (chop k n l)) ≡ take size l
pad-chop size k n l h g z = ap (pad size) (flat-chop k n l) ∙ pad-take size (k * n) l h g z

-- the zeros behind the m words in use
pub all_zero-pad : (n m : ℕ) (l rest : List ℕ) → length l ≡ m → all_zero (span m (n - m) (pad n l ++ rest)) ≡ true
unfolding pad span
all_zero-pad n m l rest h =
    rw (h, append_assoc l (zeros (n - m)) rest, drop_at l (zeros (n - m) ++ rest) m h, take_at (zeros (n - m)) rest (n - m) (length-zeros (n - m)))
    (all_zero-zeros (n - m))

-- at the very end
pub all_zero-end : (n m : ℕ) (l : List ℕ) → length l ≡ m → all_zero (drop m (pad n l)) ≡ true
unfolding pad
all_zero-end n m l h = rw (h, drop_at l (zeros (n - m)) m h) (all_zero-zeros (n - m))

pub chop-pad : (size k : ℕ) (rows : List Row) (rest : List ℕ) → sized k rows ≡ true → chop k (length rows) (pad size (flat rows) ++ rest) ≡ rows
unfolding pad
chop-pad size k rows rest h =
    rw (append_assoc (flat rows) (zeros (size - length (flat rows))) rest) (chop-flat k rows (zeros (size - length (flat rows)) ++ rest) h)

-- ---- put and span
pub span-past : (a m n : ℕ) (l : List ℕ) → span (a + m) n l ≡ span m n (drop a l)
unfolding span
span-past a m n l = ap (take n) (sym (drop-drop m a l))

pub length-put : (at : ℕ) (vs l : List ℕ) → at + length vs ≤ length l → length (put at vs l) ≡ length l
unfolding put
length-put at vs l h = simp (length-append, length-take, length-drop) (omega arith)

pub length-span : (at n : ℕ) (l : List ℕ) → at + n ≤ length l → length (span at n l) ≡ n
unfolding span
length-span at n l h = simp (length-take, length-drop) (omega arith)
