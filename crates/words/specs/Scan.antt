-- What a scan that ors has seen: no bit is set where no word had one.
-- Assumes nothing.
use Rattle.std.specs.Prelude.{ℕ, zero, suc, ◌*◌, ◌≡◌, refl, Bool, false, ◌&&◌, List, [], ◌∷◌, ◌++◌, eqb, length, take, drop}
use Rattle.std.proofs.Common.{sym, ap, ◌∙◌, arith, zero-mul, take-add, take-append-drop, eqb-true, eq-eqb}
use Rattle.std.proofs.Math.Bool.{and-true, and_assoc, and_comm}
use Rattle.std.specs.Int.Bits.{bit_or, or_add_and}
use Rattle.std.specs.List.{fold}
use Rattle.std.specs.Simd.{first_chunks}
use Rattle.std.proofs.lemmas.Nat.{and_le_l, and_le_r}
use Rattle.lists.specs.Lists.{all_zero}
use Rattle.lists.specs.Bools.{and_left, and_right, and_both, same_test}

-- the or of all the words
abbrev pub or_all : List ℕ → ℕ
or_all l = fold bit_or 0 l

pub or_none : (x w : ℕ) → eqb (bit_or x w) 0 ≡ eqb x 0 && eqb 0 w
or_none x w =
    same_test (eqb (bit_or x w) 0) (eqb x 0 && eqb 0 w)
    (λ e. let z = eqb-true (bit_or x w) 0 e in
    and_both (eqb x 0) (eqb 0 w)
    (eq-eqb x 0 (omega (arith, or_add_and x w, and_le_l x w, and_le_r x w)))
    (eq-eqb 0 w (omega (arith, or_add_and x w, and_le_l x w, and_le_r x w))))
    (λ e. let p = eqb-true x 0 (and_left (eqb x 0) (eqb 0 w) e) in
    let q = eqb-true 0 w (and_right (eqb x 0) (eqb 0 w) e) in
    eq-eqb (bit_or x w) 0 (omega (arith, or_add_and x w)))

turned : (w : ℕ) → eqb 0 w ≡ eqb w 0
turned w = same_test (eqb 0 w) (eqb w 0) (λ q. eq-eqb w 0 (sym (eqb-true 0 w q))) (λ q. eq-eqb 0 w (sym (eqb-true w 0 q)))

zero_append : (l m : List ℕ) → all_zero (l ++ m) ≡ all_zero l && all_zero m
zero_append [] m = refl
zero_append (v ∷ l) m = ap (λ (b : Bool). eqb 0 v && b) (zero_append l m) ∙ sym (and_assoc (eqb 0 v) (all_zero l) (all_zero m))

-- words behind those that were seen
pub fold_none : (x : ℕ) (l : List ℕ) → eqb (fold bit_or x l) 0 ≡ eqb x 0 && all_zero l
fold_none x [] = sym (and-true (eqb x 0))
fold_none x (w ∷ l) = fold_none (bit_or x w) l ∙ rw or_none (and_assoc (eqb x 0) (eqb 0 w) (all_zero l))

pub or_zero : (l : List ℕ) → eqb (or_all l) 0 ≡ all_zero l
or_zero l = fold_none 0 l

-- parts of k words behind those that were seen
pub parts_none : (x k n : ℕ) (l : List ℕ) → eqb (fold (λ some part. bit_or some (or_all part)) x (first_chunks k n l)) 0 ≡ eqb x 0 && all_zero (take (n * k) l)
parts_none x k zero l = rw zero-mul (sym (and-true (eqb x 0)))
parts_none x k (suc n) l =
    parts_none (bit_or x (or_all (take k l))) k n (drop k l)
    ∙ rw (or_none, turned (or_all (take k l)), or_zero) (and_assoc (eqb x 0) (all_zero (take k l)) (all_zero (take (n * k) (drop k l))))
    ∙ ap (λ (b : Bool). eqb x 0 && b) (sym (zero_append (take k l) (take (n * k) (drop k l))) ∙ ap all_zero (sym (take-add k (n * k) l)))
    ∙ ap (λ (m : ℕ). eqb x 0 && all_zero (take m l)) (omega arith)

-- a first word, the parts behind it and what is left
pub scanned : (first k n : ℕ) (l : List ℕ) → eqb (fold (λ some part. bit_or some (or_all part)) (bit_or first (or_all (drop (n * k) l))) (first_chunks k n l)) 0 ≡ all_zero (first ∷ l)
scanned first k n l =
    parts_none (bit_or first (or_all (drop (n * k) l))) k n l
    ∙ rw (or_none, turned (or_all (drop (n * k) l)), or_zero) (and_assoc (eqb first 0) (all_zero (drop (n * k) l)) (all_zero (take (n * k) l)))
    ∙ ap (λ (b : Bool). eqb first 0 && b) (and_comm (all_zero (drop (n * k) l)) (all_zero (take (n * k) l)) ∙ sym (zero_append (take (n * k) l) (drop (n * k) l)) ∙ ap all_zero (take-append-drop (n * k) l))
    ∙ ap (λ (b : Bool). b && all_zero l) (sym (turned first))
