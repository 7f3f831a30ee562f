-- No number is twice: a bit for each number seen, so that most are told from all others without a search.
-- Assumes nothing.
use Rattle.std.specs.Prelude.{ℕ, suc, ◌+◌, ◌-◌, ◌*◌, ◌/◌, ◌%◌, ◌^◌, ◌≤◌, ◌<◌, ◌≡◌, refl, Bool, true, false, ◌&&◌, List, [], ◌∷◌, eqb, length, take, drop}
use Rattle.std.proofs.Math.Path.{sym, ap}
use Rattle.std.proofs.Common.{◌∙◌, length-drop, shl_exact, drop-cons, take_all, eq-eqb, eqb-true}
use Rattle.std.proofs.Math.Bool.{not}
use native.Mathlib.Omega.{arith}
use Rattle.std.specs.Int.Bits.{bit_and, bit_or, and_le_r}
use Rattle.std.proofs.lemmas.Nat.{and_mask, or_shr, or_mod, shl-shr}
use Rattle.std.proofs.Math.ListN.{get_or}
use Rattle.lists.specs.Lists.{all, among, pairwise}
use Rattle.lists.specs.Bools.{and_left, and_right, fails, true-false}
use Rattle.lists.specs.All.{all_mono, all_cons}
use Rattle.lists.specs.Next.{all_end, pairwise-end}
use Rattle.lists.specs.Split.{all-other, pairwise_drop}
use Rattle.definition.specs.Words.{none_twice}

-- the bit that a number sets, named by its low six bits
abbrev pub bit_of : ℕ → ℕ
bit_of n = bit_and n 63

abbrev pub has_bit : ℕ → ℕ → Bool
has_bit s k = eqb (s / 2 ^ k % 2) 1

-- each of the numbers has set its bit
unfoldable pub marked : ℕ → List ℕ → Bool
marked s l = all (λ n. has_bit s (bit_of n)) l

-- those from a place on, as the code lends them
pub rest_of : {A : Type 0} (i : ℕ) (l : List A) → take (length l - i) (drop i l) ≡ drop i l
rest_of i l = take_all (length l - i) (drop i l) (rw length-drop (omega arith))

-- ---- bits
bit_of_or : (s c k : ℕ) → bit_or s c / 2 ^ k % 2 ≡ bit_or (s / 2 ^ k % 2) (c / 2 ^ k % 2)
bit_of_or s c k = ap (λ (x : ℕ). x % 2) (or_shr s c k) ∙ or_mod (s / 2 ^ k) (c / 2 ^ k) 1

or_bit : (x : ℕ) → x < 2 → (bit_or 1 x ≡ 1) × (bit_or x 1 ≡ 1)
or_bit ℕ.zero h = (refl, refl)
or_bit (suc ℕ.zero) h = (refl, refl)
or_bit (suc (suc x)) h = absurd (omega arith)

kept : (s c k : ℕ) → has_bit s k ≡ true → has_bit (bit_or s c) k ≡ true
kept s c k e =
    eq-eqb (bit_or s c / 2 ^ k % 2) 1
    (bit_of_or s c k ∙ ap (λ (x : ℕ). bit_or x (c / 2 ^ k % 2)) (eqb-true (s / 2 ^ k % 2) 1 e) ∙ (or_bit (c / 2 ^ k % 2) (omega arith)).0)

set : (s k : ℕ) → k < 64 → has_bit (bit_or s (1 * 2 ^ k % 2 ^ 64)) k ≡ true
set s k h =
    let one : 1 * 2 ^ k % 2 ^ 64 / 2 ^ k % 2 ≡ 1 = ap (λ (x : ℕ). x / 2 ^ k % 2) (shl_exact 1 k 64 (omega arith) (omega arith)) ∙ ap (λ (x : ℕ). x % 2) (shl-shr 1 k) in
    eq-eqb (bit_or s (1 * 2 ^ k % 2 ^ 64) / 2 ^ k % 2) 1
    (bit_of_or s (1 * 2 ^ k % 2 ^ 64) k ∙ ap (λ (x : ℕ). bit_or (s / 2 ^ k % 2) x) one ∙ (or_bit (s / 2 ^ k % 2) (omega arith)).1)

-- ---- numbers, from the end on
module _ (l : List ℕ) (i : ℕ) (h : 0 < i) (k : i ≤ length l) where
  one_more : drop (i - 1) l ≡ get_or l (i - 1) 0 ∷ drop i l
  one_more =
      let on : suc (i - 1) ≡ i = omega arith in
      drop-cons l (i - 1) 0 (omega arith) ∙ ap (λ (j : ℕ). get_or l (i - 1) 0 ∷ drop j l) on

  -- it has set its bit too
  pub marked-back : (s : ℕ) → marked s (drop i l) ≡ true → marked (bit_or s (1 * 2 ^ bit_of (get_or l (i - 1) 0) % 2 ^ 64)) (drop (i - 1) l) ≡ true
  unfolding marked
  marked-back s e =
      let x = get_or l (i - 1) 0 in
      let s' = bit_or s (1 * 2 ^ bit_of x % 2 ^ 64) in
      rw one_more
      (all_cons (λ n. has_bit s' (bit_of n)) x (drop i l) (set s (bit_of x) (omega (arith, and_le_r x 63)))
      (all_mono (λ n. has_bit s (bit_of n)) (λ n. has_bit s' (bit_of n)) (drop i l) (λ n f. kept s (1 * 2 ^ bit_of x % 2 ^ 64) (bit_of n) f) e))

  pub twice_back : (t : Bool) {b : Bool} → b ≡ among (get_or l (i - 1) 0) (drop (i - 1 + 1) l) → b ≡ t → none_twice (drop (i - 1) l) ≡ not t && none_twice (drop i l)
  unfolding none_twice
  twice_back t eb et =
      let on : i - 1 + 1 ≡ i = omega arith in
      let found : among (get_or l (i - 1) 0) (drop i l) ≡ t = sym (rw on at eb) ∙ et in
      rw one_more (ap (λ (b : Bool). b && pairwise (λ a b. not (eqb a b)) (drop i l)) (all-other (get_or l (i - 1) 0) (drop i l) ∙ ap not found))

-- a number whose bit none of them has set is none of them
pub unmarked : (s x : ℕ) (l : List ℕ) → marked s l ≡ true → has_bit s (bit_of x) ≡ false → among x l ≡ false
unfolding marked
unmarked s x [] e f = refl
unmarked s x (y ∷ l) e f =
    let rest = unmarked s x l (and_right (has_bit s (bit_of y)) (all (λ n. has_bit s (bit_of n)) l) e) f in
    let other : eqb x y ≡ false =
    fails (eqb x y) (λ q. true-false (has_bit s (bit_of x)) (rw (eqb-true x y q) (and_left (has_bit s (bit_of y)) (all (λ n. has_bit s (bit_of n)) l) e)) f)
    in
    rw (other, rest)

-- the bit's test in the code
pub bit_test : (s k : ℕ) → bit_and (s / 2 ^ k) 1 ≡ 0 → has_bit s k ≡ false
bit_test s k e =
    fails (has_bit s k) (λ q. omega (arith, sym (and_mask (s / 2 ^ k) 1) ∙ e, eqb-true (s / 2 ^ k % 2) 1 q))

-- two that are the same among the last are so among all
pub twice_later : (l : List ℕ) (i : ℕ) → none_twice (drop i l) ≡ false → none_twice l ≡ false
unfolding none_twice
twice_later l i e = fails (none_twice l) (λ q. true-false (none_twice (drop i l)) (pairwise_drop (λ a b. not (eqb a b)) i l q) e)

-- none is looked at
pub marked-end : (s : ℕ) (l : List ℕ) → marked s (drop (length l) l) ≡ true
unfolding marked
marked-end s l = all_end (λ n. has_bit s (bit_of n)) l (length l) (omega arith)

pub twice_end : (l : List ℕ) → none_twice (drop (length l) l) ≡ true
unfolding none_twice
twice_end l = pairwise-end (λ a b. not (eqb a b)) l (length l) (omega arith)
