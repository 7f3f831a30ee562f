-- A label's bytes as one number are below 256 to its length where each of its four words ends in time.
-- Assumes nothing.
use mathlib.Core.Path.{◌≡◌, refl, sym, ap, ◌∙◌}
use mathlib.Core.Bool.{Bool, true, false, ◌&&◌}
use Prim.Native.Nat.{ℕ, zero, suc, min, ◌+◌, ◌-◌, ◌*◌, ◌/◌, ◌^◌, ◌<◌}
use native.Mathlib.Nat.{div-lt_iff_lt-mul, div-eq_of_lt}
use native.Mathlib.Omega.{arith}
use lib.Dec.{leb, ltb, eqb, lit<}
use lib.Pow.{pow-add, pow_pos}
use borrow.Author.Tests.{ltb-true, ltb-false, lt-ltb, le-ltb, le-leb, lt-leb, leb-true, leb-false, eq-eqb, ne_eqb}
use Rattle.layout.specs.Address.{fit_label}
use Rattle.row_address.specs.Row.{word_ends}

-- ---- a number of words is below a power of 256
module _ (x y : ℕ) (h : x < 2 ^ 32) where
  few : (p : ℕ) → p < 2 ^ 32 → (b c : Bool) → ltb x p ≡ b → ltb y 1 ≡ c → ltb (x + y * 2 ^ 32) p ≡ b && c
  few p k true true e f = lt-ltb (x + y * 2 ^ 32) p (omega (arith, ltb-true x p e, ltb-true y 1 f))
  few p k true false e f = le-ltb (x + y * 2 ^ 32) p (omega (arith, ltb-false y 1 f))
  few p k false c e f = le-ltb (x + y * 2 ^ 32) p (omega (arith, ltb-false x p e))

  many : (p : ℕ) (c : Bool) → ltb y p ≡ c → ltb (x + y * 2 ^ 32) (p * 2 ^ 32) ≡ c
  many p true f = lt-ltb (x + y * 2 ^ 32) (p * 2 ^ 32) (omega (arith, ltb-true y p f))
  many p false f = le-ltb (x + y * 2 ^ 32) (p * 2 ^ 32) (omega (arith, ltb-false y p f))

  -- the lowest word ends in time, and the words above it in the bytes that are left
  word : (n : ℕ) → ltb (x + y * 2 ^ 32) (2 ^ (8 * n)) ≡ word_ends x n && ltb y (2 ^ (8 * (n - 4)))
  word zero = few 1 (lit< tt) (ltb x 1) (ltb y 1) refl refl
  word (suc zero) = few (2 ^ 8) (lit< tt) (ltb x (2 ^ 8)) (ltb y 1) refl refl
  word (suc (suc zero)) = few (2 ^ 16) (lit< tt) (ltb x (2 ^ 16)) (ltb y 1) refl refl
  word (suc (suc (suc zero))) = few (2 ^ 24) (lit< tt) (ltb x (2 ^ 24)) (ltb y 1) refl refl
  word (suc (suc (suc (suc n)))) =
      let whole : 8 * suc (suc (suc (suc n))) ≡ 8 * n + 32 = omega arith in
      let rest : suc (suc (suc (suc n))) - 4 ≡ n = omega arith in
      let over : leb 4 (suc (suc (suc (suc n)))) ≡ true = le-leb 4 (suc (suc (suc (suc n)))) (omega arith) in
      rw (over, whole, rest, pow-add 2 (8 * n) 32) (many (2 ^ (8 * n)) (ltb y (2 ^ (8 * n))) refl)

-- ---- a label of four words
and_assoc : (a b c : Bool) → (a && b) && c ≡ a && (b && c)
and_assoc true b c = refl
and_assoc false b c = refl

module _ (n a b c d : ℕ) (ha : a < 2 ^ 32) (hb : b < 2 ^ 32) (hc : c < 2 ^ 32) where
  words : ltb (a + b * 2 ^ 32 + c * 2 ^ 64 + d * 2 ^ 96) (2 ^ (8 * n))
      ≡ word_ends a n && (word_ends b (n - 4) && (word_ends c (n - 8) && ltb d (2 ^ (8 * (n - 12)))))
  words =
      let nested : a + b * 2 ^ 32 + c * 2 ^ 64 + d * 2 ^ 96 ≡ a + (b + (c + d * 2 ^ 32) * 2 ^ 32) * 2 ^ 32 = omega arith in
      let eight : n - 4 - 4 ≡ n - 8 = omega arith in
      let twelve : n - 8 - 4 ≡ n - 12 = omega arith in
      rw (nested, word a (b + (c + d * 2 ^ 32) * 2 ^ 32) ha n, word b (c + d * 2 ^ 32) hb (n - 4), eight, word c d hc (n - 8), twelve)

  -- at most 15 bytes leave at most 3 for the last word
  last : leb n 15 ≡ true → word_ends d (n - 12) ≡ ltb d (2 ^ (8 * (n - 12)))
  last e = rw (lt-leb 4 (n - 12) (omega (arith, leb-true n 15 e)))

  by_length : (q : Bool) → leb n 15 ≡ q → q && word_ends a n && word_ends b (n - 4) && word_ends c (n - 8) && word_ends d (n - 12)
      ≡ q && ltb (a + b * 2 ^ 32 + c * 2 ^ 64 + d * 2 ^ 96) (2 ^ (8 * n))
  by_length true e =
      ap (λ (t : Bool). word_ends a n && word_ends b (n - 4) && word_ends c (n - 8) && t) (last e)
      ∙ and_assoc (word_ends a n && word_ends b (n - 4)) (word_ends c (n - 8)) (ltb d (2 ^ (8 * (n - 12))))
      ∙ and_assoc (word_ends a n) (word_ends b (n - 4)) (word_ends c (n - 8) && ltb d (2 ^ (8 * (n - 12))))
      ∙ sym words
  by_length false e = refl

  pub fits-by-words : leb n 15 && word_ends a n && word_ends b (n - 4) && word_ends c (n - 8) && word_ends d (n - 12)
      ≡ fit_label n (a + b * 2 ^ 32 + c * 2 ^ 64 + d * 2 ^ 96)
  fits-by-words = by_length (leb n 15) refl

-- ---- one word
pub none_above : (w k : ℕ) → eqb (w / 2 ^ k) 0 ≡ ltb w (2 ^ k)
none_above w k = by (ltb w (2 ^ k)) refl
  where
    by : (q : Bool) → ltb w (2 ^ k) ≡ q → eqb (w / 2 ^ k) 0 ≡ q
    by true e = eq-eqb (w / 2 ^ k) 0 (div-eq_of_lt (ltb-true w (2 ^ k) e))
    by false e =
        ne_eqb (w / 2 ^ k) 0 (λ z. omega (arith, ltb-false w (2 ^ k) e, (div-lt_iff_lt-mul {k = 2 ^ k} {x = w} {y = 1} (pow_pos k)).0 (omega arith)))

-- the first bytes of a word, of four and of more
pub ends-by : (w n : ℕ) → w < 2 ^ 32 → eqb (w / 2 ^ (8 * min n 4)) 0 ≡ word_ends w n
ends-by w n h = by (leb 4 n) refl
  where
    by : (q : Bool) → leb 4 n ≡ q → eqb (w / 2 ^ (8 * min n 4)) 0 ≡ word_ends w n
    by true e =
        let four : min n 4 ≡ 4 = omega (arith, leb-true 4 n e) in
        rw (four, e) (none_above w 32 ∙ lt-ltb w (2 ^ 32) h)
    by false e =
        let few : min n 4 ≡ n = omega (arith, leb-false 4 n e) in
        rw (few, e) (none_above w (8 * n))
