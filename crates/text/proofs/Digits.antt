-- Laws of digits: the equation that they are, how many there are, and that they are a number's last ones.
-- Assumes nothing.
use Rattle.std.specs.Prelude.{ℕ, zero, suc, ◌+◌, ◌*◌, ◌/◌, ◌^◌, ◌≤◌, ◌<◌, ◌≡◌, refl, Bool, true, false, List, [], ◌∷◌, ◌++◌, ltb, length}
use Rattle.std.proofs.Common.{sym, ap, ◌∙◌, not-suc-le-zero, mod-eq_of_lt, pow-suc, arith, length-append, ltb-true, ltb-false, lt-ltb, le-ltb}
use Rattle.text.specs.Print.{digit, digits_in, digits}
use Rattle.std.specs.Fmt.{decimal}
use Rattle.std.proofs.lemmas.Fmt.{AppendsLastDigit, decimal_from_appends, length-decimal-le_succ}

module _ (k n : ℕ) where
  less : n < 10 → digits_in (suc k) n ≡ digit n ∷ []
  less h = rw (lt-ltb n 10 h)

  more : 10 ≤ n → digits_in (suc k) n ≡ digits_in k (n / 10) ++ (digit n ∷ [])
  more h = rw (le-ltb n 10 h)

-- either a number has one digit or a tenth part
tens : (n : ℕ) {C : Type 0} → (n < 10 → C) → (10 ≤ n → C) → C
tens n {C} f g = case (ltb n 10) refl
  where
    case : (b : Bool) → ltb n 10 ≡ b → C
    case true e = f (ltb-true n 10 e)
    case false e = g (ltb-false n 10 e)

-- room for more digits changes none
digits_in-same : (k j n : ℕ) → n < k → n < j → digits_in k n ≡ digits_in j n
digits_in-same zero j n h g = absurd (not-suc-le-zero h)
digits_in-same (suc k) zero n h g = absurd (not-suc-le-zero g)
digits_in-same (suc k) (suc j) n h g =
    tens n (λ s. less k n s ∙ sym (less j n s))
    (λ b. more k n b ∙ ap (λ (l : List ℕ). l ++ (digit n ∷ [])) (digits_in-same k j (n / 10) (omega arith) (omega arith)) ∙ sym (more j n b))

-- a number below ten is its digit; any other has the digits of its tenth part and one more
pub digits-one : (n : ℕ) → n < 10 → digits n ≡ digit n ∷ []
unfolding digits
digits-one n h = less n n h

pub digits_more : (n : ℕ) → 10 ≤ n → digits n ≡ digits (n / 10) ++ (digit n ∷ [])
unfolding digits
digits_more n h = more n n h ∙ ap (λ (l : List ℕ). l ++ (digit n ∷ [])) (digits_in-same n (suc (n / 10)) (n / 10) (omega arith) (omega arith))

-- ---- how many
pub count-one : (n : ℕ) → n < 10 → length (digits n) ≡ 1
count-one n h = rw (digits-one n h)

pub count-more : (n : ℕ) → 10 ≤ n → length (digits n) ≡ length (digits (n / 10)) + 1
count-more n h = rw (digits_more n h, length-append (digits (n / 10)) (digit n ∷ []))

-- a number below 256 has at most three, a word at most ten
pub count-byte : (n : ℕ) → n < 256 → length (digits n) ≤ 3
count-byte n h =
    tens n (λ s. omega (arith, count-one n s))
    (λ b. tens (n / 10) (λ s. omega (arith, count-more n b, count-one (n / 10) s))
    (λ d. omega (arith, count-more n b, count-more (n / 10) d, count-one (n / 10 / 10) (omega arith))))

most : (k n : ℕ) → n < 10 ^ suc k → length (digits n) ≤ suc k
most zero n h = omega (arith, count-one n h)
most (suc k) n h =
    let p : n < 10 ^ suc k * 10 = rw (pow-suc 10 (suc k)) at h in
    tens n (λ s. omega (arith, count-one n s)) (λ b. omega (arith, count-more n b, most k (n / 10) (omega arith)))

pub count_word : (n : ℕ) → n < 4294967296 → length (digits n) ≤ 10
count_word n h = most 9 n (omega arith)

-- ---- they are the library's
pub digits-decimal : (n : ℕ) → n < 4294967296 → digits n ≡ decimal n
unfolding digits
digits-decimal n h =
    decimal_from_appends digits_in steps (suc n) n (omega arith) (omega (arith, length-decimal-le_succ n (omega arith)))
  where
    steps : AppendsLastDigit digits_in
    steps = record {
      one = λ k m g. less k m g ∙ rw (mod-eq_of_lt g);
      more = more;
    }
