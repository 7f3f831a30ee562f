-- Flag words: what `&`, `|` and `!` of a bit do is what the arithmetic of flags says.
-- Assumes nothing.
use Rattle.std.specs.Prelude.{◌≡◌, not, ℕ, zero, suc, ◌+◌, ◌-◌, ◌*◌, ◌/◌, ◌%◌, ◌^◌, ◌≤◌, ◌<◌, min, eqb}
use Rattle.std.proofs.Common.{sym, ap, ap₂, ◌∙◌, pow-suc, zero-mul, arith, one-add, pow_pos, ne_eqb}
use Rattle.std.specs.Int.Bits.{bit_and, bit_or, and_step, or_add_and}
use Rattle.std.proofs.lemmas.Nat.Bits.{and_high}
use Rattle.std.proofs.lemmas.Nat.{and_le_l}
use Rattle.std.proofs.Math.Arith.{lt-one}
use Rattle.std.proofs.Math.Pow.{pow-lt}
use Rattle.layout.specs.Flags.{has_bit, clear_bit, set_bit}

-- `f & (1 << k)`
pub and_bit : (k f : ℕ) → bit_and f (2 ^ k) ≡ f / 2 ^ k % 2 * 2 ^ k
and_bit k f =
    let one : 2 ^ (1 + k) - 2 ^ k ≡ 2 ^ k = rw one-add (omega (arith, pow-suc 2 k)) in
    sym (ap (bit_and f) one) ∙ and_high f 1 k

-- ---- the bits of f that m has, and those that it lacks, are all of f
digit : (a b : ℕ) → a < 2 → b < 2 → min a (1 - b) + min a b ≡ a
digit a b ha hb = omega arith

-- the complement of m at n + 1 digits, halved and its lowest digit
lacks_half : (n m : ℕ) → m < 2 ^ suc n → ((2 ^ suc n - 1) - m) / 2 ≡ (2 ^ n - 1) - m / 2
lacks_half n m h = omega (arith, pow-suc 2 n, pow_pos n)

lacks_low : (n m : ℕ) → m < 2 ^ suc n → ((2 ^ suc n - 1) - m) % 2 ≡ 1 - m % 2
lacks_low n m h = omega (arith, pow-suc 2 n, pow_pos n)

pub and_lacks : (n f m : ℕ) → f < 2 ^ n → m < 2 ^ n → bit_and f ((2 ^ n - 1) - m) + bit_and f m ≡ f
and_lacks zero f m hf hm = ap₂ (λ (x y : ℕ). bit_and x ((2 ^ 0 - 1) - m) + bit_and y m) (lt-one hf) (lt-one hf) ∙ sym (lt-one hf)
and_lacks (suc n) f m hf hm =
    let high : bit_and (f / 2) ((2 ^ n - 1) - m / 2) + bit_and (f / 2) (m / 2) ≡ f / 2 =
    and_lacks n (f / 2) (m / 2) (omega (arith, pow-suc 2 n)) (omega (arith, pow-suc 2 n))
    in
    let low : min (f % 2) (1 - m % 2) + min (f % 2) (m % 2) ≡ f % 2 = digit (f % 2) (m % 2) (omega arith) (omega arith) in
    let first : bit_and f ((2 ^ suc n - 1) - m) ≡ bit_and (f / 2) ((2 ^ n - 1) - m / 2) * 2 + min (f % 2) (1 - m % 2) =
    and_step f ((2 ^ suc n - 1) - m)
    ∙ ap₂ (λ (x y : ℕ). bit_and (f / 2) x * 2 + min (f % 2) y) (lacks_half n m hm) (lacks_low n m hm)
    in
    omega (arith, first, and_step f m, high, low)

-- ---- the three operations of a flag
pub clear_and : (k f : ℕ) → k < 32 → f < 2 ^ 32 → bit_and f ((2 ^ 32 - 1) - 2 ^ k) ≡ clear_bit k f
unfolding clear_bit
clear_and k f hk hf = omega (arith, and_lacks 32 f (2 ^ k) hf (pow-lt hk), and_bit k f, and_le_l f (2 ^ k))

pub set_or : (k f : ℕ) → bit_or f (2 ^ k) ≡ set_bit k f
unfolding set_bit clear_bit
set_or k f = omega (arith, or_add_and f (2 ^ k), and_bit k f, and_le_l f (2 ^ k))

-- `f & (1 << k) != 0`
pub has_and : (k f : ℕ) → not (eqb (bit_and f (2 ^ k)) 0) ≡ has_bit k f
unfolding has_bit
has_and k f = by_bit (f / 2 ^ k % 2) (omega arith) (and_bit k f)
  where
    by_bit : (b : ℕ) → b < 2 → bit_and f (2 ^ k) ≡ b * 2 ^ k → not (eqb (bit_and f (2 ^ k)) 0) ≡ eqb b 1
    by_bit zero h e = rw (e, zero-mul)
    by_bit (suc zero) h e = rw (ne_eqb (bit_and f (2 ^ k)) 0 (λ q. omega (arith, pow_pos k, e)))
    by_bit (suc (suc b)) h e = absurd (omega arith)

pub clear-fits : (k f : ℕ) → clear_bit k f ≤ f
unfolding clear_bit
clear-fits k f = omega arith
