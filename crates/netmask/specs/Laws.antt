-- A mask is good exactly if it is the mask of a prefix of at most 32, and then that prefix is the count of its ones.
-- Assumes nothing.
use Rattle.std.specs.Prelude.{◌≡◌, refl, Bool, true, false, cond, ◌↔◌, ℕ, zero, suc, ◌+◌, ◌-◌, ◌*◌, ◌/◌, ◌%◌, ◌^◌, ◌≤◌, ◌<◌, Ok, Err}
use Rattle.std.proofs.Common.{sym, ap, ap₂, ◌∙◌, pow-suc, zero-add, add-zero, suc-add, mul-one, arith, pow_pos, eqb-true, eq-eqb}
use Rattle.std.specs.Int.Bits.{shifted_half, shifted_even}
use Rattle.std.specs.Int.Count.{ones, ones_step, ones-ones, count_trailing_zeros, under}
use Rattle.std.proofs.lemmas.Nat.{ones_cat, ones-le}
use Rattle.std.proofs.Math.Pow.{high_ones}
use Rattle.prefix.specs.Mask.{mask}
use Rattle.refusal.specs.declared.Refusal.{Refusal}
use Rattle.refusal.specs.declared.Refusal.TheVariants.{BadMask}
use Rattle.refusal.specs.Refusal.{number_of}
use Rattle.netmask.specs.Netmask.{good, prefix_of, bad_mask}

-- ---- the mask of a prefix is good

-- p ones with 32 - p zeros below them
mask-shifted : (p : ℕ) → p ≤ 32 → mask p ≡ (2 ^ p - 1) * 2 ^ (32 - p)
unfolding mask
mask-shifted p h = let whole : p + (32 - p) ≡ 32 = omega arith in rw whole at (high_ones p (32 - p))

pub ones-mask : (p : ℕ) → p ≤ 32 → ones (mask p) ≡ p
unfolding ones
ones-mask p h =
    ap ones (mask-shifted p h ∙ sym (add-zero ((2 ^ p - 1) * 2 ^ (32 - p))))
    ∙ ones_cat (32 - p) (2 ^ p - 1) 0 (pow_pos (32 - p))
    ∙ ap (λ (x : ℕ). x + ones 0) (ones-ones p)
    ∙ add-zero p

-- a shift by k puts k zeros below
trailing_shifted : (j k a : ℕ) → count_trailing_zeros (k + j) (a * 2 ^ k) ≡ k + count_trailing_zeros j a
unfolding count_trailing_zeros
trailing_shifted j zero a = ap₂ count_trailing_zeros (zero-add j) (mul-one a) ∙ sym (zero-add (count_trailing_zeros j a))
trailing_shifted j (suc k) a =
    ap (λ (x : ℕ). count_trailing_zeros x (a * 2 ^ suc k)) (suc-add k j)
    ∙ ap₂ (λ (x y : ℕ). under x (count_trailing_zeros (k + j) y)) (shifted_even a k) (shifted_half a k)
    ∙ ap suc (trailing_shifted j k a)
    ∙ sym (suc-add k (count_trailing_zeros j a))

-- none stands below ones alone
trailing_ones : (p : ℕ) → count_trailing_zeros p (2 ^ p - 1) ≡ 0
unfolding count_trailing_zeros
trailing_ones zero = refl
trailing_ones (suc p) =
    let odd : (2 ^ suc p - 1) % 2 ≡ 1 = omega (arith, pow-suc 2 p, pow_pos p) in
    ap (λ (x : ℕ). under x (count_trailing_zeros p ((2 ^ suc p - 1) / 2))) odd

trailing_mask : (p : ℕ) → p ≤ 32 → count_trailing_zeros 32 (mask p) ≡ 32 - p
trailing_mask p h =
    let whole : 32 - p + p ≡ 32 = omega arith in
    ap (count_trailing_zeros 32) (mask-shifted p h) ∙ rw whole at (trailing_shifted p (32 - p) (2 ^ p - 1))
    ∙ ap (λ (x : ℕ). 32 - p + x) (trailing_ones p) ∙ add-zero (32 - p)

pub good-mask : (p : ℕ) → p ≤ 32 → good (mask p) ≡ true
unfolding good
good-mask p h =
    eq-eqb (ones (mask p) + count_trailing_zeros 32 (mask p)) 32 (omega (arith, ones-mask p h, trailing_mask p h))

-- ---- a good mask is the mask of its ones

half : (k n : ℕ) → n < 2 ^ suc k → n / 2 < 2 ^ k
half k n h = omega (arith, pow-suc 2 k)

-- k ones in k digits are all of them
all_ones : (k n : ℕ) → n < 2 ^ k → ones n ≡ k → n + 1 ≡ 2 ^ k
all_ones zero n h e = omega arith
all_ones (suc k) n h e =
    let few : ones (n / 2) ≤ k = ones-le k (n / 2) (half k n h) in
    let rest : ones (n / 2) ≡ k = omega (arith, ones_step n) in
    omega (arith, ones_step n, pow-suc 2 k, all_ones k (n / 2) (half k n h) rest)

-- ones and then the zeros below them, and nothing else: the lowest one, added once more, carries out of all digits
carries : (k n : ℕ) → n < 2 ^ k → ones n + count_trailing_zeros k n ≡ k → n + 2 ^ count_trailing_zeros k n ≡ 2 ^ k
unfolding count_trailing_zeros
carries zero n h e = omega arith
carries (suc k) n h e = by-digit (carries k (n / 2) (half k n h)) (n % 2) refl
  where
    t : ℕ
    t = count_trailing_zeros k (n / 2)

    by-digit : (ones (n / 2) + t ≡ k → n / 2 + 2 ^ t ≡ 2 ^ k) → (d : ℕ) → n % 2 ≡ d → n + 2 ^ count_trailing_zeros (suc k) n ≡ 2 ^ suc k
    by-digit rest zero q =
        let more : count_trailing_zeros (suc k) n ≡ suc t = ap (λ (x : ℕ). under x t) q in
        let sum : n / 2 + 2 ^ t ≡ 2 ^ k = rest (omega (arith, ones_step n)) in
        ap (λ (x : ℕ). n + 2 ^ x) more ∙ omega (arith, pow-suc 2 t, pow-suc 2 k)
    by-digit rest (suc zero) q =
        let none : count_trailing_zeros (suc k) n ≡ 0 = ap (λ (x : ℕ). under x t) q in
        let all : n / 2 + 1 ≡ 2 ^ k = all_ones k (n / 2) (half k n h) (omega (arith, ones_step n)) in
        ap (λ (x : ℕ). n + 2 ^ x) none ∙ omega (arith, pow-suc 2 k)
    by-digit rest (suc (suc d)) q = absurd (omega arith)

pub mask-good : (m : ℕ) → m < 2 ^ 32 → good m ≡ true → m ≡ mask (ones m)
unfolding good mask
mask-good m h g =
    let makes : ones m + count_trailing_zeros 32 m ≡ 32 = eqb-true (ones m + count_trailing_zeros 32 m) 32 g in
    let zeros : count_trailing_zeros 32 m ≡ 32 - ones m = omega arith in
    let sum : m + 2 ^ (32 - ones m) ≡ 2 ^ 32 = rw zeros at (carries 32 m h makes) in
    omega arith

-- ---- both, as a caller asks it

-- m is the mask of the prefix p
pub record MaskOf (m p : ℕ) : Type 0 where
  pub fits : p ≤ 32
  pub same : m ≡ mask p

-- then the prefix is the count of its ones, and no other has this mask
pub its_ones : (m p : ℕ) → MaskOf m p → ones m ≡ p
its_ones m p w = ap ones w.same ∙ ones-mask p w.fits

pub good_exactly : (m : ℕ) → m < 2 ^ 32 → (good m ≡ true) ↔ ((p : ℕ) × MaskOf m p)
good_exactly m h = (
  (λ g. (ones m, record { fits = ones-le 32 m h; same = mask-good m h g })),
  (λ w. ap good w.1.same ∙ good-mask w.0 w.1.fits),
)

-- and by what is said of a mask
length-ones : (b : Bool) (n p : ℕ) → cond b (Ok n) (Err BadMask) ≡ Ok p → (b ≡ true) × (n ≡ p)
length-ones true n p e = (refl, cc)
length-ones false n p e = (cc, cc)

refused_bad : (b : Bool) (n : ℕ) (r : Refusal) → cond b (Ok n) (Err BadMask) ≡ Err r → (b ≡ false) × (number_of r ≡ bad_mask)
refused_bad true n r e = (cc, cc)
refused_bad false n r e = (refl, let same : BadMask ≡ r = cc in sym (ap number_of same))

pub prefix-good : (m p : ℕ) → prefix_of m ≡ Ok p → (good m ≡ true) × (ones m ≡ p)
unfolding prefix_of
prefix-good m p e = length-ones (good m) (ones m) p e

pub prefix_bad : (m : ℕ) (r : Refusal) → prefix_of m ≡ Err r → (good m ≡ false) × (number_of r ≡ bad_mask)
unfolding prefix_of
prefix_bad m r e = refused_bad (good m) (ones m) r e

pub prefix-mask : (p : ℕ) → p ≤ 32 → prefix_of (mask p) ≡ Ok p
unfolding prefix_of
prefix-mask p h = rw (good-mask p h, ones-mask p h) refl

pub prefix_exactly : (m p : ℕ) → m < 2 ^ 32 → (prefix_of m ≡ Ok p) ↔ MaskOf m p
prefix_exactly m p h = (
  (λ e.
      let l = prefix-good m p e in
      record { fits = rw (sym l.1) (ones-le 32 m h); same = mask-good m h l.0 ∙ ap mask l.1 }),
  (λ w. ap prefix_of w.same ∙ prefix-mask p w.fits),
)

-- ---- 0.0.0.0, 255.255.255.0, 255.255.255.255
pub no_ones : prefix_of 0 ≡ Ok 0
unfolding mask
no_ones = prefix-mask 0 (omega arith)

pub three-bytes : prefix_of 4294967040 ≡ Ok 24
unfolding mask
three-bytes = prefix-mask 24 (omega arith)

pub no-zeros : prefix_of 4294967295 ≡ Ok 32
unfolding mask
no-zeros = prefix-mask 32 (omega arith)
