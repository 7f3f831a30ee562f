-- The arithmetic of prefixes is what masks do to the bits.
-- Assumes nothing.
use Rattle.std.specs.Prelude.{◌≡◌, ℕ, ◌+◌, ◌-◌, ◌*◌, ◌/◌, ◌%◌, ◌^◌, ◌≤◌, ◌<◌}
use Rattle.std.proofs.Math.Path.{sym, ap}
use Rattle.std.proofs.Common.{◌∙◌, arith, pow_pos, pow_mono}
use Rattle.std.specs.Int.Bits.{bit_and, bit_or}
use Rattle.std.proofs.lemmas.Nat.Bits.{and_high}
use Rattle.std.proofs.lemmas.Nat.{and_mask, or_shifted}
use Rattle.std.proofs.Math.Pow.{shr_mod, low}
use Rattle.prefix.specs.Mask.{mask, network, host_bits, broadcast, flow_tos}

-- `u32::MAX << k`
pub shifted-ones : (k : ℕ) → k ≤ 32 → 4294967295 * 2 ^ k % 2 ^ 32 ≡ 2 ^ 32 - 2 ^ k
shifted-ones k h =
    let parts : 4294967295 * 2 ^ k ≡ (2 ^ k - 1) * 2 ^ 32 + (2 ^ 32 - 2 ^ k) = omega (arith, pow_pos k, pow_mono h) in
    ap (λ (x : ℕ). x % 2 ^ 32) parts ∙ low (2 ^ k - 1) 32 (omega (arith, pow_pos k))

-- `!mask`: the host bits' places
pub not-mask : (p : ℕ) → (2 ^ 32 - 1) - mask p ≡ 2 ^ (32 - p) - 1
unfolding mask
not-mask p =
    let h : 32 - p ≤ 32 = omega arith in
    omega (arith, pow_pos (32 - p), pow_mono h)

pub network_and : (a p : ℕ) → a < 2 ^ 32 → network a p ≡ bit_and a (mask p)
unfolding network mask
network_and a p ha =
    let ones = 32 - (32 - p) in
    let whole : ones + (32 - p) ≡ 32 = omega arith in
    let fits : a < 2 ^ (ones + (32 - p)) = rw whole ha in
    sym (rw whole at (and_high a ones (32 - p)) ∙ ap (λ (x : ℕ). x * 2 ^ (32 - p)) (shr_mod ones (32 - p) fits))

pub host_bits_and : (a p : ℕ) → host_bits a p ≡ bit_and a ((2 ^ 32 - 1) - mask p)
unfolding host_bits
host_bits_and a p = sym (ap (bit_and a) (not-mask p) ∙ and_mask a (32 - p))

pub broadcast_or : (a p : ℕ) → broadcast a p ≡ bit_or (network a p) ((2 ^ 32 - 1) - mask p)
unfolding broadcast network
broadcast_or a p =
    sym (ap (bit_or (a / 2 ^ (32 - p) * 2 ^ (32 - p))) (not-mask p)
    ∙ or_shifted (a / 2 ^ (32 - p)) (32 - p) (2 ^ (32 - p) - 1) (omega (arith, pow_pos (32 - p))))

pub flow_tos_and : (t : ℕ) → flow_tos t ≡ bit_and t 28
unfolding flow_tos
flow_tos_and t = sym (and_high t 3 2)
