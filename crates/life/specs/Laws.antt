-- The clock and its two words say the same.
-- Assumes nothing.
use Rattle.std.specs.Prelude.{◌≡◌, ℕ, ◌^◌, ◌<◌}
use Rattle.std.proofs.Common.{arith}
use Rattle.life.specs.Life.{clock, low_word, high_word}

pub clock-words : (n : ℕ) → clock (low_word n) (high_word n) ≡ n
clock-words n = omega arith

pub low-clock : (low high : ℕ) → low < 2 ^ 32 → low_word (clock low high) ≡ low
low-clock low high h = omega arith

pub high-clock : (low high : ℕ) → low < 2 ^ 32 → high_word (clock low high) ≡ high
high-clock low high h = omega arith
