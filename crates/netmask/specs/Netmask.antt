-- Netmasks (document 02, Paper 4): "A mask is good when its ones and its trailing zeros together make 32; the prefix is the count of
-- ones." A mask is a word of 32 bits. The counts are the logic's own: `ones m` of the bits that are set, `count_trailing_zeros 32 m` of those
-- below the lowest one that is set, all 32 where none is.
-- Assumes nothing.
use Rattle.std.specs.Prelude.{ℕ, ◌+◌, Bool, cond, eqb, Result, Ok, Err}
use Rattle.std.specs.Int.Count.{ones, count_trailing_zeros}
use Rattle.refusal.specs.declared.Refusal.{Refusal}
use Rattle.refusal.specs.declared.Refusal.TheVariants.{BadMask}

unfoldable pub good : ℕ → Bool
good m = eqb (ones m + count_trailing_zeros 32 m) 32

-- the number that refuses a mask that isn't good
abbrev pub bad_mask : ℕ
bad_mask = 207

unfoldable pub prefix_of : ℕ → Result ℕ Refusal
prefix_of m = cond (good m) (Ok (ones m)) (Err BadMask)
