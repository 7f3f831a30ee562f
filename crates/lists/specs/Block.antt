-- Rows written from the start of a block of words on: the block's part is those rows.
-- Assumes nothing.
use Rattle.std.specs.Prelude.{ℕ, ◌+◌, ◌-◌, ◌*◌, ◌≡◌, Bool, true, List, take, drop}
use Rattle.std.proofs.Common.{arith}
use Rattle.std.proofs.Math.ListN.{length}
use Rattle.std.proofs.Math.Seq.{take_at}
use Rattle.lists.specs.Lists.{Row, all, flat, put}
use Rattle.lists.specs.Rows.{sized, length-flat}
use Rattle.lists.specs.Laid.{Laid}

module _ (k : ℕ) (rows : List Row) (s : sized k rows ≡ true) (o : List ℕ) where
  -- `&block[0..k * n]`
  pub block_laid : (fit : Row → Bool) (n : ℕ) → all fit rows ≡ true → n ≡ length rows → Laid k fit (take (k * n - 0) (drop 0 (put 0 (flat rows) o))) rows
  unfolding put
  block_laid fit n f e =
      let long : length (flat rows) ≡ k * n - 0 = rw e (omega (arith, length-flat k rows s)) in
      record { words = take_at (flat rows) (drop (0 + length (flat rows)) o) (k * n - 0) long; width = s; fitting = f }
