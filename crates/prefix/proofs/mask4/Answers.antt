-- `prefix::mask4` meets its contract: ones shifted up by 32 - p leave 2 ^ 32 - 2 ^ (32 - p), and by 32 nothing.
-- Assumes nothing.
use Rattle.std.proofs.Common.{ℕ, ◌-◌, ◌*◌, ◌^◌, ◌%◌, ◌<◌, ◌≤◌, ◌≡◌, arith, rules, ◌∙◌}
use Rattle.std.specs.Prelude.{Option, Some, None}
use Rattle.std.specs.Option.{SomeIff, unwrap_or}
use Rattle.prefix.specs.Mask.{mask}
use Rattle.prefix.specs.Laws.{shifted-ones}
use Rattle.prefix.proofs.mask4.Goals as goal

ones : (k : ℕ) (o : Option ℕ) → k ≤ 32 → SomeIff o (k < 32) (4294967295 * 2 ^ k % 2 ^ 32) → unwrap_or o 0 ≡ 2 ^ 32 - 2 ^ k
ones k (Some v) b h = let e : v ≡ 4294967295 * 2 ^ k % 2 ^ 32 = search rules in e ∙ shifted-ones k b
ones k None b h = let e : k ≡ 32 = grind arith in rw e

pub returns : goal.returns
unfolding mask
returns c = let s : c.saturating_sub.result ≡ 32 - c.args.prefix = c.saturating_sub.ensures in rw (c.unwrap_or.ensures, ← s) (ones c.saturating_sub.result c.checked_shl.result (omega arith) c.checked_shl.ensures)
