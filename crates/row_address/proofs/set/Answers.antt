-- `row_address::set` meets its contract, by the law of a flag's mask.
-- Assumes nothing.
use Rattle.layout.specs.Bits.{set_or}
use Rattle.row_address.proofs.set.Goals as goal

pub returns : goal.returns
returns c k e = rw e (set_or k c.args.flags)
