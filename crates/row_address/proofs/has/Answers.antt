-- `row_address::has` meets its contract, by the law of a flag's mask.
-- Assumes nothing.
use Rattle.layout.specs.Bits.{has_and}
use Rattle.row_address.proofs.has.Goals as goal

pub returns : goal.returns
returns c k e = rw e (has_and k c.args.flags)
