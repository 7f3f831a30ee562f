-- The record of a row meets its contract: the words of the clocks fit 32 bits, so that a fit row is had again.
-- Assumes nothing.
use Rattle.std.proofs.Common.{rules, refl}
use Rattle.row_address.specs.Words.{row-again}
use Rattle.row_address.proofs.V4FromRefAddressRow.from.Goals as goal

pub returns : goal.returns
returns c =
    rw (c.optional_of.ensures, c.from.ensures, c.life_of.ensures)
    (refl, λ h. row-again c.args.row.now h (search rules) (search rules))
