-- `prefix::network4` meets its contract: clearing by the mask is the quotient, scaled up again.
-- Assumes nothing.
use mathlib.Core.Path.{sym}
use native.Mathlib.Omega.{arith}
use Rattle.prefix.specs.Laws.{network_and}
use Rattle.prefix.proofs.network4.Goals as goal

pub returns : goal.returns
returns c = rw c.mask4.ensures (sym (network_and c.args.ip c.args.prefix (omega arith)))
