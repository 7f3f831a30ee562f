-- `prefix::host_bits4` meets its contract: the mask's complement keeps the remainder.
-- Assumes nothing.
use mathlib.Core.Path.{sym}
use Rattle.prefix.specs.Laws.{host_bits_and}
use Rattle.prefix.proofs.host_bits4.Goals as goal

pub returns : goal.returns
returns c = rw c.mask4.ensures (sym (host_bits_and c.args.ip c.args.prefix))
