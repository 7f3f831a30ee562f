-- `prefix::broadcast4` meets its contract: the network with its host bits set is their sum.
-- Assumes nothing.
use mathlib.Core.Path.{sym}
use native.Mathlib.Omega.{arith}
use Rattle.prefix.specs.Laws.{network_and, broadcast_or}
use Rattle.prefix.proofs.broadcast4.Goals as goal

pub returns : goal.returns
returns c = rw (c.mask4-m.ensures, ← network_and c.args.ip c.args.prefix (omega arith)) (sym (broadcast_or c.args.ip c.args.prefix))
