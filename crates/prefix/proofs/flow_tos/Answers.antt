-- `prefix::flow_tos` meets its contract, by the law of the mask 0x1c.
-- Assumes nothing.
use mathlib.Core.Path.{sym}
use Rattle.prefix.specs.Laws.{flow_tos_and}
use Rattle.prefix.proofs.flow_tos.Goals as goal

pub returns : goal.returns
returns c = sym (flow_tos_and c.args.tos)
