-- `call_dispatch::lookup4` meets its contract.
use Rattle.std.proofs.Common.{refl, length}
use Rattle.definition.specs.Call.{Call}
use Rattle.definition.specs.Step.{lookup4_call}
use Rattle.call_dispatch.specs.Laws.{find-made}
use Rattle.call_dispatch.proofs.lookup4.Goals as goal

pub returns : goal.returns
unfolding lookup4_call
returns c = find-made (Call.lookup4 (length c.args.row.now) c.args.ip) c.args.state.now c.of.ensures (record { reads = refl; buffer = refl }) refl c.lookup4.ensures
