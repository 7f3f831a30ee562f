-- `call_dispatch::lookup4_flow` meets its contract.
use Rattle.std.proofs.Common.{refl, length}
use Rattle.definition.specs.Call.{Call}
use Rattle.definition.specs.Step.{lookup4_flow_call}
use Rattle.call_dispatch.specs.Laws.{find-made}
use Rattle.call_dispatch.proofs.lookup4_flow.Goals as goal

pub returns : goal.returns
unfolding lookup4_flow_call
returns c = find-made (Call.lookup4_flow (length c.args.row.now) c.args.ip c.args.tos c.args.oif) c.args.state.now c.of.ensures (record { reads = refl; buffer = refl }) refl c.lookup4_flow.ensures
