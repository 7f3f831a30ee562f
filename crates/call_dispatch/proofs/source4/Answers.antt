-- `call_dispatch::source4` meets its contract.
use Rattle.std.proofs.Common.{refl}
use Rattle.definition.specs.Call.{Call}
use Rattle.definition.specs.Step.{source4_call}
use Rattle.call_dispatch.specs.Laws.{ask-made}
use Rattle.call_dispatch.proofs.source4.Goals as goal

pub returns : goal.returns
unfolding source4_call
returns c = ask-made (Call.source4 c.args.row.now c.args.ip) c.args.state.now c.of.ensures (record { reads = refl; buffer = refl }) c.source4.ensures
