-- `call_dispatch::local4` meets its contract.
use Rattle.std.proofs.Common.{refl}
use Rattle.definition.specs.Call.{Call}
use Rattle.definition.specs.Step.{local4_call}
use Rattle.call_dispatch.specs.Laws.{ask-made}
use Rattle.call_dispatch.proofs.local4.Goals as goal

pub returns : goal.returns
unfolding local4_call
returns c = ask-made (Call.local4 c.args.ip) c.args.state.now c.of.ensures (record { reads = refl; buffer = refl }) c.local4.ensures
