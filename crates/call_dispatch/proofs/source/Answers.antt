-- `call_dispatch::source` meets its contract.
use Rattle.std.proofs.Common.{refl}
use Rattle.definition.specs.Call.{Call}
use Rattle.definition.specs.Step.{source_call}
use Rattle.call_dispatch.specs.Laws.{ask-made}
use Rattle.call_dispatch.proofs.source.Goals as goal

pub returns : goal.returns
unfolding source_call
returns c = ask-made (Call.source c.args.ip) c.args.state.now c.of.ensures (record { reads = refl; buffer = refl }) c.source.ensures
