-- `call_dispatch::select4` meets its contract.
use Rattle.std.proofs.Common.{refl}
use Rattle.definition.specs.Call.{Call}
use Rattle.definition.specs.Step.{select4_call}
use Rattle.call_dispatch.specs.Laws.{ask-made}
use Rattle.call_dispatch.proofs.select4.Goals as goal

pub returns : goal.returns
unfolding select4_call
returns c = ask-made (Call.select4 c.args.dst_present c.args.dst c.args.scope) c.args.state.now c.of.ensures (record { reads = refl; buffer = refl }) c.select4.ensures
