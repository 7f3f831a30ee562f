-- `call_dispatch::up` meets its contract.
use Rattle.std.proofs.Common.{refl, length}
use Rattle.definition.specs.Call.{Call}
use Rattle.definition.specs.Step.{up_call}
use Rattle.call_dispatch.specs.Laws.{rows-fit, change-made}
use Rattle.call_dispatch.proofs.up.Goals as goal

pub of-requires : goal.of-requires
unfolding up_call
of-requires c = rows-fit (Call.up (length c.args.events.now) c.args.clock) c.args.state.now c.up.ensures refl

pub returns : goal.returns
unfolding up_call
returns c = change-made (Call.up (length c.args.events.now) c.args.clock) c.args.state.now c.up.ensures refl refl c.of.ensures
