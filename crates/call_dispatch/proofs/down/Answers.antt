-- `call_dispatch::down` meets its contract.
use Rattle.std.proofs.Common.{refl, length}
use Rattle.definition.specs.Call.{Call}
use Rattle.definition.specs.Step.{down_call}
use Rattle.call_dispatch.specs.Laws.{rows-fit, change-made}
use Rattle.call_dispatch.proofs.down.Goals as goal

pub of-requires : goal.of-requires
unfolding down_call
of-requires c = rows-fit (Call.down (length c.args.events.now)) c.args.state.now c.down.ensures refl

pub returns : goal.returns
unfolding down_call
returns c = change-made (Call.down (length c.args.events.now)) c.args.state.now c.down.ensures refl refl c.of.ensures
