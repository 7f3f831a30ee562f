-- `call_dispatch::down_lent` meets its contract.
use Rattle.std.proofs.Common.{refl}
use Rattle.definition.specs.Call.{Call}
use Rattle.definition.specs.Step.{down_call}
use Rattle.call_dispatch.specs.Laws.{rows-fit, change-did}
use Rattle.call_dispatch.proofs.down_lent.Goals as goal

pub of-requires : goal.of-requires
unfolding down_call
of-requires c = rows-fit (Call.down c.args.room) c.args.state.now c.down_lent.ensures refl

pub returns : goal.returns
unfolding down_call
returns c = change-did (Call.down c.args.room) c.args.state.now c.down_lent.ensures refl c.of.ensures
