-- `call_dispatch::expire` meets its contract.
use Rattle.std.proofs.Common.{refl, length}
use Rattle.definition.specs.Call.{Call}
use Rattle.definition.specs.Step.{expire_call}
use Rattle.call_dispatch.specs.Laws.{rows-fit, change-made}
use Rattle.call_dispatch.proofs.expire.Goals as goal

pub of-requires : goal.of-requires
unfolding expire_call
of-requires c = rows-fit (Call.expire (length c.args.events.now) c.args.clock c.args.allowance) c.args.state.now c.expire.ensures refl

pub returns : goal.returns
unfolding expire_call
returns c = change-made (Call.expire (length c.args.events.now) c.args.clock c.args.allowance) c.args.state.now c.expire.ensures refl refl c.of.ensures
