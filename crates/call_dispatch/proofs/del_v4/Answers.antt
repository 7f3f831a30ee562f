-- `call_dispatch::del_v4` meets its contract.
use Rattle.std.proofs.Common.{refl, length}
use Rattle.definition.specs.Call.{Call}
use Rattle.definition.specs.Step.{del_v4_call}
use Rattle.call_dispatch.specs.Laws.{rows-fit, change-made}
use Rattle.call_dispatch.proofs.del_v4.Goals as goal

pub of-requires : goal.of-requires
unfolding del_v4_call
of-requires c = rows-fit (Call.del_v4 c.args.q.now (length c.args.events.now)) c.args.state.now c.del_v4.ensures refl

pub returns : goal.returns
unfolding del_v4_call
returns c = change-made (Call.del_v4 c.args.q.now (length c.args.events.now)) c.args.state.now c.del_v4.ensures refl refl c.of.ensures
