-- `call_dispatch::add_route4` meets its contract.
use Rattle.std.proofs.Common.{refl, length}
use Rattle.definition.specs.Call.{Call}
use Rattle.definition.specs.Step.{add_route4_call}
use Rattle.call_dispatch.specs.Laws.{rows-fit, change-made}
use Rattle.call_dispatch.proofs.add_route4.Goals as goal

pub of-requires : goal.of-requires
unfolding add_route4_call
of-requires c = rows-fit (Call.add_route4 c.args.q.now (length c.args.events.now)) c.args.state.now c.add_route4.ensures refl

pub returns : goal.returns
unfolding add_route4_call
returns c = change-made (Call.add_route4 c.args.q.now (length c.args.events.now)) c.args.state.now c.add_route4.ensures refl refl c.of.ensures
