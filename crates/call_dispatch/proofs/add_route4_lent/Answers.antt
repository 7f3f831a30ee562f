-- `call_dispatch::add_route4_lent` meets its contract.
use Rattle.std.proofs.Common.{refl}
use Rattle.definition.specs.Call.{Call}
use Rattle.definition.specs.Step.{add_route4_call}
use Rattle.call_dispatch.specs.Laws.{rows-fit, change-did}
use Rattle.call_dispatch.proofs.add_route4_lent.Goals as goal

pub of-requires : goal.of-requires
unfolding add_route4_call
of-requires c = rows-fit (Call.add_route4 c.args.q.now c.args.room) c.args.state.now c.add_route4_lent.ensures refl

pub returns : goal.returns
unfolding add_route4_call
returns c = change-did (Call.add_route4 c.args.q.now c.args.room) c.args.state.now c.add_route4_lent.ensures refl c.of.ensures
