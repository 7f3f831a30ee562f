-- `call_dispatch::dump4` meets its contract.
use Rattle.std.proofs.Common.{refl, length}
use Rattle.definition.specs.Call.{Call}
use Rattle.definition.specs.Step.{dump4_call}
use Rattle.call_dispatch.specs.Laws.{find-made, list-fits}
use Rattle.call_dispatch.proofs.dump4.Goals as goal

pub of-requires : goal.of-requires
of-requires c = list-fits c.args.state.now (length c.args.listing.now) c.dump4.result c.dump4.ensures.says

pub returns : goal.returns
unfolding dump4_call
returns c = find-made (Call.dump4 (length c.args.listing.now)) c.args.state.now c.of.ensures (record { reads = refl; buffer = refl }) refl c.dump4.ensures
