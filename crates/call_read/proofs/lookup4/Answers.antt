-- `call_read::lookup4` meets its contract: of no type of service and no device it is the same call.
use Rattle.definition.specs.Reference.Lookup.{lookup4, lookup4_flow}
use Rattle.definition.specs.Step.{lookup4_call, lookup4_flow_call}
use Rattle.call_read.proofs.lookup4.Goals as goal

pub returns : goal.returns
unfolding lookup4_call lookup4_flow_call lookup4 lookup4_flow
returns c = c.lookup4_flow.ensures
