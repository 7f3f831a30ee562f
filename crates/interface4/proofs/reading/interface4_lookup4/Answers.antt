-- `interface4::reading::interface4_lookup4` meets its contract.
-- Assumes nothing.
use Rattle.interface4.specs.Reading.{flow-any}
use Rattle.interface4.proofs.reading.interface4_lookup4.Goals as goal

pub returns : goal.returns
returns c = flow-any c.interface4_lookup4_flow.ensures
