-- `interface4::parts::interface4_dump4_next` meets its contract.
-- Assumes nothing.
use Rattle.definition_parts.specs.Parts.{dump4_next_call}
use Rattle.definition_bytes.specs.Parts.{dump4_next_on_bytes}
use Rattle.interface4.proofs.parts.interface4_dump4_next.Goals as goal

pub returns : goal.returns
unfolding dump4_next_on_bytes dump4_next_call
returns c = c.part_on_bytes.ensures
