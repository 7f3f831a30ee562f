-- `interface4::parts::interface4w_dump4_begin` meets its contract.
-- Assumes nothing.
use Rattle.definition_parts.specs.Parts.{dump4_begin_call}
use Rattle.interface4.proofs.parts.interface4w_dump4_begin.Goals as goal

pub returns : goal.returns
unfolding dump4_begin_call
returns c = c.part.ensures
