-- `call_read::reading` meets its contract: the words that passed the check are lent.
use Rattle.std.proofs.Common.{sym}
use Rattle.definition.proofs.Preservation.Step.{base-long}
use Rattle.call_read.proofs.reading.Goals as goal

pub slice_bounds-words-end : goal.slice_bounds-words-end
slice_bounds-words-end g c = sym (base-long c.args.s.now c.in_ok-request.ensures.passes.0)
