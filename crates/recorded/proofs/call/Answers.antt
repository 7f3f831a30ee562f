-- `recorded::call` meets its contract: no call has number 0.
-- Assumes nothing.
use Rattle.std.specs.Prelude.{length}
use Rattle.std.proofs.Common.{sym}
use Rattle.std.proofs.lemmas.Bool.{ltb-false}
use Rattle.std.proofs.lemmas.List.{get_or_past}
use Rattle.call_dispatch.specs.Numbered.{call_of}
use Rattle.recorded.proofs.call.Goals as goal

pub returns-in_err-get : goal.returns-in_err-get
unfolding call_of
returns-in_err-get c =
    rw (get_or_past c.args.r.now 2 0 (ltb-false 2 (length c.args.r.now) (sym c.in_err-get.ensures.lookup.0))) c.from_residual.ensures
