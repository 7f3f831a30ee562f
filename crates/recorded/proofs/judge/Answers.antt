-- `recorded::judge` meets its contract.
-- Assumes nothing.
use mathlib.Core.Path.{sym, ◌∙◌}
use Rattle.recorded.specs.Laws.{fits}
use Rattle.recorded.proofs.judge.Goals as goal

pub invariant_of-record : goal.invariant_of-record
invariant_of-record c = record { bounds = fits c.args.r.now (sym c.whole.ensures ∙ c.if-not-whole.false) }
