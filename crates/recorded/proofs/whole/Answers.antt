-- `recorded::whole` meets its contract: after the lengths the same tests, in the same order.
-- Assumes nothing.
use Rattle.std.specs.Prelude.{is_ok}
use Rattle.std.proofs.Common.{ap, ◌∙◌}
use Rattle.recorded.specs.Laws.{tests}
use borrow.Author.Tests.{le-leb, lt-leb}
use Rattle.recorded.specs.Record.{fit}
use Rattle.recorded.proofs.whole.Goals as goal

pub returns-then-r-lt-HEAD : goal.returns-then-r-lt-HEAD
unfolding fit
returns-then-r-lt-HEAD c = simp (lt-leb _ _ c.if-r-lt-HEAD.true)

pub returns-then-r-gt4096 : goal.returns-then-r-gt4096
unfolding fit
returns-then-r-gt4096 c = simp (le-leb _ _ c.if-r-lt-HEAD.false, lt-leb _ _ c.if-r-gt4096.true)

pub returns : goal.returns
returns c =
    tests c.args.r.now c.check.result c.is_ok.result c.if-r-lt-HEAD.false c.if-r-gt4096.false c.check.ensures (c.is_ok.ensures.value ∙ ap is_ok c.try_from.ensures)
