-- `interface4::on_words::interface4w_check` meets its contract.
-- Assumes nothing.
use Rattle.std.proofs.Common.{◌∙◌}
use Rattle.interface4.specs.Made.{check-said}
use Rattle.interface4.proofs.on_words.interface4w_check.Goals as goal

pub returns : goal.returns
returns c = c.of.ensures ∙ check-said c.check.result c.check.ensures
