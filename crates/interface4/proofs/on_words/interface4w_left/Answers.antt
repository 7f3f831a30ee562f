-- `interface4::on_words::interface4w_left` meets its contract.
-- Assumes nothing.
use mathlib.Core.Path.{ap, ◌∙◌}
use Rattle.call_reply.specs.Answer.{reply_of}
use Rattle.interface4.proofs.on_words.interface4w_left.Goals as goal

pub returns : goal.returns
returns c = c.remaining.ensures ∙ ap reply_of c.left.ensures.result_value
