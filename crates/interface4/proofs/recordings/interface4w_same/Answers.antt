-- `interface4::recordings::interface4w_same` meets its contract.
use Rattle.std.proofs.Common.{ap, ◌∙◌}
use Rattle.call_reply.specs.Answer.{reply_from}
use Rattle.interface4.proofs.recordings.interface4w_same.Goals as goal

pub returns : goal.returns
returns c = c.of.ensures ∙ ap reply_from c.same.ensures.says
