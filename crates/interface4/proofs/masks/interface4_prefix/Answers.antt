-- `interface4::masks::interface4_prefix` meets its contract.
-- Assumes nothing.
use Rattle.std.specs.Prelude.{ℕ, Result}
use Rattle.std.proofs.Common.{ap, ◌∙◌}
use Rattle.refusal.specs.declared.Refusal.{Refusal}
use Rattle.call_read.specs.Answer.{answer_by, valuing}
use Rattle.call_reply.specs.Answer.{reply_from}
use Rattle.interface4.specs.Mask.{prefix-said}
use Rattle.interface4.proofs.masks.interface4_prefix.Goals as goal

pub returns : goal.returns
returns c = c.of.ensures ∙ ap (λ (p : Result ℕ Refusal). reply_from (answer_by valuing p)) c.prefix_of.ensures ∙ prefix-said c.args.mask
