-- `call_dispatch::del_v4_mask` meets its contract.
use Rattle.std.proofs.Common.{ap, ◌∙◌, length}
use Rattle.call_change.specs.Emitted.{count-fits}
use Rattle.call_mask.proofs.Emitted.{del_v4-mask-emitted}
use Rattle.call_reply.specs.Answer.{reply_from}
use Rattle.call_dispatch.proofs.del_v4_mask.Goals as goal

pub of-requires : goal.of-requires
of-requires c = count-fits c.del_v4.result c.del_v4.ensures.says (del_v4-mask-emitted c.args.q.now (length c.args.events.now) c.args.state.now)

pub returns : goal.returns
returns c = record { answer = c.of.ensures ∙ ap reply_from c.del_v4.ensures.says; words = c.del_v4.ensures.words; buffer = c.del_v4.ensures.events }
