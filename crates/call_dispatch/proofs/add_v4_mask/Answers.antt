-- `call_dispatch::add_v4_mask` meets its contract.
use Rattle.std.proofs.Common.{ap, ◌∙◌, length}
use Rattle.call_change.specs.Emitted.{count-fits}
use Rattle.call_mask.proofs.Emitted.{add_v4-mask-emitted}
use Rattle.call_reply.specs.Answer.{reply_from}
use Rattle.call_dispatch.proofs.add_v4_mask.Goals as goal

pub of-requires : goal.of-requires
of-requires c = count-fits c.add_v4.result c.add_v4.ensures.says (add_v4-mask-emitted c.args.q.now (length c.args.events.now) c.args.state.now c.args.clock)

pub returns : goal.returns
returns c = record { answer = c.of.ensures ∙ ap reply_from c.add_v4.ensures.says; words = c.add_v4.ensures.words; buffer = c.add_v4.ensures.events }
