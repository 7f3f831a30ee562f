-- `interface4::recordings::interface4w_rebuild` meets its contract.
use Rattle.std.proofs.Common.{ap, ◌∙◌, length}
use Rattle.definition_recording.specs.Recording.{rebuild_call}
use Rattle.call_reply.specs.Answer.{reply_from}
use Rattle.definition_recording.proofs.Laws.{rebuild_few}
use Rattle.interface4.specs.Recording.{few-fits}
use Rattle.interface4.proofs.recordings.interface4w_rebuild.Goals as goal

pub of-requires : goal.of-requires
of-requires c =
    few-fits c.rebuild.result (rebuild_call (length c.args.rows.now) c.args.recording.now) c.rebuild.ensures.says (rebuild_few (length c.args.rows.now) c.args.recording.now)

pub returns-clause-value : goal.returns-clause-value
returns-clause-value c = c.of.ensures ∙ ap reply_from c.rebuild.ensures.says
