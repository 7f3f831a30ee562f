-- `interface4::recordings::interface4_rebuild` meets its contract.
use Rattle.std.proofs.Common.{ap, ◌∙◌, length}
use Rattle.definition_bytes.specs.Recording.{rebuild_on_bytes}
use Rattle.call_reply.specs.Answer.{reply_from}
use Rattle.interface4.specs.Recording.{few-fits, rebuild-bytes-few}
use Rattle.interface4.proofs.recordings.interface4_rebuild.Goals as goal

pub of-requires : goal.of-requires
of-requires c =
    few-fits c.rebuild_bytes.result (rebuild_on_bytes (length c.args.rows.now) c.args.recording.now) c.rebuild_bytes.ensures.value.says (rebuild-bytes-few (length c.args.rows.now) c.args.recording.now)

pub returns-clause-value : goal.returns-clause-value
returns-clause-value c = c.of.ensures ∙ ap reply_from c.rebuild_bytes.ensures.value.says
