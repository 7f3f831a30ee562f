-- `call_recording::same_rows` meets its contract.
use Rattle.std.proofs.Common.{◌∙◌}
use Rattle.call_read.specs.Laws.{flag-answer}
use Rattle.definition_recording.specs.Recording.{same_rows}
use Rattle.call_recording.specs.Laws.{fresh, same-pointwise}
use Rattle.call_recording.proofs.same_rows.Goals as goal

pub rebuilt-requires : goal.rebuilt-requires
rebuilt-requires g c = fresh 9507

pub rebuilt-requires-2 : goal.rebuilt-requires-2
rebuilt-requires-2 g c = fresh 9507

pub returns : goal.returns
returns g c =
    let l = c.in_ok-rows.rows.now in
    let m = c.in_ok-others.others.now in
    rw (c.in_ok-rows.ensures.0, c.in_ok-others.ensures.0) (flag-answer c.eq.result (same_rows l m) (c.eq.ensures ∙ same-pointwise l m))
