-- `step_rebuild::ip_disabled` meets its contract.
use Rattle.std.proofs.Common.{sym, ◌∙◌}
use Rattle.refusal.specs.Laws.{passed}
use Rattle.definition_recording.specs.Recording.{fit_mark}
use Rattle.step_rebuild.specs.Holds.{table_of}
use Rattle.step_rebuild.specs.Laws.{last-came}
use Rattle.step_rebuild.proofs.ip_disabled.Goals as goal

pub returns-clause-came : goal.returns-clause-came
returns-clause-came c =
    λ l h.
    let fits = passed (fit_mark c.args.e.now) _ (sym c.in_ok-fit_mark.was ∙ c.fit_mark.ensures) in
    rw fits (last-came l h (c.deviceless.ensures.holds (table_of l) h.represents))
