-- `step_add_v4_atomic::tried` meets its contract.
use Rattle.std.proofs.Common.{refl, sym, ◌∙◌}
use Rattle.std.proofs.lemmas.List.{length-replicate}
use Rattle.refusal.specs.Refusal.{passed_on}
use Rattle.state.specs.Represents.{sizes_of}
use Rattle.state.specs.Stored.{represented}
use Rattle.step_add_v4_atomic.specs.Copy.{was_tried}
use Rattle.step_add_v4_atomic.proofs.tried.Goals as goal

pub copy_from_slice-requires : goal.copy_from_slice-requires
copy_from_slice-requires g c = sym (sizes_of (represented c.stored.result.holds)).long

pub returns-in_err-step : goal.returns-in_err-step
returns-in_err-step g c =
    rw (passed_on c.in_err-step.was c.from_residual.ensures.1)
    (was_tried {a = c.args.change.now} _ _ _ c.step.ensures refl (record { words = c.copy_from_slice.ensures.after ∙ c.stored.ensures; room = length-replicate g.row.N 0; none = refl }) (rw c.in_err-step.was refl))

pub returns : goal.returns
returns g c = was_tried {a = c.args.change.now} _ _ _ c.step.ensures c.in_ok-step.was (record { words = c.copy_from_slice.ensures.after ∙ c.stored.ensures; room = length-replicate g.row.N 0; none = refl }) c.copy_back.ensures
