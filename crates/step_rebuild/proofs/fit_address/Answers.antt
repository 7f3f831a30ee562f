-- `step_rebuild::fit_address` meets its contract.
use Rattle.std.proofs.Common.{ap, ap₂, ◌∙◌, Bool, ◌&&◌, eqb, arith}
use Rattle.lists.specs.Lists.{all_zero}
use Rattle.refusal.specs.declared.Refusal.TheVariants.{UnfitEvent}
use Rattle.refusal.specs.Refusal.{unless}
use Rattle.definition_recording.specs.Recording.{flags}
use Rattle.step_rebuild.specs.Laws.{lent-from}
use Rattle.step_rebuild.proofs.fit_address.Goals as goal

pub returns : goal.returns
returns c =
    let e = c.args.e.now in
    c.unless.ensures
    ∙ ap₂ (λ (x y : Bool). unless (eqb (flags e) 0 && x && y) UnfitEvent) (c.is_some-fit.ensures ∙ c.fit_address.ensures.fits)
    (c.all_zero-zero.ensures ∙ ap all_zero (lent-from 22 12 e (omega arith)))
