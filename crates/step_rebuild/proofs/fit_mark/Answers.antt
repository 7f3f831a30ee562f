-- `step_rebuild::fit_mark` meets its contract.
use Rattle.std.proofs.Common.{ap, ◌∙◌, Bool, arith}
use Rattle.lists.specs.Lists.{all_zero}
use Rattle.refusal.specs.declared.Refusal.TheVariants.{UnfitEvent}
use Rattle.refusal.specs.Refusal.{unless}
use Rattle.step_rebuild.specs.Laws.{lent-from}
use Rattle.step_rebuild.proofs.fit_mark.Goals as goal

pub returns : goal.returns
returns c =
    c.unless.ensures ∙ ap (λ (b : Bool). unless b UnfitEvent) (c.all_zero.ensures ∙ ap all_zero (lent-from 1 33 c.args.e.now (omega arith)))
