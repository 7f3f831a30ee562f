-- `call_mask::del_v4` meets its contract.
use Rattle.std.proofs.Common.{sym, ap, ◌∙◌, length}
use Rattle.lists.specs.Lists.{Row}
use Rattle.layout.specs.Request.{fit_del_v4}
use Rattle.definition.specs.Step.{unless, del_v4_call}
use Rattle.call_change.specs.Laws.{answers-exit, answers_as}
use Rattle.call_mask.specs.Masked.{del_v4_mask, prefixed, del_v4_masked, del_v4_mask_call}
use Rattle.call_mask.specs.Laws.{del_v4-good}
use Rattle.call_mask.proofs.del_v4.Goals as goal

pub returns-in_err-own : goal.returns-in_err-own
unfolding del_v4_mask_call
returns-in_err-own c =
    answers-exit (del_v4_masked c.args.q.now (length c.args.events.now)) c.args.state.now c.args.events.now c.in_err-own.field-0.0
    (c.in_err-own.ensures.bad (unless (fit_del_v4 (prefixed del_v4_mask c.args.q.now)) 202)) c.from_residual.ensures.1

pub returns : goal.returns
returns c =
    let g = c.in_ok-own.ensures.good in
    answers_as (del_v4-good c.args.q.now (length c.args.events.now) c.args.state.now g.1 ∙ ap (λ (x : Row). del_v4_call x (length c.args.events.now) c.args.state.now) (sym g.2)) c.del_v4.ensures
