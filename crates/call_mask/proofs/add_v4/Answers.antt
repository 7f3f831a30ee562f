-- `call_mask::add_v4` meets its contract.
use Rattle.std.proofs.Common.{sym, ap, ◌∙◌, length}
use Rattle.lists.specs.Lists.{Row}
use Rattle.definition.specs.Step.{add_v4_refusal, add_v4_call}
use Rattle.call_change.specs.Laws.{answers-exit, answers_as}
use Rattle.call_mask.specs.Masked.{add_v4_mask, prefixed, add_v4_masked, add_v4_mask_call}
use Rattle.call_mask.specs.Laws.{add_v4-good}
use Rattle.call_mask.proofs.add_v4.Goals as goal

pub returns-in_err-own : goal.returns-in_err-own
unfolding add_v4_mask_call
returns-in_err-own c =
    answers-exit (add_v4_masked c.args.q.now (length c.args.events.now) c.args.clock) c.args.state.now c.args.events.now c.in_err-own.field-0.0
    (c.in_err-own.ensures.bad (add_v4_refusal (prefixed add_v4_mask c.args.q.now))) c.from_residual.ensures.1

pub returns : goal.returns
returns c =
    let g = c.in_ok-own.ensures.good in
    answers_as (add_v4-good c.args.q.now (length c.args.events.now) c.args.state.now c.args.clock g.1 ∙ ap (λ (x : Row). add_v4_call x (length c.args.events.now) c.args.clock c.args.state.now) (sym g.2)) c.add_v4.ensures
