-- `call_read::source4` meets its contract.
use Rattle.std.proofs.Common.{◌≡◌, ap, ◌∙◌, rules}
use Rattle.lists.specs.Lists.{Row}
use Rattle.definition.specs.Reference.Source.{source4}
use Rattle.definition.specs.Call as Call
use Rattle.definition.specs.Words.{state_of}
use Rattle.definition.specs.Step.{semantics, source4_call}
use Rattle.layout.specs.Route.{fit_route}
use Rattle.call_read.specs.Laws.{held, passed, says-refused, says-passed, handed, row-request, optional-answer}
use Rattle.call_read.proofs.source4.Goals as goal

pub returns-in_err-s : goal.returns-in_err-s
unfolding source4_call
returns-in_err-s c =
    let refuses = row-request c.reading.result (fit_route c.args.row.now) c.args.state.now (c.reading.ensures.refuses _ (handed c.fit_route.result c.ok_or-row.ensures.value c.fit_route.ensures.fits)) in
    says-refused (semantics (Call.source4 c.args.row.now c.args.ip)) c.args.state.now refuses c.in_err-s.was c.from_residual.ensures.1

pub returns : goal.returns
unfolding source4_call
returns c =
    let call = semantics (Call.source4 c.args.row.now c.args.ip) in
    let refuses = row-request c.reading.result (fit_route c.args.row.now) c.args.state.now (c.reading.ensures.refuses _ (handed c.fit_route.result c.ok_or-row.ensures.value c.fit_route.ensures.fits)) in
    let p = passed call.checks c.args.state.now refuses c.in_ok-s.was in
    let row : c.in_ok-s.row.now ≡ c.args.row.now = search rules in
    says-passed call c.args.state.now p (optional-answer c.source4.result
    (c.source4.ensures (state_of c.args.state.now) (held p c.in_ok-s.ensures.passes.0) ∙ ap (λ (r : Row). source4 (state_of c.args.state.now).addresses r c.args.ip) row))
