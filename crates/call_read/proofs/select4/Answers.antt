-- `call_read::select4` meets its contract.
use Rattle.std.proofs.Common.{◌≡◌, ap, ◌∙◌, ℕ, rules}
use Rattle.std.proofs.Math.Option.{Option}
use Rattle.definition.specs.Reference.Source.{select4}
use Rattle.definition.specs.Call as Call
use Rattle.definition.specs.Words.{state_of}
use Rattle.definition.specs.Step.{semantics, select4_call}
use Rattle.row_address.specs.V4.{optional_of}
use Rattle.call_read.specs.Laws.{held, passed, says-refused, says-passed, optional-answer, own-present}
use Rattle.call_read.proofs.select4.Goals as goal

pub returns-in_err-s : goal.returns-in_err-s
unfolding select4_call
returns-in_err-s c =
    says-refused (semantics (Call.select4 c.args.dst_present c.args.dst c.args.scope)) c.args.state.now (c.reading.ensures.refuses _ c.fit_select-dst.ensures.refuses) c.in_err-s.was c.from_residual.ensures.1

pub returns : goal.returns
unfolding select4_call
returns c =
    let call = semantics (Call.select4 c.args.dst_present c.args.dst c.args.scope) in
    let dst : c.in_ok-s.dst ≡ optional_of c.args.dst_present c.args.dst = search rules in
    let p = passed call.checks c.args.state.now (c.reading.ensures.refuses _ c.fit_select-dst.ensures.refuses) c.in_ok-s.was in
    says-passed call c.args.state.now p (optional-answer c.select4.result
    (c.select4.ensures (state_of c.args.state.now) (held p c.in_ok-s.ensures.passes.0)
    ∙ ap (λ (d : Option ℕ). select4 (state_of c.args.state.now).addresses d c.args.scope) (own-present c.args.dst_present c.args.dst dst)))
