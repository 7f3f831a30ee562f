-- `call_records::select4_words` meets its contract.
use Rattle.std.proofs.Common.{◌≡◌, ap, ◌∙◌, rules}
use Rattle.definition.specs.Words.{state_of}
use Rattle.definition.specs.Call as Call
use Rattle.definition.specs.Step.{semantics, select4_call}
use Rattle.row_address.specs.V4.{optional_of}
use Rattle.call_read.specs.Laws.{held, passed, says-refused, says-passed, own-present, optional-answer}
use Rattle.std.proofs.Common.{ℕ}
use Rattle.std.proofs.Math.Option.{Option}
use Rattle.definition.specs.Reference.Source.{select4}
use Rattle.call_records.proofs.select4_words.Goals as goal

pub returns-in_err-s : goal.returns-in_err-s
unfolding select4_call
returns-in_err-s c =
    says-refused (semantics (Call.select4 c.args.dst_present c.args.dst c.args.scope)) c.args.state.now (c.reading.ensures.refuses _ c.fit_select-dst.ensures.refuses) c.in_err-s.was c.from_residual.ensures.1

pub returns : goal.returns
unfolding select4_call
returns c =
    let p = passed (semantics (Call.select4 c.args.dst_present c.args.dst c.args.scope)).checks c.args.state.now (c.reading.ensures.refuses _ c.fit_select-dst.ensures.refuses) c.in_ok-s.was in
    let st = state_of c.args.state.now in
    let asked : c.in_ok-s.dst ≡ optional_of c.args.dst_present c.args.dst = search rules in
    let dst = own-present c.args.dst_present c.args.dst asked in
    says-passed (semantics (Call.select4 c.args.dst_present c.args.dst c.args.scope)) c.args.state.now p
    (optional-answer c.select4_in.result (c.select4_in.ensures st (held p c.in_ok-s.ensures.passes.0) ∙ ap (λ (o : Option ℕ). select4 st.addresses o c.args.scope) dst))
