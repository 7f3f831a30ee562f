-- `call_read::source` meets its contract.
use Rattle.std.proofs.Common.{refl}
use Rattle.definition.specs.Call as Call
use Rattle.definition.specs.Words.{state_of}
use Rattle.definition.specs.Step.{semantics, source_call}
use Rattle.call_read.specs.Laws.{held, passed, says-refused, says-passed, valuing-answer}
use Rattle.call_read.proofs.source.Goals as goal

pub returns-in_err-s : goal.returns-in_err-s
unfolding source_call
returns-in_err-s c =
    says-refused (semantics (Call.source c.args.ip)) c.args.state.now (c.reading.ensures.refuses 0 refl) c.in_err-s.was c.from_residual.ensures.1

pub returns : goal.returns
unfolding source_call
returns c =
    let call = semantics (Call.source c.args.ip) in
    let p = passed call.checks c.args.state.now (c.reading.ensures.refuses 0 refl) c.in_ok-s.was in
    says-passed call c.args.state.now p (valuing-answer c.source.result _ (c.source.ensures (state_of c.args.state.now) (held p c.in_ok-s.ensures.passes.0)))
