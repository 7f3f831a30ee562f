-- `call_read::local4` meets its contract.
use Rattle.std.proofs.Common.{refl}
use Rattle.definition.specs.Call as Call
use Rattle.definition.specs.Words.{state_of}
use Rattle.definition.specs.Step.{semantics, local4_call}
use Rattle.call_read.specs.Laws.{held, passed, says-refused, says-passed, flag-answer}
use Rattle.call_read.proofs.local4.Goals as goal

pub returns-in_err-s : goal.returns-in_err-s
unfolding local4_call
returns-in_err-s c =
    says-refused (semantics (Call.local4 c.args.ip)) c.args.state.now (c.reading.ensures.refuses 0 refl) c.in_err-s.was c.from_residual.ensures.1

pub returns : goal.returns
unfolding local4_call
returns c =
    let call = semantics (Call.local4 c.args.ip) in
    let p = passed call.checks c.args.state.now (c.reading.ensures.refuses 0 refl) c.in_ok-s.was in
    says-passed call c.args.state.now p (flag-answer c.local4.result _ (c.local4.ensures (state_of c.args.state.now) (held p c.in_ok-s.ensures.passes.0)))
