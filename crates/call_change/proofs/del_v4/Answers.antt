-- `call_change::del_v4` meets its contract.
use Rattle.std.proofs.Common.{refl, rules, length}
use Rattle.layout.specs.Request.{del_v4_size, fit_del_v4}
use Rattle.definition.specs.Reference.Removal.{del_v4}
use Rattle.definition.specs.Preservation.Shrinking.{potential}
use Rattle.definition.proofs.Preservation.Numbers.{del_v4-number}
use Rattle.definition.specs.Call as Call
use Rattle.definition.specs.Words.{state_of}
use Rattle.call_read.specs.Laws.{passed}
use Rattle.definition.specs.Step.{unless, events_fit, semantics, del_v4_call}
use Rattle.step_events.specs.EmitsWithin.{SomeRoom}
use Rattle.call_change.specs.Laws.{unsized, request-checked, long, answers-unsized, answers-refused, room}
use Rattle.call_change.specs.Steps.{fitting, counts-answers, some-rule, taken}
use Rattle.call_change.proofs.del_v4.Goals as goal

pub returns-in_err-q : goal.returns-in_err-q
unfolding del_v4_call
returns-in_err-q c =
    answers-unsized (semantics (Call.del_v4 c.args.q.now (length c.args.events.now))) c.args.state.now c.args.events.now
    (unsized del_v4_size c.args.q.now c.args.state.now (events_fit (length c.args.events.now)) (unless (fit_del_v4 c.args.q.now) 202) c.in_err-q.ensures.1) c.in_err-q.ensures.0 c.from_residual.ensures.1

pub returns-in_err-checked : goal.returns-in_err-checked
unfolding del_v4_call
returns-in_err-checked c =
    answers-refused (semantics (Call.del_v4 c.args.q.now (length c.args.events.now))) c.args.state.now c.args.events.now
    (request-checked del_v4_size c.args.q.now c.args.state.now c.in_ok-q.ensures c.checked.result (events_fit (length c.args.events.now)) (λ q. unless (fit_del_v4 q) 202) (c.checked.ensures.refuses _ (c.fit_del_v4-fit.ensures (long del_v4_size c.args.q.now c.args.state.now c.in_ok-q.ensures)))) c.in_err-checked.was c.from_residual-in_err-checked.ensures.1

pub changed-requires-clause-takes : goal.changed-requires-clause-takes
changed-requires-clause-takes c a h q e =
    let p =
    passed (semantics (Call.del_v4 c.args.q.now (length c.args.events.now))).checks c.args.state.now
    (request-checked del_v4_size c.args.q.now c.args.state.now c.in_ok-q.ensures c.checked.result (events_fit (length c.args.events.now)) (λ q. unless (fit_del_v4 q) 202) (c.checked.ensures.refuses _ (c.fit_del_v4-fit.ensures (long del_v4_size c.args.q.now c.args.state.now c.in_ok-q.ensures)))) c.in_ok-checked.was
    in
    let room = fitting p h (room del_v4_size c.args.q.now (length c.args.events.now) p.room) in
    let some : SomeRoom potential a = record { state = state_of c.args.state.now; fits = room } in
    search (rules, some, e)

pub returns : goal.returns
unfolding del_v4_call
returns c =
    let p =
    passed (semantics (Call.del_v4 c.args.q.now (length c.args.events.now))).checks c.args.state.now
    (request-checked del_v4_size c.args.q.now c.args.state.now c.in_ok-q.ensures c.checked.result (events_fit (length c.args.events.now)) (λ q. unless (fit_del_v4 q) 202) (c.checked.ensures.refuses _ (c.fit_del_v4-fit.ensures (long del_v4_size c.args.q.now c.args.state.now c.in_ok-q.ensures)))) c.in_ok-checked.was
    in
    counts-answers (Call.del_v4 c.args.q.now (length c.args.events.now)) (del_v4 c.args.q.now (state_of c.args.state.now)) p refl (some-rule c.args.state.now) c.changed.ensures (del_v4-number c.args.q.now (state_of c.args.state.now))
    (λ a b d h m. taken (λ q. del_v4 q (state_of c.args.state.now)) c.in_ok-q.ensures.0 (search (rules, m, fitting p h (room del_v4_size c.args.q.now (length c.args.events.now) p.room))))
