-- `call_change::del_route4_lent` meets its contract.
use Rattle.std.proofs.Common.{refl, rules, arith, sym, ap, subst, length, ℕ, List, ◌≡◌, ◌≤◌, ◌*◌, ◌+◌, true}
use Rattle.layout.specs.Request.{del_route4_size, fit_del_route4}
use Rattle.definition.specs.Reference.Routes.{del_route4_request}
use Rattle.definition.proofs.Preservation.Numbers.{del_route4-number}
use Rattle.definition.proofs.Preservation.Change.{unless-passed}
use Rattle.definition.specs.Call as Call
use Rattle.definition.specs.Words.{state_of}
use Rattle.call_read.specs.Laws.{passed}
use Rattle.definition.specs.Step.{unless, events_fit, semantics, del_route4_call}
use Rattle.call_change.specs.Laws.{unsized, request-checked, long, answers-unsized, answers-refused, room}
use Rattle.call_change.specs.Steps.{counts-answers, some-rule, taken}
use Rattle.call_change.proofs.del_route4_lent.Goals as goal

pub returns-in_err-q : goal.returns-in_err-q
unfolding del_route4_call
returns-in_err-q c =
    answers-unsized (semantics (Call.del_route4 c.args.q.now c.args.room)) c.args.state.now c.args.events.now
    (unsized del_route4_size c.args.q.now c.args.state.now (events_fit c.args.room) (unless (fit_del_route4 c.args.q.now) 202) c.in_err-q.ensures.1) c.in_err-q.ensures.0 c.from_residual.ensures.1

pub returns-in_err-checked : goal.returns-in_err-checked
unfolding del_route4_call
returns-in_err-checked c =
    answers-refused (semantics (Call.del_route4 c.args.q.now c.args.room)) c.args.state.now c.args.events.now
    (request-checked del_route4_size c.args.q.now c.args.state.now c.in_ok-q.ensures c.checked.result (events_fit c.args.room) (λ q. unless (fit_del_route4 q) 202) (c.checked.ensures.refuses _ (c.fit_del_route4-fit.ensures (long del_route4_size c.args.q.now c.args.state.now c.in_ok-q.ensures)))) c.in_err-checked.was c.from_residual-in_err-checked.ensures.1

pub changed-requires-clause-takes : goal.changed-requires-clause-takes
changed-requires-clause-takes c a h q e =
    let p =
    passed (semantics (Call.del_route4 c.args.q.now c.args.room)).checks c.args.state.now
    (request-checked del_route4_size c.args.q.now c.args.state.now c.in_ok-q.ensures c.checked.result (events_fit c.args.room) (λ q. unless (fit_del_route4 q) 202) (c.checked.ensures.refuses _ (c.fit_del_route4-fit.ensures (long del_route4_size c.args.q.now c.args.state.now c.in_ok-q.ensures)))) c.in_ok-checked.was
    in
    let room : 34 * (a.told + 1) ≤ length a.events.now = omega (arith, c.requires (room del_route4_size c.args.q.now c.args.room p.room), ap length h.buffer, h.none) in
    let fit = subst (λ (l : List ℕ). fit_del_route4 l ≡ true) (sym c.in_ok-q.ensures.0) (unless-passed (fit_del_route4 c.args.q.now) p.fit) in
    search (rules, room, fit, e)

pub returns : goal.returns
unfolding del_route4_call
returns c =
    let p =
    passed (semantics (Call.del_route4 c.args.q.now c.args.room)).checks c.args.state.now
    (request-checked del_route4_size c.args.q.now c.args.state.now c.in_ok-q.ensures c.checked.result (events_fit c.args.room) (λ q. unless (fit_del_route4 q) 202) (c.checked.ensures.refuses _ (c.fit_del_route4-fit.ensures (long del_route4_size c.args.q.now c.args.state.now c.in_ok-q.ensures)))) c.in_ok-checked.was
    in
    counts-answers (Call.del_route4 c.args.q.now c.args.room) (del_route4_request c.args.q.now (state_of c.args.state.now)) p refl (some-rule c.args.state.now) c.changed.ensures (del_route4-number c.args.q.now (state_of c.args.state.now))
    (λ a b d h m. taken (λ q. del_route4_request q (state_of c.args.state.now)) c.in_ok-q.ensures.0 (search (rules, m, h, p.holds, p.good.fits)))
