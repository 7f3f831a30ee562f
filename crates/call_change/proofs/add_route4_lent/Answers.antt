-- `call_change::add_route4_lent` meets its contract.
use Rattle.std.proofs.Common.{refl, rules, arith, sym, ap, subst, length, ℕ, List, ◌≡◌, ◌≤◌, ◌*◌, ◌+◌, true}
use Rattle.layout.specs.Request.{add_route4_size, fit_add_route4}
use Rattle.definition.specs.Reference.Routes.{add_route4}
use Rattle.definition.specs.Reference.Insert.{insert4}
use Rattle.definition.proofs.Preservation.Numbers.{insert_number, added-number}
use Rattle.definition.proofs.Preservation.Change.{unless-passed}
use Rattle.definition.specs.Call as Call
use Rattle.definition.specs.Words.{state_of}
use Rattle.call_read.specs.Laws.{passed}
use Rattle.definition.specs.Step.{unless, events_fit, semantics, add_route4_call}
use Rattle.call_change.specs.Laws.{unsized, request-checked, long, answers-unsized, answers-refused, room}
use Rattle.call_change.specs.Steps.{counts-answers, some-rule, taken}
use Rattle.call_change.proofs.add_route4_lent.Goals as goal

pub returns-in_err-q : goal.returns-in_err-q
unfolding add_route4_call
returns-in_err-q c =
    answers-unsized (semantics (Call.add_route4 c.args.q.now c.args.room)) c.args.state.now c.args.events.now
    (unsized add_route4_size c.args.q.now c.args.state.now (events_fit c.args.room) (unless (fit_add_route4 c.args.q.now) 202) c.in_err-q.ensures.1) c.in_err-q.ensures.0 c.from_residual.ensures.1

pub returns-in_err-checked : goal.returns-in_err-checked
unfolding add_route4_call
returns-in_err-checked c =
    answers-refused (semantics (Call.add_route4 c.args.q.now c.args.room)) c.args.state.now c.args.events.now
    (request-checked add_route4_size c.args.q.now c.args.state.now c.in_ok-q.ensures c.checked.result (events_fit c.args.room) (λ q. unless (fit_add_route4 q) 202) (c.checked.ensures.refuses _ (c.fit_add_route4-fit.ensures (long add_route4_size c.args.q.now c.args.state.now c.in_ok-q.ensures)))) c.in_err-checked.was c.from_residual-in_err-checked.ensures.1

pub changed-requires-clause-takes : goal.changed-requires-clause-takes
changed-requires-clause-takes c a h q e =
    let p =
    passed (semantics (Call.add_route4 c.args.q.now c.args.room)).checks c.args.state.now
    (request-checked add_route4_size c.args.q.now c.args.state.now c.in_ok-q.ensures c.checked.result (events_fit c.args.room) (λ q. unless (fit_add_route4 q) 202) (c.checked.ensures.refuses _ (c.fit_add_route4-fit.ensures (long add_route4_size c.args.q.now c.args.state.now c.in_ok-q.ensures)))) c.in_ok-checked.was
    in
    let room : 34 * (a.told + 1) ≤ length a.events.now = omega (arith, c.requires (room add_route4_size c.args.q.now c.args.room p.room), ap length h.buffer, h.none) in
    let fit = subst (λ (l : List ℕ). fit_add_route4 l ≡ true) (sym c.in_ok-q.ensures.0) (unless-passed (fit_add_route4 c.args.q.now) p.fit) in
    search (rules, room, fit, e)

pub returns : goal.returns
unfolding add_route4_call
returns c =
    let p =
    passed (semantics (Call.add_route4 c.args.q.now c.args.room)).checks c.args.state.now
    (request-checked add_route4_size c.args.q.now c.args.state.now c.in_ok-q.ensures c.checked.result (events_fit c.args.room) (λ q. unless (fit_add_route4 q) 202) (c.checked.ensures.refuses _ (c.fit_add_route4-fit.ensures (long add_route4_size c.args.q.now c.args.state.now c.in_ok-q.ensures)))) c.in_ok-checked.was
    in
    counts-answers (Call.add_route4 c.args.q.now c.args.room) (add_route4 c.args.q.now (state_of c.args.state.now)) p refl (some-rule c.args.state.now) c.changed.ensures (added-number insert4 insert_number c.args.q.now (state_of c.args.state.now) (unless-passed (fit_add_route4 c.args.q.now) p.fit))
    (λ a b d h m. taken (λ q. add_route4 q (state_of c.args.state.now)) c.in_ok-q.ensures.0 (search (rules, m, h, p.holds, p.good.fits)))
