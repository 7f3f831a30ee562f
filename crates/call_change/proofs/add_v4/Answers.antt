-- `call_change::add_v4` meets its contract.
use Rattle.std.proofs.Common.{refl, rules, arith, sym, ap, subst, length, ℕ, List, ◌≡◌, ◌≤◌, ◌*◌, ◌+◌, true}
use Rattle.layout.specs.Request.{add_v4_size, fit_add_v4}
use Rattle.definition.specs.Reference.Addresses.{add_v4}
use Rattle.definition.proofs.Preservation.Numbers.{add_v4-number}
use Rattle.definition.proofs.Preservation.Change.{add_v4-refusal-passed}
use Rattle.definition.specs.Call as Call
use Rattle.definition.specs.Words.{state_of}
use Rattle.call_read.specs.Laws.{passed, lent}
use Rattle.definition.specs.Step.{add_v4_refusal, events_fit, semantics, add_v4_call}
use Rattle.call_change.specs.Laws.{unsized, request-checked, long, answers-unsized, answers-refused, room}
use Rattle.call_change.specs.Steps.{counts-answers, row-rule, taken}
use Rattle.call_change.proofs.add_v4.Goals as goal

pub returns-in_err-q : goal.returns-in_err-q
unfolding add_v4_call
returns-in_err-q c =
    answers-unsized (semantics (Call.add_v4 c.args.q.now (length c.args.events.now) c.args.clock)) c.args.state.now c.args.events.now
    (unsized add_v4_size c.args.q.now c.args.state.now (events_fit (length c.args.events.now)) (add_v4_refusal c.args.q.now) c.in_err-q.ensures.1) c.in_err-q.ensures.0 c.from_residual.ensures.1

pub returns-in_err-checked : goal.returns-in_err-checked
unfolding add_v4_call
returns-in_err-checked c =
    answers-refused (semantics (Call.add_v4 c.args.q.now (length c.args.events.now) c.args.clock)) c.args.state.now c.args.events.now
    (request-checked add_v4_size c.args.q.now c.args.state.now c.in_ok-q.ensures c.checked.result (events_fit (length c.args.events.now)) add_v4_refusal (c.checked.ensures.refuses _ (c.fit_add_v4-fit.ensures (long add_v4_size c.args.q.now c.args.state.now c.in_ok-q.ensures)))) c.in_err-checked.was c.from_residual-in_err-checked.ensures.1

pub slice_bounds-row_changes-end-2 : goal.slice_bounds-row_changes-end-2
slice_bounds-row_changes-end-2 c =
    let p =
    passed (semantics (Call.add_v4 c.args.q.now (length c.args.events.now) c.args.clock)).checks c.args.state.now
    (request-checked add_v4_size c.args.q.now c.args.state.now c.in_ok-q.ensures c.checked.result (events_fit (length c.args.events.now)) add_v4_refusal (c.checked.ensures.refuses _ (c.fit_add_v4-fit.ensures (long add_v4_size c.args.q.now c.args.state.now c.in_ok-q.ensures)))) c.in_ok-checked.was
    in
    sym (lent p)

pub changed-requires-clause-takes : goal.changed-requires-clause-takes
changed-requires-clause-takes c a h q e =
    let p =
    passed (semantics (Call.add_v4 c.args.q.now (length c.args.events.now) c.args.clock)).checks c.args.state.now
    (request-checked add_v4_size c.args.q.now c.args.state.now c.in_ok-q.ensures c.checked.result (events_fit (length c.args.events.now)) add_v4_refusal (c.checked.ensures.refuses _ (c.fit_add_v4-fit.ensures (long add_v4_size c.args.q.now c.args.state.now c.in_ok-q.ensures)))) c.in_ok-checked.was
    in
    let room : 34 * (a.told + 5) ≤ length a.events.now = omega (arith, room add_v4_size c.args.q.now (length c.args.events.now) p.room, ap length h.buffer, h.none) in
    let fit = subst (λ (l : List ℕ). fit_add_v4 l ≡ true) (sym c.in_ok-q.ensures.0) (add_v4-refusal-passed c.args.q.now p.fit) in
    search (rules, room, fit, e)

pub returns : goal.returns
unfolding add_v4_call
returns c =
    let p =
    passed (semantics (Call.add_v4 c.args.q.now (length c.args.events.now) c.args.clock)).checks c.args.state.now
    (request-checked add_v4_size c.args.q.now c.args.state.now c.in_ok-q.ensures c.checked.result (events_fit (length c.args.events.now)) add_v4_refusal (c.checked.ensures.refuses _ (c.fit_add_v4-fit.ensures (long add_v4_size c.args.q.now c.args.state.now c.in_ok-q.ensures)))) c.in_ok-checked.was
    in
    counts-answers (Call.add_v4 c.args.q.now (length c.args.events.now) c.args.clock) (add_v4 c.args.q.now c.args.clock (state_of c.args.state.now)) p refl (row-rule c.args.q.now c.args.clock c.args.state.now (rw c.in_ok-q.ensures.0 at (c.row_changes-other.ensures (state_of c.args.state.now) p.holds))) c.changed.ensures (add_v4-number c.args.q.now c.args.clock (state_of c.args.state.now))
    (λ a b d h m. taken (λ q. add_v4 q c.args.clock (state_of c.args.state.now)) c.in_ok-q.ensures.0 (search (rules, m, h, p.holds, p.good.fits)))
