-- `call_change::up` meets its contract.
use Rattle.std.proofs.Common.{rules, arith, ap, refl, length, leb-true, ◌≤◌, ◌*◌, ◌+◌}
use Rattle.definition.specs.Reference.Addresses.{goes, up}
use Rattle.definition.specs.Call as Call
use Rattle.definition.specs.Words.{state_of}
use Rattle.definition.specs.Step.{event_room, event_limit, semantics, up_call}
use Rattle.call_read.specs.Laws.{passed}
use Rattle.call_change.specs.Laws.{answers-refused}
use Rattle.call_change.specs.Steps.{counts-answers, some-rule}
use Rattle.call_change.proofs.up.Goals as goal

pub returns-in_err-checked : goal.returns-in_err-checked
unfolding up_call
returns-in_err-checked c =
    answers-refused (semantics (Call.up (length c.args.events.now) c.args.clock)) c.args.state.now c.args.events.now (c.checked.ensures.refuses 0 refl) c.in_err-checked.was c.from_residual.ensures.1

pub changed-requires-clause-takes : goal.changed-requires-clause-takes
changed-requires-clause-takes c a h q e =
    let p = passed (semantics (Call.up (length c.args.events.now) c.args.clock)).checks c.args.state.now (c.checked.ensures.refuses 0 refl) c.in_ok-checked.was in
    let room : 34 * (a.told + event_limit) ≤ length a.events.now = omega (arith, leb-true event_room (length c.args.events.now) p.room, ap length h.buffer, h.none) in
    search (rules, room, e)

pub returns : goal.returns
unfolding up_call
returns c =
    let p = passed (semantics (Call.up (length c.args.events.now) c.args.clock)).checks c.args.state.now (c.checked.ensures.refuses 0 refl) c.in_ok-checked.was in
    counts-answers (Call.up (length c.args.events.now) c.args.clock) (goes (up c.args.clock (state_of c.args.state.now))) p refl (some-rule c.args.state.now) c.changed.ensures tt (λ a b d h m. search (rules, m, h, p.holds, p.good.fits))
