-- `call_change::expire` meets its contract.
use Rattle.std.proofs.Common.{refl, rules, arith, length, leb-true}
use Rattle.definition.specs.Reference.Addresses.{goes}
use Rattle.definition.specs.Reference.Removal.{expire}
use Rattle.definition.specs.Preservation.Shrinking.{potential}
use Rattle.definition.proofs.Preservation.Peaks.{expire-roomy}
use Rattle.definition.specs.Call as Call
use Rattle.definition.specs.Words.{state_of}
use Rattle.definition.specs.Step.{event_room, semantics, expire_call}
use Rattle.step_events.specs.EmitsWithin.{SomeRoom}
use Rattle.call_read.specs.Laws.{passed}
use Rattle.call_change.specs.Laws.{answers-refused}
use Rattle.call_change.specs.Steps.{fitting, counts-answers, some-rule, whole_goes}
use Rattle.call_change.proofs.expire.Goals as goal

pub returns-in_err-checked : goal.returns-in_err-checked
unfolding expire_call
returns-in_err-checked c =
    answers-refused (semantics (Call.expire (length c.args.events.now) c.args.clock c.args.allowance)) c.args.state.now c.args.events.now (c.checked.ensures.refuses _ c.fit_expire.ensures) c.in_err-checked.was c.from_residual.ensures.1

pub changed-requires-clause-takes : goal.changed-requires-clause-takes
changed-requires-clause-takes c a h q e =
    let p = passed (semantics (Call.expire (length c.args.events.now) c.args.clock c.args.allowance)).checks c.args.state.now (c.checked.ensures.refuses _ c.fit_expire.ensures) c.in_ok-checked.was in
    let some : SomeRoom potential a = record { state = state_of c.args.state.now; fits = fitting p h (leb-true event_room (length c.args.events.now) p.room) } in
    search (rules, some, e)

pub returns : goal.returns
unfolding expire_call
returns c =
    let p = passed (semantics (Call.expire (length c.args.events.now) c.args.clock c.args.allowance)).checks c.args.state.now (c.checked.ensures.refuses _ c.fit_expire.ensures) c.in_ok-checked.was in
    counts-answers (Call.expire (length c.args.events.now) c.args.clock c.args.allowance) (goes (expire c.args.allowance c.args.clock (state_of c.args.state.now))) p refl (some-rule c.args.state.now) c.changed.ensures tt
    (λ a b d h m. whole_goes (state_of c.args.state.now) (expire-roomy c.args.allowance c.args.clock (state_of c.args.state.now) p.good) (search (rules, m)) (grind (arith, m, fitting p h (leb-true event_room (length c.args.events.now) p.room))))
