-- `call_change::down_lent` meets its contract.
use Rattle.std.proofs.Common.{sym, refl, rules, arith, ap, length, leb-true, ◌∙◌, ◌≡◌, ◌≤◌, ◌*◌, ◌+◌}
use Rattle.std.proofs.lemmas.Bool.{lt-ltb, le-ltb}
use Rattle.definition.specs.Call as Call
use Rattle.definition.specs.Words.{base_size, state_of}
use Rattle.definition.specs.Step.{event_room, semantics, down_call}
use Rattle.definition.proofs.Preservation.Step.{base-long}
use Rattle.definition.proofs.Preservation.Peaks.{down-roomy}
use Rattle.call_read.specs.Laws.{passed, lent}
use Rattle.call_change.specs.Laws.{answers-refused}
use Rattle.call_change.specs.Steps.{down-answers, whole_goes}
use Rattle.call_change.specs.Count.{in-lists, settled, unsettled}
use Rattle.call_change.proofs.down_lent.Goals as goal

pub returns-in_err-checked : goal.returns-in_err-checked
unfolding down_call
returns-in_err-checked c =
    answers-refused (semantics (Call.down c.args.room)) c.args.state.now c.args.events.now (c.checked.ensures.refuses 0 refl) c.in_err-checked.was c.from_residual.ensures.1

pub slice_bounds-stepped-end-2 : goal.slice_bounds-stepped-end-2
slice_bounds-stepped-end-2 c = sym (lent (passed (semantics (Call.down c.args.room)).checks c.args.state.now (c.checked.ensures.refuses 0 refl) c.in_ok-checked.was))

pub stepped-told-requires-clause-takes : goal.stepped-told-requires-clause-takes
stepped-told-requires-clause-takes c a h q e =
    let p = passed (semantics (Call.down c.args.room)).checks c.args.state.now (c.checked.ensures.refuses 0 refl) c.in_ok-checked.was in
    let room : 34 * (a.told + 1) ≤ length a.events.now = omega (arith, c.requires (leb-true event_room c.args.room p.room), ap length h.buffer, h.none) in
    search (rules, room, e)

pub returns-then-state-routes : goal.returns-then-state-routes
unfolding down_call
returns-then-state-routes c =
    let p = passed (semantics (Call.down c.args.room)).checks c.args.state.now (c.checked.ensures.refuses 0 refl) c.in_ok-checked.was in
    let lists = c.stepped-told.new.words in
    let long : length lists ≡ base_size = c.stepped-told.auto.words ∙ base-long c.args.state.now p.well.long in
    down-answers c.args.state.now c.args.room p c.stepped-told.ensures
    (λ a b d h m. whole_goes (state_of c.args.state.now) (down-roomy (state_of c.args.state.now) p.good) (search (rules, m)) (search (rules, m, h, p.holds)))
    (settled c.args.state.now lists long _ (rw (in-lists c.args.state.now lists long 1 (omega arith)) at (lt-ltb _ _ c.if-state-routes.true)) c.settle.ensures)

pub returns-else-state-routes : goal.returns-else-state-routes
unfolding down_call
returns-else-state-routes c =
    let p = passed (semantics (Call.down c.args.room)).checks c.args.state.now (c.checked.ensures.refuses 0 refl) c.in_ok-checked.was in
    let lists = c.stepped-told.new.words in
    let long : length lists ≡ base_size = c.stepped-told.auto.words ∙ base-long c.args.state.now p.well.long in
    down-answers c.args.state.now c.args.room p c.stepped-told.ensures
    (λ a b d h m. whole_goes (state_of c.args.state.now) (down-roomy (state_of c.args.state.now) p.good) (search (rules, m)) (search (rules, m, h, p.holds)))
    (unsettled c.args.state.now lists long _ (rw (in-lists c.args.state.now lists long 1 (omega arith)) at (le-ltb _ _ c.if-state-routes.false)))
