-- `call_recording::replay` meets its contract.
use Rattle.std.proofs.Common.{arith, refl, map, length, ◌∙◌, ◌<◌}
use Rattle.std.proofs.lemmas.List.{length-map}
use Rattle.step_rebuild.specs.Laws.{handed-on}
use Rattle.definition_recording.specs.Recording.{rebuild_from}
use Rattle.call_recording.specs.Laws.{mapped, sofar-start, sofar-next, sofar-refused, sofar-end}
use Rattle.call_recording.proofs.replay.Goals as goal

pub loop-e-init : goal.loop-e-init
loop-e-init g c = record { sofar = λ m h. sofar-start (map g.E.Recorded.words c.args.events.now) m h; place = refl }

pub returns-in_err-redo-clause-came : goal.returns-in_err-redo-clause-came
returns-in_err-redo-clause-came g c =
    λ l h.
    let events = map g.E.Recorded.words c.args.events.now in
    let sofar = c.loop-e.invariant.sofar l h in
    let inside : c.loop-e.e-index < length events = omega (arith, length-map c.args.events.now g.E.Recorded.words, c.loop-e-test.true) in
    let here = mapped g.E.Recorded.words c.args.events.now c.loop-e.e-index c.e-item.result c.loop-e-test.true c.e-item.is in
    handed-on (rebuild_from events l) _ c.from_residual.result _ c.from_residual.ensures.1
    (sofar-refused events c.loop-e.e-index sofar inside here c.in_err-redo.field-0.0 (c.in_err-redo.ensures.came sofar.list sofar.holds))

pub loop-e-preserved : goal.loop-e-preserved
loop-e-preserved g c =
    let events = map g.E.Recorded.words c.args.events.now in
    let inside : c.loop-e.e-index < length events = omega (arith, length-map c.args.events.now g.E.Recorded.words, c.loop-e-test.true) in
    let here = mapped g.E.Recorded.words c.args.events.now c.loop-e.e-index c.e-item.result c.loop-e-test.true c.e-item.is in
    record {
      sofar = λ m h.
          let sofar = c.loop-e.invariant.sofar m h in
          sofar-next events c.loop-e.e-index sofar inside here (c.in_ok-redo.ensures.came sofar.list sofar.holds);
      place = c.redo.ensures.place ∙ c.loop-e.invariant.place;
    }

pub returns-clause-came : goal.returns-clause-came
returns-clause-came g c =
    λ l h.
    let events = map g.E.Recorded.words c.args.events.now in
    sofar-end events c.loop-e.e-index (c.loop-e.invariant.sofar l h) (omega (arith, length-map c.args.events.now g.E.Recorded.words, c.loop-e-test.false))
