-- `call_recording::rebuilt` meets its contract.
use Rattle.std.proofs.Common.{sym, ap, ◌∙◌, map, []}
use Rattle.state.specs.Stored.{representing}
use Rattle.definition_recording.specs.Recording.{rows, rebuild_from}
use Rattle.step_rebuild.specs.Holds.{table_of, holds-none}
use Rattle.call_recording.specs.Laws.{gives-no}
use Rattle.call_recording.proofs.rebuilt.Goals as goal

pub invariant_of-s : goal.invariant_of-s
invariant_of-s g c = record { holds = representing {st = table_of []} (holds-none c.args.own.now c.requires).represents }

pub returns-in_err-replay : goal.returns-in_err-replay
returns-in_err-replay g c =
    gives-no (rebuild_from (map g.E.Recorded.words c.args.events.now) []) c.from_residual.result _ c.from_residual.ensures.1
    (c.in_err-replay.ensures.came [] (holds-none c.args.own.now c.requires))

pub returns : goal.returns
returns g c =
    let done = c.in_ok-replay.ensures.came [] (holds-none c.args.own.now c.requires) in
    let same = c.routes.ensures.rows (table_of done.list) done.holds.represents in
    (done.is ∙ ap rows (sym same), rw same done.holds.represents.routes_within)
