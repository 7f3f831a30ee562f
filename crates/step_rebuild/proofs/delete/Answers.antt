-- `step_rebuild::delete` meets its contract.
use Rattle.definition_recording.specs.Recording.{deleted_row}
use Rattle.step_rebuild.specs.Holds.{table_of}
use Rattle.step_rebuild.specs.Laws.{handed-on, place-there, no-place, not_there, taken_out}
use Rattle.step_rebuild.proofs.delete.Goals as goal

pub returns-in_err-i-clause-came : goal.returns-in_err-i-clause-came
returns-in_err-i-clause-came c =
    λ l h.
    let rows = c.routes.ensures.rows (table_of l) (rw c.stored.ensures h.represents) in
    let none = no-place c.find_row.result c.in_err-i.field-0.0 c.ok_or.ensures.value c.in_err-i.was in
    let place = (rw rows at c.find_row.ensures.place) h.fit.in_order in
    handed-on (deleted_row c.args.row.now l) c.args.s.now.words.now c.from_residual.result _ c.from_residual.ensures.1
    (rw none.1 (not_there c.args.row.now l (rw none.0 at place)))

pub returns-clause-came : goal.returns-clause-came
returns-clause-came c =
    λ l h.
    let rows = c.routes.ensures.rows (table_of l) (rw c.stored.ensures h.represents) in
    let some = place-there c.find_row.result c.in_ok-i.i c.ok_or.ensures.value c.in_ok-i.was in
    let place = (rw rows at c.find_row.ensures.place) h.fit.in_order in
    taken_out c.args.row.now l c.in_ok-i.i (rw some at place) (rw (some, rows) at c.find_row.ensures.bound) h.fit (c.remove_route.ensures.holds (table_of l) h.represents)
