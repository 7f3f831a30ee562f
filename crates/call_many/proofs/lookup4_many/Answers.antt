-- `call_many::lookup4_many` meets its contract.
use Rattle.std.proofs.Common.{length}
use Rattle.definition.specs.Words.{state_of}
use Rattle.definition.specs.Preservation.Fit.{fit-state}
use Rattle.definition_many.specs.Many.{many_checks}
use Rattle.call_read.specs.Laws.{passed}
use Rattle.call_many.specs.Laws.{many-no, many-yes}
use Rattle.call_many.proofs.lookup4_many.Goals as goal

pub returns-in_err-s : goal.returns-in_err-s
returns-in_err-s c =
    many-no c.args.destinations.now c.args.state.now c.args.answers.now (rw c.has_room-lent.ensures at (c.reading.ensures.refuses _ c.fit.ensures)) c.in_err-s.was
    c.from_residual.ensures.1

pub look-requires-clause-in_order : goal.look-requires-clause-in_order
look-requires-clause-in_order c =
    let k = many_checks (length c.args.answers.now) c.args.destinations.now in
    let p = passed k c.args.state.now (rw c.has_room-lent.ensures at (c.reading.ensures.refuses _ c.fit.ensures)) c.in_ok-s.was in
    rw c.in_ok-s.ensures.passes.0 (fit-state (state_of c.args.state.now) p.good.fits).of_routes.in_order

pub returns : goal.returns
returns c =
    let k = many_checks (length c.args.answers.now) c.args.destinations.now in
    let p = passed k c.args.state.now (rw c.has_room-lent.ensures at (c.reading.ensures.refuses _ c.fit.ensures)) c.in_ok-s.was in
    let is = c.in_ok-s.ensures.passes.0 in
    many-yes c.args.destinations.now c.args.state.now c.args.answers.now p (rw is at c.look.ensures.value) (rw is at c.look.ensures.answers_after)
