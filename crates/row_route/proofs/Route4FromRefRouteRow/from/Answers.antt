-- The record of a row meets its contract: every field is a word of the row, or what a callee makes of some.
-- Assumes nothing.
use Rattle.std.proofs.Common.{◌≡◌, refl, rules}
use Rattle.layout.specs.Route.{metrics}
use Rattle.row_route.specs.Route4.{row-again, metrics-last}
use Rattle.row_route.proofs.Route4FromRefRouteRow.from.Goals as goal

pub returns : goal.returns
returns c =
    let last = rw c.unwrap.ensures at c.last_chunk.ensures.cases in
    let behind : c.unwrap.result.now ≡ metrics c.args.row.now = metrics-last c.args.row.now c.unwrap.result.now (search rules) last.1.same in
    rw (behind, c.unwrap_or.ensures, c.try_from.ensures, c.optional_of.ensures, c.optional_of-2.ensures)
    (refl, row-again c.args.row.now)
