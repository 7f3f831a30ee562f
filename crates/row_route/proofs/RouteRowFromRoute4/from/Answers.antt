-- The row of a record meets its contract: its words are written in two parts.
-- Assumes nothing.
use Rattle.std.proofs.Common.{rules}
use Rattle.row_route.specs.Route4.{written}
use Rattle.row_route.proofs.RouteRowFromRoute4.from.Goals as goal

pub returns : goal.returns
returns c =
    written c.args.r _ _ _ _ _ _ _ _ _ _ c.from.ensures (search rules) (search rules) (search rules) (search rules) (search rules) (search rules) (search rules)
    c.copy_from_slice.ensures.after c.copy_from_slice-2.ensures.after
