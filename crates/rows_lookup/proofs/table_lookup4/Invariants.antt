use Rattle.std.proofs.Common.{◌&&◌}
use Rattle.lists.specs.Lists.{Row}
use Rattle.lists.specs.Library.{lent}
use Rattle.layout.specs.Route.{table}
use Rattle.definition.specs.Reference.Lookup.{fits}
use Rattle.rows_lookup.specs.Flow.{flow_of, set_of}
use Rattle.rows_lookup.specs.Best.{Best}
use Rattle.rows_lookup.proofs.table_lookup4.Given as goal

abbrev pub invariant-loop-r : goal.invariant-loop-r
invariant-loop-r l = Best (λ (r : Row). set_of l.set (table r) && fits (flow_of l.f) r) l.routes.rows.now l.r-index (lent l.best) l.least
