use Rattle.std.proofs.Common.{ℕ, List, length}
use Rattle.std.proofs.Math.Option.{Option}
use Rattle.lists.specs.Lists.{Row}
use Rattle.rows_lookup.specs.declared.Tables.{Tables}
use Rattle.rows_walk.specs.Walked.{Rising, Onward, Walked, Walking}
use Rattle.rows_walk.proofs.Walk.advance.Given as goal

abbrev pub invariant-loop-self : goal.invariant-loop-self
invariant-loop-self l = (t : Tables) (m : List Row) (o : Option ℕ) → Rising m → Onward o l.ip → Walked t m o l.initial.self
    → Walking t m l.ip l.self.tables l.self.rest.rows.now l.self.kept.rows l.self.weighed

abbrev pub decreases-loop-self : goal.decreases-loop-self
decreases-loop-self l = length l.self.rest.rows.now
