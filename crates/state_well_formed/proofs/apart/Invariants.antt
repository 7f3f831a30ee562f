-- The row is none of those behind it where it is none of those still to be looked at.
use Rattle.std.specs.Prelude.{◌≡◌, not, drop}
use Rattle.lists.specs.Lists.{Row, all, eq_row}
use Rattle.state_well_formed.proofs.apart.Given as goal

abbrev pub invariant-loop-r : goal.invariant-loop-r
invariant-loop-r l = all (λ (b : Row). not (eq_row l.row b)) l.behind ≡ all (λ (b : Row). not (eq_row l.row b)) (drop l.r-index l.behind)
