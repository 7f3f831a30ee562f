-- All rows are in their places where those still to be looked at are.
use Rattle.std.specs.Prelude.{◌≡◌, ◌-◌, ◌≤◌, length, drop}
use Rattle.state_well_formed.specs.Place.{in_place}
use Rattle.state_well_formed.proofs.all_in_place.Given as goal

abbrev pub invariant-loop-i : goal.invariant-loop-i
invariant-loop-i l = (l.i ≤ length l.routes) × (in_place l.routes ≡ in_place (drop l.i l.routes))

abbrev pub decreases-loop-i : goal.decreases-loop-i
decreases-loop-i l = length l.routes - l.i
