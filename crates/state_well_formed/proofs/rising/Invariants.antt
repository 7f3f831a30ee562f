-- Each row passed over is in its place, so what is left says the same.
use Rattle.std.specs.Prelude.{◌≡◌, ◌-◌, ◌≤◌, length, drop}
use Rattle.state_well_formed.specs.Place.{in_place}
use Rattle.state_well_formed.proofs.rising.Given as goal

abbrev pub invariant-loop-i : goal.invariant-loop-i
invariant-loop-i l = (l.i ≤ length l.routes) × (l.from ≤ l.i) × (in_place (drop l.from l.routes) ≡ in_place (drop l.i l.routes))

abbrev pub decreases-loop-i : goal.decreases-loop-i
decreases-loop-i l = length l.routes - l.i
