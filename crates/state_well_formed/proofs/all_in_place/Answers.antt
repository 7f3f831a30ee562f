use Rattle.std.proofs.Common.{arith, sym, ◌∙◌}
use Rattle.state_well_formed.specs.Place.{place_end}
use Rattle.state_well_formed.proofs.all_in_place.Goals as goal

pub returns : goal.returns
returns c = sym (c.loop-i.invariant.1 ∙ place_end c.args.routes.now c.loop-i.i (omega (arith, c.loop-i-test.false)))
