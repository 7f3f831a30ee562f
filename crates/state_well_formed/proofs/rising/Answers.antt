use Rattle.std.proofs.Common.{arith, sym, ◌∙◌}
use Rattle.state_well_formed.specs.Place.{place_rise}
use Rattle.state_well_formed.proofs.rising.Goals as goal

pub loop-i-preserved : goal.loop-i-preserved
loop-i-preserved c =
    (omega arith, omega arith, c.loop-i.invariant.2 ∙ place_rise c.args.routes.now c.loop-i.i c.loop-i-test.true (sym c.before-in-loop-i.ensures ∙ c.if-not-before.false))
