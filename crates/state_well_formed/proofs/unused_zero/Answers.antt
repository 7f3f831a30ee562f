-- `state_well_formed::unused_zero` meets its contract: the three parts behind what is in use.
-- Assumes nothing.
use Rattle.std.proofs.Common.{refl}
use Rattle.state_well_formed.specs.Look.{unused-tests}
use Rattle.state_well_formed.proofs.unused_zero.Goals as goal

pub returns : goal.returns
returns c =
    unused-tests c.args.s.now c.requires.0 refl refl refl c.all_zero.ensures c.all_zero-2.ensures c.all_zero-3.ensures
