use Rattle.std.proofs.Common.{sym}
use Rattle.definition.proofs.Preservation.Step.{base-long}
use Rattle.state_well_formed.proofs.formed.Goals as goal

pub slice_bounds-well_formed-end : goal.slice_bounds-well_formed-end
slice_bounds-well_formed-end c = sym (base-long c.args.s.now c.requires)

pub well_formed-requires : goal.well_formed-requires
well_formed-requires c = base-long c.args.s.now c.requires
