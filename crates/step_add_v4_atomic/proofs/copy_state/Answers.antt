use Rattle.std.proofs.Common.{arith}
use Rattle.state.specs.Represents.{sizes_of}
use Rattle.state.specs.Stored.{represented}
use Rattle.step_add_v4_atomic.proofs.copy_state.Goals as goal

pub copy_from_slice-requires : goal.copy_from_slice-requires
copy_from_slice-requires c = omega (arith, sizes_of (represented c.args.to.now.holds), sizes_of (represented c.args.from.holds))
