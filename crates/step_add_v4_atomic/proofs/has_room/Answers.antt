use Rattle.std.proofs.Common.{arith}
use Rattle.state.specs.Represents.{sizes_of}
use Rattle.state.specs.Stored.{represented}
use Rattle.step_add_v4_atomic.proofs.has_room.Goals as goal

pub bounds-s-2 : goal.bounds-s-2
bounds-s-2 c = omega (arith, sizes_of (represented c.args.s.holds))
