use Rattle.std.proofs.Common.{arith}
use Rattle.state.specs.InUse.{address-end}
use Rattle.state.specs.Stored.{represented}
use Rattle.call_records.proofs.select4_in.Goals as goal

pub records-requires : goal.records-requires
records-requires c = omega (arith, c.addresses.ensures.count, (address-end (represented c.args.s.holds)).1)
