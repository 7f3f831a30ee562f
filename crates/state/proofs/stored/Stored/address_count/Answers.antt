use Rattle.state.specs.Represents.{holds-long}
use Rattle.state.specs.Stored.{represented}
use Rattle.state.proofs.stored.Stored.address_count.Goals as goal

pub address_count-requires : goal.address_count-requires
address_count-requires c = holds-long (represented c.args.self.holds)
