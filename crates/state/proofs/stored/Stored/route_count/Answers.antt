use Rattle.state.specs.Represents.{holds-long}
use Rattle.state.specs.Stored.{represented}
use Rattle.state.proofs.stored.Stored.route_count.Goals as goal

pub route_count-requires : goal.route_count-requires
route_count-requires c = holds-long (represented c.args.self.holds)
