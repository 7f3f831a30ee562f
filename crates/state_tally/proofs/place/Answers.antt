use Rattle.state_tally.specs.Tally.{placed-search}
use Rattle.state_tally.proofs.place.Goals as goal

pub returns : goal.returns
returns c = placed-search c.args.tables.now c.args.table c.search.result c.search.ensures
