use Rattle.rows_source.specs.Source.{source-rows}
use Rattle.state_read.specs.Parts.{listed-there}
use Rattle.state_read.proofs.source.Goals as goal

pub returns : goal.returns
returns c =
    λ st h.
    rw (source-rows st c.args.ip, ← (listed-there h 253), ← c.listed-listed.ensures, ← (c.addresses.ensures.rows st h), ← (c.routes.ensures.rows st h)) c.source.ensures
