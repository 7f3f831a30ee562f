use Rattle.rows_lookup.specs.AddrType.{local-rows}
use Rattle.state_read.specs.Parts.{listed-there}
use Rattle.state_read.proofs.local4.Goals as goal

pub returns : goal.returns
returns c =
    λ st h. rw (local-rows st c.args.ip, ← (listed-there h 255), ← c.listed-listed.ensures, ← (c.routes.ensures.rows st h)) c.local4.ensures
