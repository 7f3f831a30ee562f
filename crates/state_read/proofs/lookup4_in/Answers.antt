use Rattle.rows_lookup.specs.Flow.{flow_of}
use Rattle.rows_lookup.specs.Answer.{lookup-rows}
use Rattle.state_read.specs.Parts.{listed-there}
use Rattle.state_read.proofs.lookup4_in.Goals as goal

pub returns : goal.returns
returns c =
    λ st h. rw (lookup-rows st (flow_of c.args.f), ← (listed-there h 253), ← c.listed-listed.ensures, ← (c.routes.ensures.rows st h)) c.lookup4_in.ensures
