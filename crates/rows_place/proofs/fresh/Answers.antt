use Rattle.definition.specs.Reference.Addresses.{asked}
use Rattle.definition.specs.Preservation.Rows.{asked-fit, as_secondary-fit}
use Rattle.rows_place.proofs.fresh.Goals as goal

pub returns-then-in_subnet-clause-fits : goal.returns-then-in_subnet-clause-fits
returns-then-in_subnet-clause-fits c =
    rw (c.as_secondary.ensures, c.asked-row.ensures)
    (as_secondary-fit (asked c.args.q.now c.args.clock.0) (asked-fit c.args.q.now c.args.clock.0 c.told-q c.requires))

pub returns-clause-fits : goal.returns-clause-fits
returns-clause-fits c = rw c.asked-row.ensures (asked-fit c.args.q.now c.args.clock.0 c.told-q c.requires)
