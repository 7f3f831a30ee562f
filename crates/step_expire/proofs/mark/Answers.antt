use Rattle.definition.specs.Preservation.Rows.{deprecate-fit}
use Rattle.step_expire.proofs.mark.Goals as goal

pub replace_address-requires-clause-row_value : goal.replace_address-requires-clause-row_value
replace_address-requires-clause-row_value c = rw c.deprecate-row.ensures (deprecate-fit c.args.a.now c.requires.i_bound.2)
