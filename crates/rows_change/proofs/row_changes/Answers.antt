-- `rows_change::row_changes` meets its contract.
use Rattle.std.proofs.Common.{sym, ◌∙◌}
use Rattle.rows_change.specs.Row.{row-new, row-there}
use Rattle.rows_change.proofs.row_changes.Goals as goal

pub returns-in_default : goal.returns-in_default
returns-in_default c = row-new c.args.q.now c.args.clock.0 c.args.addresses.rows.now (sym c.same_at.ensures ∙ c.in_default.is)

pub returns : goal.returns
returns c =
    row-there c.args.q.now c.args.clock.0 c.args.addresses.rows.now c.in-Some.i (sym c.same_at.ensures ∙ c.in-Some.is) (rw c.changed_to.ensures at c.ne.ensures)
