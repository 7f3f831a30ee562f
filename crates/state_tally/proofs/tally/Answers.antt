use Rattle.std.specs.Prelude.{length}
use Rattle.std.proofs.Common.{sym, ◌∙◌, eqb-true}
use Rattle.lists.specs.Lists.{zeros}
use Rattle.state_tally.specs.Tally.{none-listed}
use Rattle.state_tally.proofs.tally.Goals as goal

pub returns-then-is_empty : goal.returns-then-is_empty
unfolding zeros
returns-then-is_empty c =
    none-listed c.args.routes.now c.args.tables.now (eqb-true (length c.args.tables.now) 0 (sym c.is_empty.ensures ∙ c.if-is_empty.true))
