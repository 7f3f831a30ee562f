use Rattle.std.proofs.Common.{rules, tests}
use Rattle.std.proofs.lemmas.Iterator.{YieldsList-from_slice}
use Rattle.std.proofs.lemmas.Iterator.Search.{any_from_yields_List}
use Rattle.lists.specs.Library.{any_list}
use Rattle.definition.specs.Reference.Removal.{dependent_on}
use Rattle.rows_wanted.proofs.dependents.Goals as goal

pub returns : goal.returns
returns c =
    rw any_list
    (any_from_yields_List (dependent_on c.args.ip) _ _ _ c.any.ensures.ran (YieldsList-from_slice c.args.routes.rows.now cc) (λ x b q k. search (rules, tests)))
