use Rattle.std.proofs.Common.{rules, tests, eqb}
use Rattle.std.proofs.lemmas.Iterator.{YieldsList-from_slice}
use Rattle.std.proofs.lemmas.Iterator.Search.{any_from_yields_List}
use Rattle.lists.specs.Library.{any_list}
use Rattle.state_tables.proofs.listed.Goals as goal

pub returns : goal.returns
returns c =
    rw (← c.tables.ensures, any_list)
    (any_from_yields_List (eqb c.args.t) _ _ _ c.any.ensures.ran (YieldsList-from_slice c.tables.result.now cc) (λ x b q k. search (rules, tests)))
