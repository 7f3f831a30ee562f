use Rattle.std.proofs.Common.{rules, tests}
use Rattle.std.proofs.lemmas.Iterator.{YieldsList-from_slice}
use Rattle.std.proofs.lemmas.Iterator.Search.{any_from_yields_List}
use Rattle.lists.specs.Library.{any_list}
use Rattle.step_drop_routes.specs.One.{loses}
use Rattle.step_drop_routes.proofs.loses.Goals as goal

pub returns : goal.returns
returns c =
    rw any_list
    (any_from_yields_List (loses c.args.addresses.rows.now) _ _ _ c.any.ensures.ran (YieldsList-from_slice c.args.rows.now cc) (λ x b q k. search (rules, tests)))
