use Rattle.std.proofs.Common.{rules, tests}
use Rattle.std.proofs.lemmas.Iterator.{YieldsList-from_slice}
use Rattle.std.proofs.lemmas.Iterator.Search.{any_from_yields_List}
use Rattle.lists.specs.Library.{any_list}
use Rattle.definition.specs.Reference.Addresses.{same_subnet}
use Rattle.rows_place.proofs.in_subnet.Goals as goal

pub returns : goal.returns
returns c =
    rw any_list
    (any_from_yields_List (λ old. same_subnet old c.args.q.now) _ _ _ c.any.ensures.ran (YieldsList-from_slice c.args.addresses.rows.now cc) (λ x b q k. search (rules, tests)))
