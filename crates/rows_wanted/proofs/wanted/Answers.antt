use Rattle.std.proofs.Common.{rules, tests}
use Rattle.std.proofs.lemmas.Iterator.{YieldsList-from_slice}
use Rattle.std.proofs.lemmas.Iterator.Search.{any_from_yields_List}
use Rattle.lists.specs.Library.{any_list}
use Rattle.rows_wanted.specs.Wants.{wants_row}
use Rattle.rows_wanted.specs.Laws.{wanted-rows}
use Rattle.rows_wanted.proofs.wanted.Goals as goal

pub returns : goal.returns
returns c =
    rw (← wanted-rows c.args.addresses.rows.now c.args.r.now, any_list)
    (any_from_yields_List (wants_row c.args.r.now) _ _ _ c.any.ensures.ran (YieldsList-from_slice c.args.addresses.rows.now cc) (λ x b q k. search (rules, tests)))
