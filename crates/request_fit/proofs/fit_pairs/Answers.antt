use Rattle.std.proofs.Common.{rules, tests}
use Rattle.std.proofs.lemmas.Iterator.{YieldsList-from_slice}
use Rattle.std.proofs.lemmas.Iterator.Search.{all_from_yields_List}
use Rattle.lists.specs.Library.{all_list}
use Rattle.request_fit.specs.Laws.{fit_pair}
use Rattle.request_fit.proofs.fit_pairs.Goals as goal

pub returns : goal.returns
returns c =
    rw (← c.pairs.ensures, all_list)
    (all_from_yields_List fit_pair _ _ _ c.all.ensures.ran (YieldsList-from_slice c.pairs.result.now cc) (λ x b q k. search (rules, tests)))
