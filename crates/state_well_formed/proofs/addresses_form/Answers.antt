use Rattle.std.proofs.Common.{rules, tests}
use Rattle.std.proofs.lemmas.Iterator.{YieldsList-from_slice}
use Rattle.std.proofs.lemmas.Iterator.Search.{all_from_yields_List}
use Rattle.lists.specs.Library.{all_list}
use Rattle.layout.specs.Address.{fit_address}
use Rattle.state_well_formed.proofs.addresses_form.Goals as goal

pub returns : goal.returns
returns c =
    rw all_list
    (all_from_yields_List fit_address _ _ _ c.all.ensures.ran (YieldsList-from_slice c.args.addresses.now cc) (λ x b q k. search (rules, tests)))
