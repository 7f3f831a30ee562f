use Rattle.std.proofs.Common.{rules, tests, sym, ◌∙◌}
use Rattle.std.proofs.lemmas.Iterator.{YieldsList-from_slice}
use Rattle.std.proofs.lemmas.Iterator.Search.{all_from_yields_List}
use Rattle.lists.specs.Library.{all_list}
use Rattle.layout.specs.Route.{fit_route}
use Rattle.state_well_formed.specs.Place.{routes-tests}
use Rattle.state_well_formed.proofs.routes_form.Goals as goal

pub returns : goal.returns
returns c =
    routes-tests c.args.routes.now
    (all_from_yields_List fit_route _ _ _ c.all.ensures.ran (YieldsList-from_slice c.args.routes.now cc) (λ x b q k. search (rules, tests))
    ∙ sym (all_list fit_route c.args.routes.now))
    c.all_in_place.ensures
