-- `call_change::told_routes` meets its contract.
use Rattle.std.proofs.Common.{rules, tests, ap, ◌∙◌}
use Rattle.std.proofs.lemmas.Iterator.{YieldsList-from_slice, YieldsList-from_take}
use Rattle.std.proofs.lemmas.Iterator.Search.{any_from_yields_List}
use Rattle.lists.specs.Library.{any_list}
use Rattle.definition_recording.specs.Recording.{of_routes}
use Rattle.call_change.proofs.told_routes.Goals as goal

pub returns : goal.returns
returns c =
    rw (any_list, ← c.as_chunks.ensures.front, ← c.unwrap_or.ensures)
    (any_from_yields_List {s = c.take.result} of_routes _ _ _ c.any.ensures.ran
    (YieldsList-from_take c.unwrap_or.result (YieldsList-from_slice c.as_chunks.result.0.now (ap (λ it. it.rest.now) c.take.ensures.source ∙ c.iter.ensures.rest)) c.take.ensures.count)
    (λ x b q k. search (rules, tests)))
