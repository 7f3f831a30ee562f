use Rattle.std.proofs.Common.{◌≡◌, ◌&&◌, drop}
use Rattle.lists.specs.Lists.{all}
use Rattle.definition.specs.Reference.Routes.{has_metrics}
use Rattle.request_select.specs.Laws.{has_pair}
use Rattle.request_select.proofs.has_metrics.Given as goal

abbrev pub invariant-loop-index : goal.invariant-loop-index
invariant-loop-index l = has_metrics l.q l.r ≡ (l.same && all (has_pair l.r) (drop l.index-index l.index-items))
