use Rattle.std.proofs.lemmas.List.Sorted.{non_decreasing_from_is_sorted}
use Rattle.call_many.specs.Laws.{sorted-rising}
use Rattle.call_many.proofs.rises.Goals as goal

pub returns : goal.returns
returns c =
    let ds = c.args.destinations.now in
    sorted-rising ds c.is_sorted.result (non_decreasing_from_is_sorted ds c.is_sorted.result c.is_sorted.ensures.cases)
