use Rattle.std.proofs.Common.{◌≡◌, arith, sym, ap, ◌∙◌, get_or, take, drop, take_all, length-drop, length-take-le}
use Rattle.lists.specs.Lists.{chop}
use Rattle.request_fit.specs.Laws.{chunks_take}
use Rattle.request_fit.proofs.pairs.Goals as goal

pub slice_bounds-result-end : goal.slice_bounds-result-end
slice_bounds-result-end c =
    sym (length-take-le _ c.as_chunks.result.0.now (omega (arith, c.requires, c.as_chunks.ensures.front_len)))

pub returns : goal.returns
returns c =
    let q = c.args.q.now in
    let whole : take 34 (drop 15 q) ≡ drop 15 q = take_all 34 (drop 15 q) (simp length-drop (omega arith)) in
    rw (c.as_chunks.ensures.front) (chunks_take 2 _ _ _ (omega (arith, c.requires))) ∙ ap (chop 2 (get_or q 14 0)) whole
