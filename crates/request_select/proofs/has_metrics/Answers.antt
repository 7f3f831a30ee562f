use Rattle.std.proofs.Common.{◌≡◌, true, arith}
use Rattle.std.proofs.lemmas.Grind.{common_steps}
use Rattle.layout.specs.Request.{fit_pairs}
use Rattle.request_select.specs.Laws.{pairs_fit}
use Rattle.request_select.proofs.has_metrics.Goals as goal

pub bounds-r-index : goal.bounds-r-index
bounds-r-index c =
    let fits : fit_pairs c.args.q.now ≡ true = pairs_fit c.args.q.now c.requires in
    grind (arith, common_steps)
