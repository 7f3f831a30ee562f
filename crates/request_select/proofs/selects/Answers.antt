use Rattle.std.proofs.Common.{sym, ◌∙◌}
use Rattle.request_select.specs.Laws.{selects_parts}
use Rattle.request_select.proofs.selects.Goals as goal

pub returns-then-same_place : goal.returns-then-same_place
returns-then-same_place c =
    let here = sym c.same_place.ensures ∙ c.if-same_place.true in
    rw (← (selects_parts c.args.q.now c.args.t c.args.r.now c.requires.named), here, c.same_fields.ensures, c.has_metrics.ensures)
