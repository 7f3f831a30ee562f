use Rattle.std.proofs.Common.{◌∙◌}
use Rattle.rows_walk.specs.Walked.{walk_answers}
use Rattle.rows_walk.proofs.Walk.answer.Goals as goal

pub returns : goal.returns
returns c = λ t l o up h k.
    let w = c.advance.ensures t l o up h k in
    (c.longest.ensures ∙ walk_answers t l _ c.args.ip w, w)
