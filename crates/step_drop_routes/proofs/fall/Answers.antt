use Rattle.std.proofs.Common.{sym, ◌∙◌}
use Rattle.step_drop_routes.specs.Iterations.{fall-none, fall-goes}
use Rattle.step_drop_routes.proofs.fall.Goals as goal

pub returns-then-falls : goal.returns-then-falls
returns-then-falls c =
    λ st f.
    let asked = c.falls.ensures st (rw c.stored.ensures f.holds) in
    fall-goes c.args.ip c.args.lost (sym asked ∙ c.if-falls.true) (c.drop_dependents.ensures st f)

pub returns-else-falls : goal.returns-else-falls
returns-else-falls c =
    λ st f.
    let asked = c.falls.ensures st (rw c.stored.ensures f.holds) in
    fall-none c.args.ip c.args.lost (sym asked ∙ c.if-falls.false) f
