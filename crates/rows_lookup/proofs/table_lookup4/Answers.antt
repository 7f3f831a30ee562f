use Rattle.std.proofs.Common.{arith, sym, ◌∙◌, []}
use Rattle.lists.specs.At.{all-at}
use Rattle.layout.specs.Route.{fit_route}
use Rattle.definition.specs.Preservation.Fit.{route-len}
use Rattle.definition.specs.Reference.Lookup.{answer}
use Rattle.rows_lookup.specs.Best.{best-start, best_taken, best-stays, best-end}
use Rattle.rows_lookup.proofs.table_lookup4.Goals as goal
use Rattle.rows_lookup.proofs.table_lookup4.Goals.{then-better, else-better}

pub loop-r-init : goal.loop-r-init
loop-r-init c = best-start _ _

pub overflow_add-least : goal.overflow_add-least
overflow_add-least c =
    let short = route-len _ (all-at fit_route c.loop-r.r-index c.args.routes.rows.now [] c.loop-r-test.true c.args.routes.fit) in
    record { fits = omega (arith, short) }

pub loop-r-preserved : goal.loop-r-preserved
loop-r-preserved c =
    elim c.if-better.branch [
      | then-better w ↦ rw (w.best-is, w.least-is) (best_taken _ c.args.routes.rows.now c.loop-r.r-index _ _ c.loop-r.invariant c.loop-r-test.true [] (sym c.better.ensures ∙ w.if-better.true))
      | else-better w ↦ rw (w.best-is, w.least-is) (best-stays _ c.args.routes.rows.now c.loop-r.r-index _ _ c.loop-r.invariant c.loop-r-test.true [] (sym c.better.ensures ∙ w.if-better.false))
    ]

pub returns : goal.returns
returns c = unfold answer in sym (best-end _ c.args.routes.rows.now c.loop-r.r-index _ _ c.loop-r-test.false c.loop-r.invariant)
