-- `row_route::fit_route` meets its contract: after the length and the prefix, which the host bits need, the same tests.
-- Assumes nothing.
use Rattle.std.proofs.Common.{◌≡◌, ap, ◌∙◌, false, length, rules}
use Rattle.std.specs.Option.{is_some}
use borrow.Author.Tests.{eq-eqb, ne_eqb, lt-leb}
use Rattle.layout.specs.Route.{fit_route}
use Rattle.row_route.specs.Fit.{fit-tests}
use Rattle.row_route.proofs.fit_route.Goals as goal

pub returns-in_err-r-clause-fits : goal.returns-in_err-r-clause-fits
unfolding fit_route
returns-in_err-r-clause-fits c =
    let none : is_some c.from_residual.result ≡ false = search rules in
    rw none (simp (ne_eqb _ _ c.in_err-r.ensures.cases))

pub returns-then-r-gt32-clause-fits : goal.returns-then-r-gt32-clause-fits
unfolding fit_route
returns-then-r-gt32-clause-fits c =
    let row = c.in_ok-r.ensures.cases in
    simp (eq-eqb _ _ row.long, lt-leb _ _ (rw row.same at c.if-r-gt32.true))

pub returns-clause-fits : goal.returns-clause-fits
returns-clause-fits c =
    let row = c.in_ok-r.ensures.cases in
    let fit = fit-tests c.in_ok-r.r.now (ap length row.same ∙ row.long) c.if-r-gt32.false c.no_host_bits.ensures c.is_kind.ensures c.fit_optional.ensures c.fit_optional-2.ensures in
    rw (← (ap fit_route row.same), ← fit) (search rules)
