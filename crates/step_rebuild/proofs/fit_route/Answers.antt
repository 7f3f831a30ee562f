-- `step_rebuild::fit_route` meets its contract.
use Rattle.std.proofs.Common.{◌≡◌, sym, ap, ◌∙◌, true, leb, take, drop, arith}
use Rattle.layout.specs.Route.{fit_route}
use Rattle.refusal.specs.Laws.{passed}
use Rattle.definition_recording.specs.Recording.{flags, route_row}
use Rattle.step_rebuild.specs.Laws.{lent-from, route-answer}
use Rattle.step_rebuild.proofs.fit_route.Goals as goal

pub returns : goal.returns
returns c =
    let e = c.args.e.now in
    let lent : take 32 (drop 2 e) ≡ drop 2 e = lent-from 2 32 e (omega arith) in
    let few : leb (flags e) c.args.most ≡ true = passed (leb (flags e) c.args.most) _ (sym c.in_ok-unless.was ∙ c.unless.ensures) in
    rw c.ok_or.ensures.value
    (route-answer c.fit_route.result (route_row e) (leb (flags e) c.args.most) (c.fit_route.ensures.fits ∙ ap fit_route lent) (rw lent at c.fit_route.ensures.same) few)
