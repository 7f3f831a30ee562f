use Rattle.std.proofs.Common.{arith, ap, ◌∙◌}
use Rattle.std.specs.Prelude.{◌≡◌, [], Ok, Err, Some, length, List}
use Rattle.std.proofs.lemmas.Result.{err_from_is_err_and}
use Rattle.lists.specs.Lists.{Row}
use Rattle.definition.specs.State.{with_routes}
use Rattle.definition.specs.Words.{decode}
use Rattle.state.specs.Represents.{sizes_of}
use Rattle.state.specs.Stored.{represented, decode-held}
use Rattle.step_insert.specs.Plan.{in_order, plans, add_place, into-full, into-put, into_replaced, into-kept, into-refused}
use Rattle.step_insert.proofs.insert4.Goals as goal

pub returns-in_err-place-clause-inserted_into : goal.returns-in_err-place-clause-inserted_into
returns-in_err-place-clause-inserted_into c =
    λ st h g.
    let is = err_from_is_err_and c.from_residual.result c.from_residual.ensures.1 in
    let same : c.from_residual.result ≡ Err c.in_err-place.field-0.0 = is.1 ∙ ap Err is.2 in
    let p = plans c.args.new.now c.args.flags _ (c.routes-routes.ensures.rows st (rw c.stored.ensures h)) c.plan4.ensures.result_value (in_order st g) in
    rw same (into-refused _ _ st _ p h _ c.plan4.ensures.placed c.in_err-place.was)

pub returns-then-n-eq-ROUTE_LIMIT-clause-inserted_into : goal.returns-then-n-eq-ROUTE_LIMIT-clause-inserted_into
returns-then-n-eq-ROUTE_LIMIT-clause-inserted_into c =
    λ st h g.
    let rows = c.routes-routes.ensures.rows st (rw c.stored.ensures h) in
    let p = plans c.args.new.now c.args.flags _ rows c.plan4.ensures.result_value (in_order st g) in
    let q = c.in_ok-place.was ∙ ap Ok (c.in-Some-Add.is ∙ ap Some c.in-Some-Add.field-0-is) in
    let long = ap (λ (l : List Row). length l) rows in
    into-full _ _ st _ p h _ _ q
    (omega (arith, long, add_place _ _ _ _ c.plan4.ensures.placed q))
    (omega (arith, long, c.if-n-eq-ROUTE_LIMIT.true))

pub insert_route-requires-clause-i_bound : goal.insert_route-requires-clause-i_bound
insert_route-requires-clause-i_bound c =
    let q = c.in_ok-place.was ∙ ap Ok (c.in-Some-Add.is ∙ ap Some c.in-Some-Add.field-0-is) in
    let count = rw c.stored.ensures at c.routes-routes.ensures.count in
    let place = add_place _ _ _ _ c.plan4.ensures.placed q in
    (omega (arith, count, place), omega (arith, count, sizes_of (represented c.args.s.now.holds), c.if-n-eq-ROUTE_LIMIT.false))

pub returns-else-n-eq-ROUTE_LIMIT-clause-inserted_into : goal.returns-else-n-eq-ROUTE_LIMIT-clause-inserted_into
returns-else-n-eq-ROUTE_LIMIT-clause-inserted_into c =
    λ st h g.
    let rows = c.routes-routes.ensures.rows st (rw c.stored.ensures h) in
    let p = plans c.args.new.now c.args.flags _ rows c.plan4.ensures.result_value (in_order st g) in
    let q = c.in_ok-place.was ∙ ap Ok (c.in-Some-Add.is ∙ ap Some c.in-Some-Add.field-0-is) in
    let long = ap (λ (l : List Row). length l) rows in
    into-put _ _ st _ p _ _ q
    (omega (arith, long, add_place _ _ _ _ c.plan4.ensures.placed q))
    (omega (arith, long, h.routes_within, c.if-n-eq-ROUTE_LIMIT.false))
    (c.insert_route.ensures.holds st h)

pub returns-else-n-eq-ROUTE_LIMIT-clause-others : goal.returns-else-n-eq-ROUTE_LIMIT-clause-others
returns-else-n-eq-ROUTE_LIMIT-clause-others c = ap (with_routes []) (decode-held (c.insert_route.ensures.holds (decode c.args.s.now.words.now) (represented c.args.s.now.holds)))

pub returns-in-Some-Replace-clause-others : goal.returns-in-Some-Replace-clause-others
returns-in-Some-Replace-clause-others c = ap (with_routes []) (decode-held (c.replace_route.ensures.holds (decode c.args.s.now.words.now) (represented c.args.s.now.holds)))

pub returns-in-Some-Replace-clause-inserted_into : goal.returns-in-Some-Replace-clause-inserted_into
returns-in-Some-Replace-clause-inserted_into c =
    λ st h g.
    let p = plans c.args.new.now c.args.flags _ (c.routes-routes.ensures.rows st (rw c.stored.ensures h)) c.plan4.ensures.result_value (in_order st g) in
    into_replaced _ _ st _ p _ (c.in_ok-place.was ∙ ap Ok (c.in-Some-Replace.is ∙ ap Some c.in-Some-Replace.field-0-is)) h.routes_within (c.replace_route.ensures.holds st h)

pub returns-in-None-clause-inserted_into : goal.returns-in-None-clause-inserted_into
returns-in-None-clause-inserted_into c =
    λ st h g.
    let p = plans c.args.new.now c.args.flags _ (c.routes-routes.ensures.rows st (rw c.stored.ensures h)) c.plan4.ensures.result_value (in_order st g) in
    into-kept _ _ st _ p h (c.in_ok-place.was ∙ ap Ok c.in-None.is)
