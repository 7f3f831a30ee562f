use Rattle.std.proofs.Common.{arith, ◌∙◌, ap, sym, length}
use Rattle.state.specs.Represents.{count-routes}
use Rattle.state.specs.InUse.{laid-routes, lays_routes, route-end}
use Rattle.state.specs.Stored.{represented}
use Rattle.state.proofs.stored.Stored.routes.Goals as goal

pub overflow_mul-end : goal.overflow_mul-end
overflow_mul-end c = omega (arith, c.route_count.ensures, (route-end (represented c.args.self.holds)).1)

pub overflow_add-end : goal.overflow_add-end
overflow_add-end c = omega (arith, c.route_count.ensures, (route-end (represented c.args.self.holds)).1)

pub slice_bounds-rows_of-end : goal.slice_bounds-rows_of-end
slice_bounds-rows_of-end c = omega (arith, c.route_count.ensures, (route-end (represented c.args.self.holds)).0)

pub rows_of-requires : goal.rows_of-requires
rows_of-requires c = (omega arith, (omega arith, rw c.route_count.ensures (lays_routes (represented c.args.self.holds))))

pub returns-clause-rows : goal.returns-clause-rows
returns-clause-rows c = λ st h. c.rows_of.ensures st.routes (rw c.route_count.ensures (laid-routes h))

pub returns-clause-count : goal.returns-clause-count
returns-clause-count c =
    let h = represented c.args.self.holds in
    ap length (c.rows_of.ensures _ (rw c.route_count.ensures (laid-routes h))) ∙ sym (count-routes h)
