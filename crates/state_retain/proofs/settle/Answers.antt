-- `state_retain::settle` meets its contract: the row moves, unless it stands there.
-- Assumes nothing.
use Rattle.std.proofs.Common.{arith, sym, ◌≡◌, ◌+◌, ◌*◌, length}
use Rattle.lists.specs.Rows.{length-span}
use Rattle.definition.specs.Words.{routes_at}
use Rattle.state_retain.specs.Retain.{itself}
use Rattle.state_retain.proofs.settle.Goals as goal

pub returns-then-i-j-clause-s_after : goal.returns-then-i-j-clause-s_after
returns-then-i-j-clause-s_after c = itself c.args.s.now c.if-i-j.true (omega arith)

pub slice_bounds-store-end : goal.slice_bounds-store-end
slice_bounds-store-end c = rw c.route_row.ensures (sym (length-span (routes_at + 32 * c.args.i) 32 c.args.s.now (omega (arith, c.requires))))

pub store-requires : goal.store-requires
store-requires c =
    let long : length c.route_row.result.now ≡ 32 = rw c.route_row.ensures (length-span (routes_at + 32 * c.args.i) 32 c.args.s.now (omega (arith, c.requires))) in
    omega (arith, long, c.requires)
