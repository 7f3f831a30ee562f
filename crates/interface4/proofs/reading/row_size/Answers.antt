-- `interface4::reading::row_size` meets its contract.
-- Assumes nothing.
use Prim.Native.Nat.{◌*◌}
use native.Mathlib.Omega.{arith}
use mathlib.Core.Path.{sym}
use lib.Dec.{eqb}
use borrow.Author.Tests.{eq-eqb, ne_eqb}
use Rattle.lists.specs.Bools.{cond-true, cond-false}
use Rattle.layout.specs.Route as Route
use Rattle.interface4.proofs.reading.row_size.Goals as goal

pub returns-then-n-eq-ROUTE_BYTES : goal.returns-then-n-eq-ROUTE_BYTES
returns-then-n-eq-ROUTE_BYTES c =
    let size = 4 * Route.size in
    record { value = sym (cond-true (eqb c.args.n size) size 0 (eq-eqb c.args.n size c.if-n-eq-ROUTE_BYTES.true)); upper_bound = (omega arith, omega arith) }

pub returns-else-n-eq-ROUTE_BYTES : goal.returns-else-n-eq-ROUTE_BYTES
returns-else-n-eq-ROUTE_BYTES c =
    let size = 4 * Route.size in
    record { value = sym (cond-false (eqb c.args.n size) size 0 (ne_eqb c.args.n size c.if-n-eq-ROUTE_BYTES.false)); upper_bound = (omega arith, omega arith) }
