-- `row_route::before` meets its contract: destinations that differ decide, and behind the same one the tests are the definition's.
-- Assumes nothing.
use Rattle.row_route.specs.Order.{before-other, before_same}
use Rattle.row_route.proofs.before.Goals as goal

pub returns-then-a-b : goal.returns-then-a-b
returns-then-a-b c =
    before-other c.args.a.now c.args.b.now c.if-a-b.true

pub returns : goal.returns
returns c =
    before_same c.args.a.now c.args.b.now c.if-a-b.false
