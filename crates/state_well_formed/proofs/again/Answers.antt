use Rattle.std.proofs.Common.{sym}
use Rattle.state_well_formed.specs.Twice.{bit_of, unmarked, bit_test}
use Rattle.state_well_formed.proofs.again.Goals as goal

pub returns-then-seen-n-eq0 : goal.returns-then-seen-n-eq0
returns-then-seen-n-eq0 c =
    sym (unmarked c.args.seen c.args.n c.args.behind.now c.requires (bit_test c.args.seen (bit_of c.args.n) c.if-seen-n-eq0.true))
