-- `state_count::count` meets its contract.
use Rattle.std.proofs.Common.{arith}
use Rattle.state_count.specs.Count.{count-stays, count-raised}
use Rattle.state_count.proofs.count.Goals as goal

pub returns-in_default : goal.returns-in_default
returns-in_default c = count-stays c.args.state.now c.requires (omega (arith, c.in_default.ensures, c.read.ensures))

pub returns : goal.returns
returns c =
    let some = c.in-Some.ensures in
    count-raised c.args.state.now c.requires c.in-Some.after (omega (arith, some.1, c.read.ensures)) (omega (arith, some.0, c.read.ensures))
