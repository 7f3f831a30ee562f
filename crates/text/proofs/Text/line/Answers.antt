-- The pieces one behind the other.
use Rattle.std.proofs.Common.{arith}
use Rattle.text.proofs.Pieces.{length-line, line-pieces}
use Rattle.text.specs.Wrote.{◌and_then◌, same}
use Rattle.text.specs.Print.{line}
use Rattle.text.proofs.Text.line.Goals as goal

pub returns-clause-bound : goal.returns-clause-bound
returns-clause-bound c = length-line c.args.r.now (λ i. omega (arith, c.type_inv.r i))

pub returns-clause-text : goal.returns-clause-text
returns-clause-text c =
    same (line c.args.r.now) (line-pieces c.args.r.now (λ i. omega (arith, c.type_inv.r i)))
    (c.push.ensures
    and_then c.number.ensures.text
    and_then c.push-2.ensures
    and_then c.address.ensures.text
    and_then c.push-3.ensures
    and_then c.number-2.ensures.text
    and_then c.push-4.ensures
    and_then c.number-3.ensures.text
    and_then c.push-5.ensures
    and_then c.number-4.ensures.text
    and_then c.push-6.ensures
    and_then c.number-5.ensures.text
    and_then c.push-7.ensures)
