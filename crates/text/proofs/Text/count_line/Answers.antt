-- A word and a number.
use Rattle.std.proofs.Common.{arith}
use Rattle.text.proofs.Pieces.{length-count, count-pieces}
use Rattle.text.specs.Wrote.{◌and_then◌, same}
use Rattle.text.specs.Print.{count_line}
use Rattle.text.proofs.Text.count_line.Goals as goal

pub returns-clause-bound : goal.returns-clause-bound
returns-clause-bound c = length-count c.args.n (omega arith)

pub returns-clause-text : goal.returns-clause-text
returns-clause-text c = same (count_line c.args.n) (count-pieces c.args.n (omega arith)) (c.push.ensures and_then c.number.ensures.text and_then c.push-2.ensures)
