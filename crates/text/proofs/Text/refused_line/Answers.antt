-- A word and a number.
use Rattle.std.proofs.Common.{arith}
use Rattle.text.proofs.Pieces.{length-refused, refused-pieces}
use Rattle.text.specs.Wrote.{◌and_then◌, same}
use Rattle.text.specs.Print.{refused_line}
use Rattle.text.proofs.Text.refused_line.Goals as goal

pub returns-clause-bound : goal.returns-clause-bound
returns-clause-bound c = length-refused c.args.n (omega arith)

pub returns-clause-text : goal.returns-clause-text
returns-clause-text c = same (refused_line c.args.n) (refused-pieces c.args.n (omega arith)) (c.push.ensures and_then c.number.ensures.text and_then c.push-2.ensures)
