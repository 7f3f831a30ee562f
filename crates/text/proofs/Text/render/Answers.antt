-- The count, then the lines.
use Rattle.std.proofs.Common.{arith, length-append}
use Rattle.text.specs.Print.{render}
use Rattle.text.specs.Wrote.{◌and_then◌}
use Rattle.text.proofs.Text.render.Goals as goal

pub returns-clause-bound : goal.returns-clause-bound
unfolding render
returns-clause-bound c = rw length-append (omega arith)

pub returns-clause-text : goal.returns-clause-text
unfolding render
returns-clause-text c = c.count_line.ensures.text and_then c.lines.ensures.text
