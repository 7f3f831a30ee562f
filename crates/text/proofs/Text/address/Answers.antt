-- Four numbers, with points between.
use Rattle.text.proofs.Pieces.{length-dotted, dotted-pieces}
use Rattle.text.specs.Wrote.{◌and_then◌, same}
use Rattle.text.specs.Print.{dotted}
use Rattle.text.proofs.Text.address.Goals as goal

pub returns-clause-bound : goal.returns-clause-bound
returns-clause-bound c = length-dotted c.args.ip

pub returns-clause-text : goal.returns-clause-text
returns-clause-text c = same (dotted c.args.ip) (rw c.to_be_bytes.ensures (dotted-pieces c.args.ip)) (c.number.ensures.text and_then c.push.ensures and_then c.number-2.ensures.text and_then c.push-2.ensures and_then c.number-3.ensures.text and_then c.push-3.ensures and_then c.number-4.ensures.text)
