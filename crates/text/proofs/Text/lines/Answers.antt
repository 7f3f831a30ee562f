-- Each line is written behind those before it.
use Rattle.std.proofs.Common.{sym, length-append, arith}
use Rattle.text.proofs.Pieces.{each-take}
use Rattle.text.specs.Wrote.{◌and_then◌, same, nothing}
use Rattle.text.proofs.Text.lines.Goals as goal

pub loop-r-init : goal.loop-r-init
loop-r-init c = record { bound = omega arith; text = nothing c.args.self.now }

pub loop-r-preserved : goal.loop-r-preserved
loop-r-preserved c =
    let e = each-take c.args.rows.now c.loop-r.r-index c.loop-r-test.true in
    record {
      bound = rw (e, length-append) (omega arith);
      text = same _ (sym e) (c.loop-r.invariant.text and_then c.line.ensures.text);
    }
