-- Zeros behind the run that moved are one run with it.
use Rattle.std.proofs.Common.{◌+◌, arith}
use Rattle.lists.specs.Put.{put_out}
use Rattle.words.proofs.Part.{pasted}
use Rattle.words.proofs.remove.Goals as goal

pub returns : goal.returns
returns c =
    let a = c.args in
    rw (c.clear.ensures, pasted (a.at + a.k) a.at a.n _ a.s.now _ c.copy_within.ensures.after (omega arith) (omega arith))
    (put_out a.at a.k a.n a.s.now c.requires)
