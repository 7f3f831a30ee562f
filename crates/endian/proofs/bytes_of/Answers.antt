-- The four bytes that are put are the next word's.
use Rattle.std.proofs.Common.{arith}
use Rattle.endian.specs.Laws.{bytes-none, four-more-bytes}
use Rattle.endian.proofs.bytes_of.Goals as goal

pub loop-i-init : goal.loop-i-init
loop-i-init c = bytes-none c.args.out.now

pub loop-i-preserved : goal.loop-i-preserved
loop-i-preserved c =
    let a = c.args in
    rw (c.loop-i.invariant, c.to_le_bytes.ensures) (four-more-bytes c.loop-i.i a.words.now a.out.now (omega arith) (omega arith))
