-- After i iterations the bytes of the first i words are put.
use Rattle.std.proofs.Common.{◌≡◌, take}
use Rattle.lists.specs.Lists.{put}
use Rattle.endian.specs.Endian.{bytes_of}
use Rattle.endian.proofs.bytes_of.Given as goal

abbrev pub invariant-loop-i : goal.invariant-loop-i
invariant-loop-i l = l.out ≡ put 0 (bytes_of (take l.i l.words)) l.initial.out
