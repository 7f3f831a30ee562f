-- After i iterations the first i words are put.
use Rattle.std.proofs.Common.{◌≡◌, take}
use Rattle.lists.specs.Lists.{put}
use Rattle.endian.specs.Endian.{words_of}
use Rattle.endian.proofs.words_of.Given as goal

abbrev pub invariant-loop-i : goal.invariant-loop-i
invariant-loop-i l = l.out ≡ put 0 (take l.i (words_of l.bytes)) l.initial.out
