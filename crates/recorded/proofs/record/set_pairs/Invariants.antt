-- The pairs that are left, put in what is there, give the words.
use Rattle.std.proofs.Common.{◌≡◌, drop}
use Rattle.std.specs.List.{fold}
use Rattle.recorded.specs.Laws.{set_pair}
use Rattle.recorded.proofs.record.set_pairs.Given as goal

abbrev pub invariant-loop-at : goal.invariant-loop-at
invariant-loop-at l = fold set_pair l.s (drop l.at-index l.pairs) ≡ fold set_pair l.initial.s l.pairs
