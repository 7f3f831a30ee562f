use Rattle.std.proofs.Common.{◌≡◌, ◌+◌, length, replicate}
use Rattle.lists.specs.Lists.{put}
use Rattle.netlink_route.specs.PairLaws.{pairs_before}
use Rattle.netlink_route.proofs.metrics.Metrics.pairs.Given as goal

abbrev pub invariant-loop-k : goal.invariant-loop-k
invariant-loop-k l = record {
  long : length l.words ≡ 36;
  behind : l.at ≡ 2 + length (pairs_before l.self.values l.k);
  so_far : l.words ≡ put 2 (pairs_before l.self.values l.k) (replicate 36 0);
}
