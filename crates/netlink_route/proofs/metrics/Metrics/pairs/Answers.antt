use Rattle.std.proofs.Common.{arith, refl, ap, ◌∙◌, ◌+◌, ◌<◌, ◌≤◌, length}
use Rattle.netlink_route.specs.PairLaws.{pairs_before, pairs-room, pairs-begun, pairs-put, pairs-long, pairs_next, pairs-ended, pairs-refused, cleared}
use Rattle.netlink_route.proofs.metrics.Metrics.pairs.Goals as goal

pub returns-then-self : goal.returns-then-self
returns-then-self c = c.clear.ensures ∙ pairs-refused c.args.self.now c.args.words.now c.requires c.if-self.true

pub loop-k-init : goal.loop-k-init
unfolding pairs_before
loop-k-init c =
    let zero = c.clear.ensures ∙ cleared c.args.words.now c.requires in
    record { long = ap length zero; behind = refl; so_far = zero ∙ pairs-begun c.args.self.now.values }

pub append-at-requires : goal.append-at-requires
append-at-requires c =
    (omega arith, omega arith, omega (arith, c.loop-k.invariant.long, c.loop-k.invariant.behind, pairs-room c.args.self.now.values c.loop-k.k (omega arith)))

pub loop-k-preserved : goal.loop-k-preserved
loop-k-preserved c =
    let v = c.args.self.now.values in
    let least : 1 ≤ c.loop-k.k = omega arith in
    let below : c.loop-k.k < 18 = omega arith in
    let more = c.append-at.ensures.words_after ∙ pairs-put v _ c.loop-k.words c.loop-k.at c.loop-k.k refl least below c.loop-k.invariant.behind c.loop-k.invariant.so_far in
    record {
      long = ap length more ∙ pairs-long v _ (c.loop-k.k + 1) refl (omega arith) (omega arith);
      behind = c.append-at.ensures.value ∙ pairs_next v c.loop-k.at c.loop-k.k least below c.loop-k.invariant.behind;
      so_far = more;
    }

pub overflow_cast-words : goal.overflow_cast-words
overflow_cast-words c =
    omega (arith, c.loop-k.invariant.behind, pairs-room c.args.self.now.values c.loop-k.k (omega arith))

pub returns : goal.returns
returns c =
    pairs-ended c.args.self.now c.loop-k.words c.loop-k.at c.loop-k.k (omega arith) c.loop-k.invariant.behind c.loop-k.invariant.so_far c.if-self.false
