use Rattle.std.specs.Prelude.{◌<◌, length}
use Rattle.std.proofs.Common.{arith}
use Rattle.lists.specs.Lists.{zeros}
use Rattle.state_tally.specs.Tally.{tally-start, tally-at, tallied-at, tallied-few, tallied-both}
use Rattle.state_tally.proofs.by_hints.Goals as goal

pub loop-k-init : goal.loop-k-init
unfolding zeros
loop-k-init c =
    let parts = c.split_at.result in
    (tally-start parts.0.now c.args.tables.now c.requires.1, tally-start parts.1.now c.args.tables.now c.requires.1)

pub loop-k-preserved : goal.loop-k-preserved
loop-k-preserved c =
    let parts = c.split_at.result in
    let k = c.loop-k.k in
    let ts = c.args.tables.now in
    let inside : k < length parts.1.now = omega (arith, c.loop-k-test.true, c.split_at.ensures.front_len, c.split_at.ensures.back_len) in (
      tally-at parts.0.now ts k c.loop-k-test.true c.loop-k.invariant.0 c.in_ok-i.i c.requires.1 c.in_ok-i.ensures.0 c.in_ok-i.ensures.1,
      tally-at parts.1.now ts k inside c.loop-k.invariant.1 c.in_ok-j.j c.requires.1 c.in_ok-j.ensures.0 c.in_ok-j.ensures.1,
    )

pub loop-last-init : goal.loop-last-init
loop-last-init c = tallied-at (omega (arith, c.loop-k-test.false, c.loop-k.auto.k-end)) c.loop-k.invariant.1

pub loop-last-preserved : goal.loop-last-preserved
loop-last-preserved c =
    tally-at c.split_at.result.1.now c.args.tables.now c.loop-last.last c.loop-last-test.true c.loop-last.invariant c.in_ok-j-2.j c.requires.1 c.in_ok-j-2.ensures.0 c.in_ok-j-2.ensures.1

pub sums-requires : goal.sums-requires
sums-requires c = (
  tallied-few (omega (arith, c.requires.0, c.loop-k.auto.k-end, c.split_at.ensures.front_len)) c.loop-k.invariant.0,
  tallied-few (omega (arith, c.requires.0, c.loop-last.auto.last-end, c.split_at.ensures.back_len)) c.loop-last.invariant,
)

pub returns : goal.returns
returns c =
    tallied-both c.args.routes.now c.args.tables.now _ c.split_at.ensures.front c.split_at.ensures.back
    (omega (arith, c.loop-k-test.false, c.loop-k.auto.k-end)) c.loop-k.invariant.0
    (omega (arith, c.loop-last-test.false, c.loop-last.auto.last-end)) c.loop-last.invariant c.sums.ensures
