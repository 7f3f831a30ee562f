use Rattle.std.proofs.Common.{ap, ◌∙◌, arith}
use Rattle.definition.specs.Preservation.Shrinking.{potential}
use Rattle.definition.specs.Words.{address_count}
use Rattle.step_events.specs.Iterations.{going_ready}
use Rattle.step_expire.proofs.Loop.{next-less, expiring_start, expiring_facts, expiring_next, expiring_fewer, expiring_end}
use Rattle.step_expire.proofs.expire.Goals as goal

pub loop-i-init : goal.loop-i-init
loop-i-init c = λ st f. expiring_start c.args.allowance.0 c.args.clock.0 f

pub iteration-i-requires : goal.iteration-i-requires
iteration-i-requires c =
    let n = c.address_count.ensures ∙ ap address_count c.stored.ensures in
    record {
      some_room = going_ready potential (c.loop-i.invariant c.requires.state c.requires.fits);
      i_bound = omega (arith, c.loop-i-test.true);
    }

pub loop-i-smaller : goal.loop-i-smaller
loop-i-smaller c =
    let n = c.address_count.ensures ∙ ap address_count c.stored.ensures in
    let g = c.loop-i.invariant c.requires.state c.requires.fits in
    next-less c.loop-i.i (address_count c.loop-i.change.state.words.now) (address_count c.iteration-i.new.change.state.words.now) c.iteration-i.result
    (omega (arith, c.loop-i-test.true)) (expiring_facts c.args.allowance.0 c.args.clock.0 c.loop-i.i g).1
    (expiring_fewer c.args.allowance.0 c.args.clock.0 c.loop-i.i g (omega (arith, c.loop-i-test.true)) c.iteration-i.ensures.emits) c.iteration-i.ensures.next

pub loop-i-preserved : goal.loop-i-preserved
loop-i-preserved c =
    let n = c.address_count.ensures ∙ ap address_count c.stored.ensures in
    λ st f.
    expiring_next c.args.allowance.0 c.args.clock.0 c.loop-i.i (c.loop-i.invariant st f) (omega (arith, c.loop-i-test.true)) c.iteration-i.ensures.emits
    c.iteration-i.result c.iteration-i.ensures.next

pub returns : goal.returns
returns c =
    let n = c.address_count.ensures ∙ ap address_count c.stored.ensures in
    λ st f. expiring_end c.args.allowance.0 c.args.clock.0 c.loop-i.i (c.loop-i.invariant st f) (omega (arith, c.loop-i-test.false))
