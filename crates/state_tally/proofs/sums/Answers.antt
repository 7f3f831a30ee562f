use Rattle.std.specs.Prelude.{ℕ, ◌+◌, ◌<◌, List, length, get_or, set}
use Rattle.std.proofs.Common.{ap, ◌∙◌, arith}
use Rattle.state_tally.specs.Tally.{sums-start, sums-more, sums-end, sums-few}
use Rattle.state_tally.proofs.sums.Goals as goal

pub loop-i-init : goal.loop-i-init
loop-i-init c = sums-start c.args.a.now c.args.b.now

pub loop-i-preserved : goal.loop-i-preserved
loop-i-preserved c =
    let a = c.args.a.now in
    let b = c.args.b.now in
    let i = c.loop-i.i in
    ap (λ (l : List ℕ). set l i (get_or l i 0 + get_or b i 0)) c.loop-i.invariant
    ∙ sums-more i a b (omega (arith, c.told-a, c.loop-i-test.true)) (omega (arith, c.told-b, c.loop-i-test.true))

pub overflow_add-sums : goal.overflow_add-sums
overflow_add-sums c =
    let a = c.args.a.now in
    let b = c.args.b.now in
    let i = c.loop-i.i in
    let inside-a : i < length a = omega (arith, c.told-a, c.loop-i-test.true) in
    let inside-b : i < length b = omega (arith, c.told-b, c.loop-i-test.true) in
    record { fits = omega (arith, sums-few i a b c.loop-i.invariant inside-a inside-b c.requires.0 c.requires.1) }

pub returns : goal.returns
returns c = sums-end c.loop-i.i c.args.a.now c.args.b.now c.loop-i.invariant (omega (arith, c.told-b, c.loop-i-test.false, c.loop-i.auto.i-end))
