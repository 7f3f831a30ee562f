use Rattle.std.specs.Prelude.{◌≡◌, true, false, ◌+◌, ◌-◌, ℕ, drop}
use Rattle.std.proofs.Common.{arith, sym, ap, ◌∙◌}
use Rattle.definition.specs.Words.{none_twice}
use Rattle.state_well_formed.specs.Twice.{marked, marked-end, marked-back, twice_end, twice_back, twice_later, rest_of}
use Rattle.state_well_formed.proofs.none_twice.Goals as goal

pub loop-i-init : goal.loop-i-init
loop-i-init c = (twice_end c.args.l.now, marked-end 0 c.args.l.now)

pub again-requires : goal.again-requires
again-requires c =
    let on : c.loop-i.i - 1 + 1 ≡ c.loop-i.i = omega arith in
    rw (rest_of (c.loop-i.i - 1 + 1) c.args.l.now) (ap (λ (k : ℕ). marked c.loop-i.seen (drop k c.args.l.now)) on ∙ c.loop-i.invariant.1)

pub returns-then-again : goal.returns-then-again
returns-then-again c =
    let found = rw (rest_of (c.loop-i.i - 1 + 1) c.args.l.now) at c.again.ensures in
    sym (twice_later c.args.l.now (c.loop-i.i - 1) (twice_back c.args.l.now c.loop-i.i c.loop-i-test.true (omega arith) true found c.if-again.true))

pub loop-i-preserved : goal.loop-i-preserved
loop-i-preserved c =
    let found = rw (rest_of (c.loop-i.i - 1 + 1) c.args.l.now) at c.again.ensures in
    (twice_back c.args.l.now c.loop-i.i c.loop-i-test.true (omega arith) false found c.if-again.false ∙ c.loop-i.invariant.0, marked-back c.args.l.now c.loop-i.i c.loop-i-test.true (omega arith) c.loop-i.seen c.loop-i.invariant.1)

pub returns : goal.returns
returns c =
    let none : c.loop-i.i ≡ 0 = omega (arith, c.loop-i-test.false) in
    sym (ap (λ (k : ℕ). none_twice (drop k c.args.l.now)) (sym none) ∙ c.loop-i.invariant.0)
