use Rattle.std.specs.Prelude.{not, ◌&&◌, [], drop, ◌+◌, Bool}
use Rattle.std.proofs.Common.{arith, sym, ◌∙◌, ap}
use Rattle.lists.specs.Lists.{Row, all, eq_row}
use Rattle.lists.specs.Next.{all-next, all_end}
use Rattle.state_well_formed.specs.Order.{past-run, ordered-later}
use Rattle.state_well_formed.proofs.apart.Goals as goal

pub loop-r-preserved : goal.loop-r-preserved
loop-r-preserved c =
    let same = sym c.eq.ensures ∙ c.if-eq.false in
    c.loop-r.invariant
    ∙ all-next c.args.behind.now c.loop-r.r-index [] c.loop-r-test.true (λ (b : Row). not (eq_row c.args.row.now b))
    ∙ ap (λ (t : Bool). not t && all (λ (b : Row). not (eq_row c.args.row.now b)) (drop (c.loop-r.r-index + 1) c.args.behind.now)) same

pub returns-then-before : goal.returns-then-before
returns-then-before c = λ o.
    sym (c.loop-r.invariant
    ∙ past-run c.args.behind.now c.args.row.now c.loop-r.r-index (ordered-later c.args.behind.now 0 c.loop-r.r-index (omega arith) o) c.loop-r-test.true (sym c.before-in-loop-r.ensures ∙ c.if-before.true))

pub returns-then-eq : goal.returns-then-eq
returns-then-eq c = λ o.
    let same = sym c.eq.ensures ∙ c.if-eq.true in
    sym (c.loop-r.invariant
    ∙ all-next c.args.behind.now c.loop-r.r-index [] c.loop-r-test.true (λ (b : Row). not (eq_row c.args.row.now b))
    ∙ ap (λ (t : Bool). not t && all (λ (b : Row). not (eq_row c.args.row.now b)) (drop (c.loop-r.r-index + 1) c.args.behind.now)) same)

pub returns : goal.returns
returns c = λ o.
    sym (c.loop-r.invariant ∙ all_end (λ (b : Row). not (eq_row c.args.row.now b)) c.args.behind.now c.loop-r.r-index (omega (arith, c.loop-r-test.false)))
