use Rattle.std.proofs.Common.{◌∙◌, sym}
use Rattle.rows_walk.specs.Walked.{not-above, walk-on, walk-weighs, walk_passes, walk-stops}
use Rattle.rows_walk.proofs.Walk.advance.Goals as goal
use Rattle.rows_walk.proofs.Walk.advance.Goals.{then-has, else-has}

pub loop-self-init : goal.loop-self-init
loop-self-init c = λ t m o up h k. walk-on t m o c.args.ip c.args.self.now h k

pub returns-then-ip-r : goal.returns-then-ip-r
returns-then-ip-r c = λ t l o up h k.
    walk-stops t l up c.args.ip c.loop-self.self (c.loop-self.invariant t l o up h k) c.in-len1-up.len_at_least c.if-ip-r.true

pub loop-self-preserved : goal.loop-self-preserved
loop-self-preserved c = λ t l o up h k.
    let j = c.loop-self.invariant t l o up h k in
    let left = c.in-len1-up.len_at_least in
    elim c.if-has.branch [
      | then-has w ↦ rw w.self-is (walk-weighs t l up c.args.ip j left c.if-ip-r.false (sym c.has.ensures ∙ w.if-has.true) (w.pass.ensures _ j.keeps (not-above t l up c.args.ip j left)))
      | else-has w ↦ rw w.self-is (walk_passes t l up c.args.ip j left c.if-ip-r.false (sym c.has.ensures ∙ w.if-has.false))
    ]
