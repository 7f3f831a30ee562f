use Rattle.std.specs.Prelude.{get_or, None}
use Rattle.std.proofs.Common.{◌≡◌, ◌-◌, arith, rules}
use Rattle.layout.specs.Route.{len}
use Rattle.definition.specs.Preservation.Fit.{route-len}
use Rattle.rows_walk.specs.Keeps.{is_new, pass_first, pass_later}
use Rattle.rows_walk.proofs.Kept.pass.Goals as goal

pub overflow_sub-place : goal.overflow_sub-place
overflow_sub-place c = omega (arith, route-len c.args.r.now c.requires.fit)

pub returns-then-first-r : goal.returns-then-first-r
returns-then-first-r c = λ l k h.
    let new : c.is_none_or-first.result ≡ is_new (get_or c.args.self.now.rows (32 - len c.args.r.now) None) c.args.r.now = search rules in
    pass_first l c.args.self.now.rows k c.args.r c.requires.fit h _ (omega (arith, route-len c.args.r.now c.requires.fit)) (rw new at c.if-first-r.true)

pub returns-else-first-r : goal.returns-else-first-r
returns-else-first-r c = λ l k h.
    let new : c.is_none_or-first.result ≡ is_new (get_or c.args.self.now.rows (32 - len c.args.r.now) None) c.args.r.now = search rules in
    pass_later l c.args.self.now.rows k c.args.r c.requires.fit h (32 - len c.args.r.now) (omega (arith, route-len c.args.r.now c.requires.fit)) (rw new at c.if-first-r.false)
