use Rattle.std.proofs.Common.{arith, sym, ap, subst, ◌∙◌, Ok, Err}
use Rattle.std.proofs.lemmas.Result.{err_from_is_err_and}
use Rattle.lists.specs.Lists.{Row}
use Rattle.layout.specs.Route.{fit_route}
use Rattle.definition.specs.Reference.Insert.{kernel_add4, kernel_del4}
use Rattle.step_events.specs.Emits.{Emits}
use Rattle.step_new_address.specs.Adding.{AddsFrom}
use Rattle.step_new_address.specs.Change.{route-fits, moved_none, moved_other, moved-both, del-count, del-long}
use Rattle.step_new_address.proofs.moved.Goals as goal

pub returns-then-not-reroutes-clause-adds_from : goal.returns-then-not-reroutes-clause-adds_from
returns-then-not-reroutes-clause-adds_from c = moved_none c.args.q.now c.args.old.now (sym c.reroutes.ensures ∙ c.if-not-reroutes.true)

pub kernel_add4-requires-clause-value : goal.kernel_add4-requires-clause-value
kernel_add4-requires-clause-value c = ap fit_route c.prefix_route4-new.ensures ∙ route-fits c.args.old.now c.requires.value _ _

pub returns-in_err-kernel_add4-clause-adds_from : goal.returns-in_err-kernel_add4-clause-adds_from
returns-in_err-kernel_add4-clause-adds_from c =
    let p = err_from_is_err_and c.from_residual.result c.from_residual.ensures.1 in
    rw (p.1, p.2)
    (moved_other c.args.q.now c.args.old.now (sym c.reroutes.ensures ∙ c.if-not-reroutes.false)
    (subst (λ (r : Row). AddsFrom (kernel_add4 r) c.args.change.now c.kernel_add4.new.change (Err c.in_err-kernel_add4.field-0.0)) c.prefix_route4-new.ensures (λ st h f. c.in_err-kernel_add4.ensures.comes st h f)))

pub returns-clause-adds_from : goal.returns-clause-adds_from
returns-clause-adds_from c =
    moved-both c.args.q.now c.args.old.now (sym c.reroutes.ensures ∙ c.if-not-reroutes.false)
    (subst (λ (r : Row). AddsFrom (kernel_add4 r) c.args.change.now c.kernel_add4.new.change (Ok tt)) c.prefix_route4-new.ensures (λ st h f. c.in_ok-kernel_add4.ensures.comes st h f))
    (λ st h. subst (λ (r : Row). Emits (kernel_del4 r st) c.kernel_add4.new.change c.kernel_del4.new.change) c.prefix_route4-gone.ensures (c.kernel_del4.ensures.emits st h))

pub returns-clause-told : goal.returns-clause-told
returns-clause-told c =
    record {
      told = omega arith;
      long = del-long c.prefix_route4-gone.result c.kernel_del4.ensures.emits ∙ c.kernel_add4.ensures.told.long;
    }

pub returns-clause-addresses : goal.returns-clause-addresses
returns-clause-addresses c = del-count c.prefix_route4-gone.result c.kernel_del4.ensures.emits ∙ c.kernel_add4.ensures.addresses
