use Rattle.std.proofs.Common.{refl, sym, ap, ◌∙◌, position}
use Rattle.definition.specs.Reference.Insert.{matches}
use Rattle.step_events.specs.Emits.{tells-behind}
use Rattle.step_kernel_del.specs.Delete.{none-matches, one-matches}
use Rattle.step_kernel_del.proofs.kernel_del4.Goals as goal

pub returns-in_default-clause-emits : goal.returns-in_default-clause-emits
returns-in_default-clause-emits c =
    λ st h.
    let rows = c.routes-routes.ensures.rows st (rw c.stored.ensures h) in
    none-matches c.args.p.now st h (sym (c.in_default.ensures ∙ ap (position (matches c.args.p.now)) rows))

pub returns-clause-emits : goal.returns-clause-emits
returns-clause-emits c =
    λ st h.
    let rows = c.routes-routes.ensures.rows st (rw c.stored.ensures h) in
    one-matches c.args.p.now st h c.in-Some.i (sym (c.in-Some.ensures ∙ ap (position (matches c.args.p.now)) rows))
    (c.remove_route.ensures.holds st (rw c.del_route4.ensures.state h))
    (tells-behind (rw rows at c.del_route4.ensures.tells) refl refl c.remove_route.ensures.place refl)
