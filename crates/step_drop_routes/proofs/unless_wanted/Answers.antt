use Rattle.std.proofs.Common.{sym, ◌∙◌}
use Rattle.step_kernel_del.specs.Delete.{deletes, ready_row}
use Rattle.step_drop_routes.specs.Iterations.{wanted-stays, unwanted-goes}
use Rattle.step_drop_routes.proofs.unless_wanted.Goals as goal

pub returns-then-stays : goal.returns-then-stays
returns-then-stays c =
    λ st f.
    let rows = c.addresses.ensures.rows st (rw c.stored.ensures f.holds) in
    wanted-stays c.args.r.now f (rw rows at (sym c.wanted-stays.ensures ∙ c.if-stays.true))

pub kernel_del4-requires : goal.kernel_del4-requires
kernel_del4-requires c = record { in_bounds = λ b. ready_row c.requires b }

pub returns : goal.returns
returns c =
    λ st f.
    let rows = c.addresses.ensures.rows st (rw c.stored.ensures f.holds) in
    unwanted-goes c.args.r.now (rw rows at (sym c.wanted-stays.ensures ∙ c.if-stays.false)) (deletes c.args.r.now f (c.kernel_del4.ensures.emits st f.holds))
