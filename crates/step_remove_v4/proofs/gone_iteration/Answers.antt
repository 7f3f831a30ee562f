use Rattle.std.proofs.Common.{sym, ◌∙◌}
use Rattle.step_remove_v4.specs.One.{row-present, secondary-goes, other-stays}
use Rattle.step_remove_v4.proofs.gone_iteration.Goals as goal

pub remove_one-requires : goal.remove_one-requires
remove_one-requires c =
    let y = c.requires.some_room in
    rw (c.addresses.ensures.rows y.state (rw c.stored.ensures y.fits.holds)) (row-present y c.args.i c.requires.i_bound)

pub returns-then-goes_with : goal.returns-then-goes_with
returns-then-goes_with c =
    λ st f.
    let rows = c.addresses.ensures.rows st (rw c.stored.ensures f.holds) in
    secondary-goes c.args.a.now c.args.i c.requires.i_bound f (rw rows at (sym c.goes_with.ensures ∙ c.if-goes_with.true)) (rw rows at (c.remove_one.ensures st f))

pub returns-else-goes_with : goal.returns-else-goes_with
returns-else-goes_with c =
    λ st f.
    let rows = c.addresses.ensures.rows st (rw c.stored.ensures f.holds) in
    other-stays c.args.a.now c.args.i c.requires.i_bound f (rw rows at (sym c.goes_with.ensures ∙ c.if-goes_with.false))
