use Rattle.std.proofs.Common.{sym, ◌∙◌, arith}
use Rattle.definition.specs.Words.{address_count}
use Rattle.step_remove_v4.specs.One.{row-present}
use Rattle.step_expire.proofs.Loop.{next-again, next-on, iteration-there, iteration-due, iteration-stays, iteration-deprecates, removal-fewer, marked-same}
use Rattle.step_expire.proofs.iteration.Goals as goal
use Rattle.step_expire.proofs.iteration.Goals.{then-deprecates, else-deprecates}

pub remove_v4-requires : goal.remove_v4-requires
remove_v4-requires c =
    let y = c.requires.some_room in
    rw (c.addresses.ensures.rows y.state (rw c.stored.ensures y.fits.holds)) (row-present y c.args.i c.requires.i_bound)

pub returns-then-due-clause-next : goal.returns-then-due-clause-next
returns-then-due-clause-next c =
    let y = c.requires.some_room in
    let rows = c.addresses.ensures.rows y.state (rw c.stored.ensures y.fits.holds) in
    let there = iteration-there c.requires.i_bound y.fits in
    next-again c.args.i (address_count c.args.change.now.state.words.now) (address_count c.remove_v4.new.change.state.words.now)
    (removal-fewer c.requires.i_bound y.fits (rw rows at (c.remove_v4.ensures y.state y.fits) there))

pub returns-then-due-clause-emits : goal.returns-then-due-clause-emits
returns-then-due-clause-emits c =
    λ st f.
    let rows = c.addresses.ensures.rows st (rw c.stored.ensures f.holds) in
    let there = iteration-there c.requires.i_bound f in
    iteration-due c.requires.i_bound f _ _ (rw rows at (sym c.due.ensures ∙ c.if-due.true))
    (rw rows at (c.remove_v4.ensures st f) there)

pub returns-clause-next : goal.returns-clause-next
returns-clause-next c =
    let y = c.requires.some_room in
    let rows = c.addresses.ensures.rows y.state (rw c.stored.ensures y.fits.holds) in
    elim c.if-deprecates.branch [
      | then-deprecates w ↦
          next-on c.args.i (address_count c.args.change.now.state.words.now) (address_count c.if-deprecates.change.state.words.now)
          (rw w.change-is (omega (arith, marked-same c.requires.i_bound y.fits w.mark.new.change (rw rows at (w.mark.ensures.represents y.state y.fits.holds)))))
      | else-deprecates w ↦
          next-on c.args.i (address_count c.args.change.now.state.words.now) (address_count c.if-deprecates.change.state.words.now) (rw w.change-is (omega arith))
    ]

pub returns-clause-emits : goal.returns-clause-emits
returns-clause-emits c =
    λ st f.
    let rows = c.addresses.ensures.rows st (rw c.stored.ensures f.holds) in
    let d = rw rows at (sym c.due.ensures ∙ c.if-due.false) in
    elim c.if-deprecates.branch [
      | then-deprecates w ↦
          rw w.change-is
          (iteration-deprecates c.requires.i_bound f _ _ d (rw rows at (sym c.deprecates.ensures ∙ w.if-deprecates.true))
          (rw rows at (w.mark.ensures.represents st f.holds)) (rw rows at w.mark.ensures.tells))
      | else-deprecates w ↦
          rw w.change-is
          (iteration-stays c.requires.i_bound f _ _ d (rw rows at (sym c.deprecates.ensures ∙ w.if-deprecates.false)))
    ]
