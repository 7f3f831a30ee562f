use Rattle.std.proofs.Common.{sym, ◌∙◌}
use Rattle.step_add_v4.specs.Added.{at_place, added-change, added-refused, added_new}
use Rattle.step_add_v4.proofs.add_v4.Goals as goal

pub returns-then-q-ne1-clause-comes : goal.returns-then-q-ne1-clause-comes
returns-then-q-ne1-clause-comes c =
    λ st h g.
    let rows = c.addresses-there.ensures.rows st (rw c.stored.ensures h) in
    added-refused c.args.q.now c.args.clock.0 st c.in-Some.i (rw rows at (sym c.same_at.ensures ∙ c.in-Some.is)) c.if-q-ne1.true h

pub returns-in-Some-clause-comes : goal.returns-in-Some-clause-comes
returns-in-Some-clause-comes c =
    λ st h g.
    let rows = c.addresses-there.ensures.rows st (rw c.stored.ensures h) in
    let found = rw rows at (sym c.same_at.ensures ∙ c.in-Some.is) in
    added-change c.args.q.now c.args.clock.0 st c.in-Some.i found c.if-q-ne1.false (c.change_v4.ensures.comes st h g (at_place c.args.q.now c.args.clock.0 st c.in-Some.i found))

pub returns-clause-comes : goal.returns-clause-comes
returns-clause-comes c =
    λ st h g.
    let rows = c.addresses-there.ensures.rows st (rw c.stored.ensures h) in
    added_new c.args.q.now c.args.clock.0 st (rw rows at (sym c.same_at.ensures ∙ c.in_default.is)) c.fresh-new.result (rw rows at c.fresh-new.ensures.value) (c.new_address.ensures.adds_from st h g)
