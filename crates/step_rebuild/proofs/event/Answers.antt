-- `step_rebuild::event` meets its contract.
use Rattle.std.proofs.Common.{arith}
use Rattle.definition_recording.specs.Recording.{fit_address_event}
use Rattle.step_rebuild.specs.Laws.{checked-came, of-address, of-new-route, of_del_route, of_link_down, of-ip-disabled, of-no-kind}
use Rattle.step_rebuild.proofs.event.Goals as goal

pub returns-in-1-clause-came : goal.returns-in-1-clause-came
returns-in-1-clause-came c =
    λ l h.
    let e = c.args.e.now in
    rw (of-address e l (omega arith) (omega arith)) (checked-came (fit_address_event e) l c.fit_address.result h c.fit_address.ensures)

pub returns-in-3-clause-came : goal.returns-in-3-clause-came
returns-in-3-clause-came c = λ l h. rw (of-new-route c.args.e.now l (omega arith)) (c.new_route4.ensures.came l h)

pub returns-in-4-clause-came : goal.returns-in-4-clause-came
returns-in-4-clause-came c = λ l h. rw (of_del_route c.args.e.now l (omega arith)) (c.del_route4.ensures.came l h)

pub returns-in-5-clause-came : goal.returns-in-5-clause-came
returns-in-5-clause-came c = λ l h. rw (of_link_down c.args.e.now l (omega arith)) (c.link_down.ensures.came l h)

pub returns-in-6-clause-came : goal.returns-in-6-clause-came
returns-in-6-clause-came c = λ l h. rw (of-ip-disabled c.args.e.now l (omega arith)) (c.ip_disabled.ensures.came l h)

pub returns-in_default-clause-came : goal.returns-in_default-clause-came
returns-in_default-clause-came c =
    λ l h.
    (of-no-kind c.args.e.now l (λ z. omega arith) (λ z. omega arith) (λ z. omega arith) (λ z. omega arith) (λ z. omega arith) (λ z. omega arith), λ z. omega (arith, z))

pub returns-in_default-2-clause-came : goal.returns-in_default-2-clause-came
returns-in_default-2-clause-came c =
    λ l h.
    (of-no-kind c.args.e.now l (λ z. omega arith) (λ z. omega arith) (λ z. omega arith) (λ z. omega arith) (λ z. omega arith) (λ z. omega arith), λ z. omega (arith, z))
