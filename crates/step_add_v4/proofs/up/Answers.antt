use Rattle.definition.specs.Reference.Addresses.{add_v4, loopback}
use Rattle.definition.specs.Preservation.Addresses.{loopback-fit}
use Rattle.refusal.specs.Refusal.{passed_on}
use Rattle.step_add_v4.specs.Added.{added-step}
use Rattle.step_add_v4.specs.Every.{up-other, up_done}
use Rattle.step_add_v4.proofs.up.Goals as goal

pub add_v4-requires-clause-q_fit : goal.add_v4-requires-clause-q_fit
add_v4-requires-clause-q_fit c = loopback-fit

pub returns-in_err-step_of-clause-adds_from : goal.returns-in_err-step_of-clause-adds_from
returns-in_err-step_of-clause-adds_from c =
    rw (passed_on c.in_err-step_of.was c.from_residual.ensures.1)
    (up-other c.args.clock.0 (λ st h g. added-step (add_v4 loopback c.args.clock.0 st) c.add_v4.result c.step_of.result c.step_of.ensures (c.add_v4.ensures.comes st h g)) c.in_err-step_of.was)

pub returns-clause-adds_from : goal.returns-clause-adds_from
returns-clause-adds_from c =
    up_done c.args.clock.0 (λ st h g. added-step (add_v4 loopback c.args.clock.0 st) c.add_v4.result c.step_of.result c.step_of.ensures (c.add_v4.ensures.comes st h g)) c.in_ok-step_of.was c.install_all.ensures.adds_from
