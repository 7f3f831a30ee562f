use Rattle.std.proofs.Common.{refl, sym, ◌∙◌}
use Rattle.step_insert.specs.Plan.{check-off, check-on}
use Rattle.step_insert.proofs.created.Goals as goal

pub returns-in_err-unless : goal.returns-in_err-unless
returns-in_err-unless c =
    let h = check-off c.unless.ensures c.in_err-unless.was c.from_residual.ensures in
    rw (sym (c.has.ensures 10 refl) ∙ h.0) h.1

pub returns : goal.returns
returns c = rw (sym (c.has.ensures 10 refl) ∙ (check-on _ c.unless.ensures c.in_ok-unless.was))
