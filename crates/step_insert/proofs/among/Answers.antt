use Rattle.std.proofs.Common.{refl, sym, ◌∙◌}
use Rattle.step_insert.specs.Plan.{turned, check-off, check-on}
use Rattle.step_insert.proofs.among.Goals as goal

pub returns-in_err-unless : goal.returns-in_err-unless
returns-in_err-unless c =
    let h = check-off c.unless.ensures c.in_err-unless.was c.from_residual.ensures in
    rw (sym (c.has.ensures 9 refl) ∙ (turned c.has.result h.0)) h.1

pub returns-then-has : goal.returns-then-has
returns-then-has c =
    let excl = turned c.has.result (check-on _ c.unless.ensures c.in_ok-unless.was) in
    rw (sym (c.has.ensures 9 refl) ∙ excl, sym (c.has-2.ensures 8 refl) ∙ c.if-has.true) c.replacing.ensures

pub returns-in_err-unless-2 : goal.returns-in_err-unless-2
returns-in_err-unless-2 c =
    let excl = turned c.has.result (check-on _ c.unless.ensures c.in_ok-unless.was) in
    let h = check-off c.unless-2.ensures c.in_err-unless-2.was c.from_residual-in_err-unless-2.ensures in
    rw (sym (c.has.ensures 9 refl) ∙ excl, sym (c.has-2.ensures 8 refl) ∙ c.if-has.false, turned c.args.there h.0) h.1

pub returns-then-has-2 : goal.returns-then-has-2
returns-then-has-2 c =
    let excl = turned c.has.result (check-on _ c.unless.ensures c.in_ok-unless.was) in
    let there = turned c.args.there (check-on _ c.unless-2.ensures c.in_ok-unless-2.was) in
    rw (sym (c.has.ensures 9 refl) ∙ excl, sym (c.has-2.ensures 8 refl) ∙ c.if-has.false, there, sym (c.has-3.ensures 11 refl) ∙ c.if-has-2.true)
    c.created.ensures

pub returns : goal.returns
returns c =
    let excl = turned c.has.result (check-on _ c.unless.ensures c.in_ok-unless.was) in
    let there = turned c.args.there (check-on _ c.unless-2.ensures c.in_ok-unless-2.was) in
    rw (sym (c.has.ensures 9 refl) ∙ excl, sym (c.has-2.ensures 8 refl) ∙ c.if-has.false, there, sym (c.has-3.ensures 11 refl) ∙ c.if-has-2.false)
    c.created-2.ensures
