use Rattle.std.proofs.Common.{arith, rules, refl, ◌+◌, ◌∙◌}
use Rattle.std.proofs.lemmas.Result.{err_from_is_err_and}
use Rattle.step_new_address.specs.Install.{sofar-start, sofar-next, sofar-other, sofar-end}
use Rattle.step_new_address.proofs.install.Goals as goal

pub loop-row-init : goal.loop-row-init
loop-row-init c = record { adds = sofar-start c.args.routes.rows.now c.args.change.now; told = search rules; addresses = refl }

pub returns-in_err-kernel_add4-clause-adds_from : goal.returns-in_err-kernel_add4-clause-adds_from
returns-in_err-kernel_add4-clause-adds_from c =
    let p = err_from_is_err_and c.from_residual.result c.from_residual.ensures.1 in
    rw (p.1, p.2)
    (sofar-other c.args.routes.rows.now (c.loop-row.row-index + 1)
    (sofar-next c.args.routes.rows.now c.args.routes.fit c.loop-row.row-index c.loop-row.invariant.adds (omega (arith, c.loop-row-test.true)) (λ st h f. c.in_err-kernel_add4.ensures.comes st h f)))

pub loop-row-preserved : goal.loop-row-preserved
loop-row-preserved c =
    record {
      adds = sofar-next c.args.routes.rows.now c.args.routes.fit c.loop-row.row-index c.loop-row.invariant.adds (omega (arith, c.loop-row-test.true)) (λ st h f. c.in_ok-kernel_add4.ensures.comes st h f);
      told = search rules;
      addresses = c.kernel_add4.ensures.addresses ∙ c.loop-row.invariant.addresses;
    }

pub returns-clause-adds_from : goal.returns-clause-adds_from
returns-clause-adds_from c = sofar-end c.args.routes.rows.now c.args.routes.fit c.loop-row.row-index c.loop-row.invariant.adds (omega (arith, c.loop-row-test.false))
