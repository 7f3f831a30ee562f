use Rattle.std.proofs.Common.{arith, rules, refl, ap, ◌+◌, ◌∙◌}
use Rattle.definition.specs.Words.{address_count}
use Rattle.refusal.specs.Refusal.{passed_on}
use Rattle.state.specs.Represents.{sizes_of}
use Rattle.state.specs.Stored.{represented}
use Rattle.step_add_v4.specs.Every.{turns-start, turns-next, turns-end, turns-other}
use Rattle.step_add_v4.proofs.install_all.Goals as goal

pub loop-i-init : goal.loop-i-init
loop-i-init c = record { brought = turns-start c.args.change.now; told = search rules; addresses = refl }

pub install_at-requires-clause-i_bound : goal.install_at-requires-clause-i_bound
install_at-requires-clause-i_bound c =
    omega (arith, c.loop-i.invariant.addresses, c.addresses.ensures.count, ap address_count c.stored.ensures)

pub install_at-requires-clause-in_bounds : goal.install_at-requires-clause-in_bounds
install_at-requires-clause-in_bounds c =
    omega (arith, c.loop-i.invariant.told, c.addresses.ensures.count, sizes_of (represented c.stored.result.holds))

pub returns-in_err-install_at-clause-adds_from : goal.returns-in_err-install_at-clause-adds_from
returns-in_err-install_at-clause-adds_from c =
    rw (passed_on c.in_err-install_at.was c.from_residual.ensures.1)
    (turns-other (c.loop-i.i + 1) c.in_err-install_at.was (turns-next c.loop-i.invariant.brought (omega (arith, c.addresses.ensures.count, ap address_count c.stored.ensures)) c.install_at.ensures.adds_from))

pub loop-i-preserved : goal.loop-i-preserved
loop-i-preserved c =
    record {
      brought = record { adds = rw c.in_ok-install_at.was at (turns-next c.loop-i.invariant.brought (omega (arith, c.addresses.ensures.count, ap address_count c.stored.ensures)) c.install_at.ensures.adds_from) };
      told = search rules;
      addresses = c.install_at.ensures.addresses ∙ c.loop-i.invariant.addresses;
    }

pub returns-clause-told : goal.returns-clause-told
returns-clause-told c = record { told = omega (arith, c.loop-i.invariant.told, c.addresses.ensures.count, sizes_of (represented c.stored.result.holds)); long = c.loop-i.invariant.told.long }

pub returns-clause-adds_from : goal.returns-clause-adds_from
returns-clause-adds_from c = turns-end c.loop-i.invariant.brought (omega (arith, c.addresses.ensures.count, ap address_count c.stored.ensures))
