use Rattle.std.proofs.Common.{arith, refl, sym, ap, subst, ◌∙◌, List, ℕ, length}
use Rattle.lists.specs.Lists.{Row}
use Rattle.definition.specs.Reference.Addresses.{candidates, install}
use Rattle.state.specs.Represents.{Represents}
use Rattle.step_events.specs.Emits.{tells-ahead}
use Rattle.step_new_address.specs.Adding.{AddsFrom}
use Rattle.step_new_address.specs.New.{placed, new_full, routes-fit, placed-holds, new_done}
use Rattle.step_new_address.proofs.new_address.Goals as goal

pub returns-then-addresses-ge-ADDRESS_LIMIT-clause-adds_from : goal.returns-then-addresses-ge-ADDRESS_LIMIT-clause-adds_from
returns-then-addresses-ge-ADDRESS_LIMIT-clause-adds_from c =
    λ st h f.
    let rows = c.addresses-addresses.ensures.rows st (rw c.stored.ensures h) in
    new_full c.args.new.now c.args.up st (omega (arith, c.if-addresses-ge-ADDRESS_LIMIT.true, ap length rows))

pub invariant_of-install : goal.invariant_of-install
invariant_of-install c =
    record { fit = rw (c.as_slice.ensures.value, c.candidates-block.ensures) (routes-fit c.addresses.result.rows.now c.args.up c.args.new.now c.requires.value) }

pub returns-clause-adds_from : goal.returns-clause-adds_from
returns-clause-adds_from c =
    λ st h f.
    let rows = c.addresses-addresses.ensures.rows st (rw c.stored.ensures h) in
    let e = rw rows at c.place4-place.ensures.value in
    let put = placed-holds c.args.new.now c.args.up st c.requires.value c.place4-place.result e (c.insert_address.ensures.holds st h) in
    let there = subst (λ (w : List ℕ). Represents w (placed c.args.new.now st)) (sym (c.stored-2.ensures ∙ c.new_addr4.ensures.state)) put in
    let placed-rows = c.addresses.ensures.rows (placed c.args.new.now st) there in
    let block = c.as_slice.ensures.value ∙ c.candidates-block.ensures ∙ ap (λ (l : List Row). candidates l c.args.up c.args.new.now) placed-rows in
    new_done c.args.new.now c.args.up st c.requires.value c.place4-place.result e f
    (subst (λ (w : List ℕ). Represents w (placed c.args.new.now st)) (sym c.new_addr4.ensures.state) put)
    (tells-ahead c.new_addr4.ensures.tells refl refl c.insert_address.ensures.place refl)
    (subst (λ (l : List Row). AddsFrom (install l) c.new_addr4.new.self c.install.new.change c.install.result) block c.install.ensures.adds_from)
