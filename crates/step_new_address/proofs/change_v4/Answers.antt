use Rattle.std.proofs.Common.{arith, refl, sym, ap, subst, ◌∙◌, List, ℕ, [], get_or, set, Ok, Err}
use Rattle.std.proofs.lemmas.Result.{err_from_is_err_and}
use Rattle.lists.specs.Lists.{Row}
use Rattle.lists.specs.At.{all-at}
use Rattle.layout.specs.Address.{fit_address}
use Rattle.definition.specs.State.{with_addresses}
use Rattle.definition.specs.Words.{address_count}
use Rattle.state.specs.Represents.{Represents}
use Rattle.definition.specs.Reference.Addresses.{goes, changed_to, change_v4}
use Rattle.step_events.specs.Comes.{Comes}
use Rattle.step_events.specs.Emits.{tells-ahead}
use Rattle.step_new_address.specs.Change.{changed-fit, change-other, change-done}
use Rattle.step_new_address.proofs.change_v4.Goals as goal

pub returns-in_err-moved-clause-comes : goal.returns-in_err-moved-clause-comes
returns-in_err-moved-clause-comes c =
    let fit = all-at fit_address c.args.i c.addresses.result.rows.now [] (omega (arith, c.addresses.ensures.count, ap address_count c.stored.ensures, c.requires.i_bound)) c.addresses.result.fit in
    let p = err_from_is_err_and c.from_residual.result c.from_residual.ensures.1 in
    λ st h f at.
    let rows = c.addresses.ensures.rows st (rw c.stored.ensures h) in
    rw (p.1, p.2)
    (subst (λ (l : List Row). Comes (goes (change_v4 c.args.q.now (get_or l c.args.i []) c.args.clock.0 st)) c.args.change.now c.moved.new.change (Err c.in_err-moved.field-0.0)) rows
    (change-other c.args.q.now c.args.clock.0 (get_or c.addresses.result.rows.now c.args.i []) c.requires.q_value fit (λ s k g. c.in_err-moved.ensures.adds_from s k g) st h f))

pub replace_address-requires-clause-row_value : goal.replace_address-requires-clause-row_value
replace_address-requires-clause-row_value c =
    let fit = all-at fit_address c.args.i c.addresses.result.rows.now [] (omega (arith, c.addresses.ensures.count, ap address_count c.stored.ensures, c.requires.i_bound)) c.addresses.result.fit in
    ap fit_address c.changed_to-row.ensures ∙ changed-fit c.args.q.now c.args.clock.0 (get_or c.addresses.result.rows.now c.args.i []) c.requires.q_value fit

pub returns-clause-comes : goal.returns-clause-comes
returns-clause-comes c =
    let fit = all-at fit_address c.args.i c.addresses.result.rows.now [] (omega (arith, c.addresses.ensures.count, ap address_count c.stored.ensures, c.requires.i_bound)) c.addresses.result.fit in
    λ st h f at.
    let rows = c.addresses.ensures.rows st (rw c.stored.ensures h) in
    subst (λ (l : List Row). Comes (goes (change_v4 c.args.q.now (get_or l c.args.i []) c.args.clock.0 st)) c.args.change.now c.new_addr4.new.self (Ok tt)) rows
    (change-done c.args.q.now c.args.clock.0 (get_or c.addresses.result.rows.now c.args.i []) c.requires.q_value fit (λ s k g. c.in_ok-moved.ensures.adds_from s k g) c.args.i
    (λ s k. subst (λ (w : List ℕ). Represents w (with_addresses (set s.addresses c.args.i (changed_to c.args.q.now (get_or c.addresses.result.rows.now c.args.i []) c.args.clock.0)) s)) (sym c.new_addr4.ensures.state)
    (subst (λ (r : Row). Represents c.replace_address.new.self.words.now (with_addresses (set s.addresses c.args.i r) s)) c.changed_to-row.ensures (c.replace_address.ensures.holds s k)))
    (tells-ahead (rw c.changed_to-row.ensures at c.new_addr4.ensures.tells) refl refl c.replace_address.ensures.place refl) st h f at)
