-- `step_drop_routes::disable` meets its contract.
use Rattle.std.proofs.Common.{refl, sym, ap, ◌∙◌}
use Rattle.definition.specs.Words.{address_count}
use Rattle.state.specs.Represents.{count-addresses}
use Rattle.step_events.specs.Emits.{tells-ahead}
use Rattle.step_drop_routes.specs.Iterations.{row-left, last-goes, others-stay}
use Rattle.step_drop_routes.proofs.disable.Goals as goal

pub ip_disabled-requires : goal.ip_disabled-requires
ip_disabled-requires c = row-left c.requires

pub returns-then-address_count-eq0 : goal.returns-then-address_count-eq0
returns-then-address_count-eq0 c =
    λ st f.
    let n = c.address_count.ensures ∙ ap address_count c.stored.ensures in
    last-goes st (sym (count-addresses f.holds) ∙ sym n ∙ c.if-address_count-eq0.true) (rw c.ip_disabled.ensures.state (c.deviceless.ensures.holds st f.holds))
    (tells-ahead c.ip_disabled.ensures.tells refl refl c.deviceless.ensures.place refl)

pub returns-else-address_count-eq0 : goal.returns-else-address_count-eq0
returns-else-address_count-eq0 c =
    λ st f.
    let n = c.address_count.ensures ∙ ap address_count c.stored.ensures in
    others-stay st (λ e. c.if-address_count-eq0.false (n ∙ count-addresses f.holds ∙ e)) f.holds
