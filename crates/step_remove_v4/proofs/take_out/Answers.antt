use Rattle.std.proofs.Common.{refl, sym, ap, ◌∙◌, position}
use Rattle.lists.specs.Lists.{eq_row}
use Rattle.step_events.specs.Emits.{tells-behind}
use Rattle.step_remove_v4.specs.One.{present-fit, present-found, gone-step}
use Rattle.step_remove_v4.proofs.take_out.Goals as goal

pub returns-in-Some : goal.returns-in-Some
returns-in-Some c =
    λ st f t.
    let rows = c.addresses.ensures.rows st (rw c.stored.ensures f.holds) in
    gone-step c.args.a.now c.in-Some.i f t (present-fit c.requires) (sym (c.in-Some.ensures ∙ ap (position (eq_row c.args.a.now)) rows))
    (c.remove_address.ensures.holds st (rw c.del_addr4.ensures.state f.holds)) (tells-behind c.del_addr4.ensures.tells refl refl c.remove_address.ensures.place refl)

pub returns-in_default : goal.returns-in_default
returns-in_default c =
    λ st f t.
    let rows = c.addresses.ensures.rows st (rw c.stored.ensures f.holds) in
    absurd (present-found c.args.a.now st.addresses t (sym (c.in_default.ensures ∙ ap (position (eq_row c.args.a.now)) rows)))
