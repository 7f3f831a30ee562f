use Rattle.std.proofs.Common.{refl, sym, ◌∙◌, ◌≡◌, Some, None, Ok, Err}
use Rattle.refusal.specs.declared.Refusal.TheVariants.{Full}
use Rattle.layout.specs.Request.{nlm_flags}
use Rattle.definition.specs.Preservation.Fit.{length-route}
use Rattle.definition.specs.Reference.Insert.{insert4}
use Rattle.definition.specs.Reference.Routes.{asked_route}
use Rattle.step_events.specs.Emits.{tells-none, tells-behind, tells-ahead}
use Rattle.step_route_request.specs.Add.{room-kept, added-put, added-none, added-refused, row-full}
use Rattle.step_route_request.proofs.add_checked.Goals as goal

pub insert4-requires : goal.insert4-requires
insert4-requires c = rw c.asked_route-new.ensures c.requires.fit

pub list_table-requires : goal.list_table-requires
list_table-requires c =
    room-kept c.args.t c.args.change.now.state c.insert4.new.s c.insert4.ensures.others c.requires.s_len_bound

pub list_table-requires-in_default-refusal : goal.list_table-requires-in_default-refusal
list_table-requires-in_default-refusal c =
    room-kept c.args.t c.args.change.now.state c.insert4.new.s c.insert4.ensures.others c.requires.s_len_bound

pub returns-in-Some : goal.returns-in-Some
returns-in-Some c =
    λ st h g.
    let new = asked_route c.args.q.now c.args.linked in
    let i = rw c.asked_route-new.ensures at c.insert4.ensures.inserted_into st h g in
    let is : c.insert4.result ≡ Ok (Some c.in-Some.flags) = cc (c.in-Ok.is, c.in-Some.is) in
    added-put new c.args.t st (insert4 new (nlm_flags c.args.q.now) st.routes) c.in-Some.flags (sym is ∙ i.answer) (length-route new c.requires.fit)
    (rw c.new_route4.ensures.state (c.list_table.ensures.holds _ i.holds))
    (tells-ahead (rw c.asked_route-new.ensures at c.new_route4.ensures.tells) refl refl (c.list_table.ensures.place ∙ c.insert4.ensures.place) refl)

pub returns-in_default : goal.returns-in_default
returns-in_default c =
    λ st h g.
    let new = asked_route c.args.q.now c.args.linked in
    let i = rw c.asked_route-new.ensures at c.insert4.ensures.inserted_into st h g in
    let is : c.insert4.result ≡ Ok None = cc (c.in-Ok.is, c.in_default.is) in
    added-none new c.args.t st (insert4 new (nlm_flags c.args.q.now) st.routes) (sym is ∙ i.answer)
    (c.list_table.ensures.holds _ i.holds) (tells-behind (tells-none c.args.change.now) refl refl (c.list_table.ensures.place ∙ c.insert4.ensures.place) refl)

pub returns-in-Full : goal.returns-in-Full
returns-in-Full c =
    λ st h g.
    let new = asked_route c.args.q.now c.args.linked in
    let i = rw c.asked_route-new.ensures at c.insert4.ensures.inserted_into st h g in
    let is : c.insert4.result ≡ Err Full = cc (c.in-Err.is, c.in-Full.is) in
    row-full new c.args.t st (insert4 new (nlm_flags c.args.q.now) st.routes) (sym is ∙ i.answer)
    i.holds (tells-behind (tells-none c.args.change.now) refl refl c.insert4.ensures.place refl)

pub returns-in_default-refusal : goal.returns-in_default-refusal
returns-in_default-refusal c =
    λ st h g.
    let new = asked_route c.args.q.now c.args.linked in
    let i = rw c.asked_route-new.ensures at c.insert4.ensures.inserted_into st h g in
    added-refused new c.args.t st (insert4 new (nlm_flags c.args.q.now) st.routes) c.in-Err.refusal c.in_default-refusal.not-Full (sym c.in-Err.is ∙ i.answer)
    (c.list_table-in_default-refusal.ensures.holds _ i.holds) (tells-behind (tells-none c.args.change.now) refl refl (c.list_table-in_default-refusal.ensures.place ∙ c.insert4.ensures.place) refl)
