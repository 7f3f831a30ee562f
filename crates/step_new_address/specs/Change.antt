-- An address that is there changed, and its prefix route moved before.
-- Assumes nothing.
use Rattle.std.specs.Prelude.{ℕ, ◌≡◌, refl, true, false, List, [], ◌∷◌, length, set, Ok, Err}
use Rattle.std.proofs.Common.{sym, ap, subst, ◌∙◌}
use Rattle.lists.specs.Lists.{Row, replace_first}
use Rattle.lists.specs.Place.{place_of, replace_at}
use Rattle.lists.specs.Bools.{cond-case}
use Rattle.refusal.specs.declared.Refusal.{Refusal}
use Rattle.layout.specs.Address as Address
use Rattle.layout.specs.Address.{fit_address, local}
use Rattle.layout.specs.Route.{fit_route}
use Rattle.layout.specs.Request.{fit_add_v4}
use Rattle.layout.specs.Event.{new_addr4}
use Rattle.definition.specs.State.{State, Out, sizes, becomes, with_addresses}
use Rattle.definition.specs.Words.{decode, fit_state, address_count}
use Rattle.definition.specs.Reference.Insert.{kernel_add4, kernel_del4}
use Rattle.definition.specs.Reference.Addresses.{goes, prefix_route, changed_to, reroutes, moved, change_v4, same_address}
use Rattle.definition.specs.Preservation.Fit.{length-address, fields_address}
use Rattle.definition.specs.Preservation.Rows.{subnet_fit, changed_to-fit}
use Rattle.definition.specs.Preservation.Shrinking.{kernel_del4_away}
use Rattle.definition.proofs.Preservation.Peaks.{kernel_del4-under}
use Rattle.definition.proofs.Preservation.Step.{covered}
use Rattle.row_candidates.specs.Rows.{subnet_route}
use Rattle.state.specs.Represents.{Represents, count-addresses, holds-within}
use Rattle.state.specs.Stored.{represented}
use Rattle.step_events.specs.Tells.{Tells}
use Rattle.step_events.specs.Emits.{Emits, does-one}
use Rattle.step_events.specs.Comes.{Comes, goes-made, adds_none, adds-also, adds-stop, comes-ok}
use Rattle.step_events.specs.declared.change.Change.{Change}
use Rattle.step_new_address.specs.Adding.{AddsFrom, also-leaves, kernel_add4-leaves}
use Rattle.step_new_address.specs.New.{length-emitted}

-- the prefix route that an address gets could stand in a state
pub route-fits : (old : Row) → fit_address old ≡ true → (priority source : ℕ) → fit_route (subnet_route priority source old) ≡ true
route-fits old fit priority source = subnet_fit source priority old (fields_address old fit).short

-- a route taken out never lacks room
pub del_adds : (p : Row) (st : State) {w : List ℕ} {a b : Change} → Represents w st → Emits (kernel_del4 p st) a b → Comes (goes (kernel_del4 p st)) a b (Ok tt)
del_adds p st h d =
    goes-made (covered (kernel_del4 p st).peak (sizes st) (kernel_del4-under p st).ever (holds-within h)) d

-- and leaves as many addresses, and the buffer its length
module _ (p : Row) {a b : Change} (d : (st : State) → Represents a.state.words.now st → Emits (kernel_del4 p st) a b) where
  from_held : Emits (kernel_del4 p (decode a.state.words.now)) a b
  from_held = d (decode a.state.words.now) (represented a.state.holds)

  pub del-count : address_count b.state.words.now ≡ address_count a.state.words.now
  del-count = count-addresses from_held.holds ∙ ap length (kernel_del4_away p (decode a.state.words.now)).same_addresses ∙ sym (count-addresses (represented a.state.holds))

  pub del-long : length b.events.now ≡ length a.events.now
  del-long = from_held.tells.long

module _ (q old : Row) where
  -- the route put in, and the one taken out
  abbrev pub route_in : Row
  route_in = subnet_route (Address.priority q) (local old) old

  abbrev pub route_out : Row
  route_out = subnet_route (Address.priority old) (local old) old

  pub moved_none : reroutes q old ≡ false → {a : Change} → AddsFrom (moved q old) a a (Ok tt)
  unfolding moved
  moved_none e st h f = rw e (adds_none st h)

  module _ (e : reroutes q old ≡ true) {a b : Change} where
    pub moved_other : {r : Refusal} → AddsFrom (kernel_add4 route_in) a b (Err r) → {c : Change} → AddsFrom (moved q old) a c (Err r)
    unfolding moved
    moved_other u st h g = rw e (adds-stop (u st h g) (kernel_del4 (prefix_route (local old) old)))

    pub moved-both : AddsFrom (kernel_add4 route_in) a b (Ok tt) → {c : Change} → ((st : State) → Represents b.state.words.now st → Emits (kernel_del4 route_out st) b c) → AddsFrom (moved q old) a c (Ok tt)
    unfolding moved prefix_route
    moved-both u d st h g =
        let first = u st h g in
        let later = (kernel_add4 route_in st).state in
        let there = (comes-ok first).1.holds in
        rw e (adds-also first (kernel_del4 route_out) (del_adds route_out later there (d later there)))

  -- the addresses stay
  pub moved-leaves : (st : State) → (moved q old st).state.addresses ≡ st.addresses
  unfolding moved
  moved-leaves st =
      cond-case (λ (o : Out). o.state.addresses ≡ st.addresses) (reroutes q old)
      (λ e. (also-leaves (kernel_add4 route_in) (kernel_del4 (prefix_route (local old) old)) (kernel_add4-leaves route_in) (record { same = λ s. (kernel_del4_away (prefix_route (local old) old) s).same_addresses })).same st)
      (λ e. refl)

-- ---- the address itself
module _ (q : Row) (clock : ℕ) (old : Row) (g : fit_add_v4 q ≡ true) (fit : fit_address old ≡ true) where
  pub changed-fit : fit_address (changed_to q old clock) ≡ true
  changed-fit = changed_to-fit q old clock g fit

  module _ {a b : Change} where
    pub change-other : {r : Refusal} → AddsFrom (moved q old) a b (Err r) → {c : Change} (st : State) → Represents a.state.words.now st → fit_state st ≡ true → Comes (goes (change_v4 q old clock st)) a c (Err r)
    unfolding change_v4
    change-other m st h f =
        adds-stop (m st h f) (λ later. becomes (with_addresses (replace_first (same_address q) (changed_to q old clock) later.addresses) later) (new_addr4 (changed_to q old clock) ∷ []))

    module _ (m : AddsFrom (moved q old) a b (Ok tt)) where
      pub change-done : (i : ℕ) {c : Change} → ((st : State) → Represents b.state.words.now st → Represents c.state.words.now (with_addresses (set st.addresses i (changed_to q old clock)) st))
          → Tells (new_addr4 (changed_to q old clock) ∷ []) b c → (st : State) → Represents a.state.words.now st → fit_state st ≡ true → i ≡ place_of (same_address q) st.addresses
          → Comes (goes (change_v4 q old clock st)) a c (Ok tt)
      unfolding change_v4
      change-done i {c} s t st h f at =
          let new = changed_to q old clock in
          let later = (moved q old st).state in
          let first : Comes (goes (moved q old st)) a b (Ok tt) = m st h f in
          let place : replace_first (same_address q) new later.addresses ≡ set later.addresses i new =
          replace_at (same_address q) new later.addresses ∙ ap (λ (n : ℕ). set later.addresses n new) (ap (place_of (same_address q)) (moved-leaves q old st) ∙ sym at)
          in
          let there : Represents c.state.words.now (with_addresses (replace_first (same_address q) new later.addresses) later) =
          subst (λ (l : List Row). Represents c.state.words.now (with_addresses l later)) (sym place) (s later (comes-ok first).1.holds)
          in
          adds-also first (λ later. becomes (with_addresses (replace_first (same_address q) new later.addresses) later) (new_addr4 new ∷ []))
          (goes-made (holds-within there)
          (does-one (with_addresses (replace_first (same_address q) new later.addresses) later) (new_addr4 new) there (length-emitted new (length-address new changed-fit)) t))
