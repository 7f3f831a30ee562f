-- A new address: put in and told, then the routes that it brings.
-- Assumes nothing.
use Rattle.std.specs.Prelude.{◌≤◌, ◌≡◌, Bool, true, false, ◌&&◌, List, [], ◌∷◌, leb, length, ℕ, Ok, Err}
use Rattle.std.proofs.Common.{arith, sym, subst, length-append}
use Rattle.std.proofs.lemmas.Bool.{lt-leb}
use Rattle.lists.specs.Lists.{Row, all, zeros}
use Rattle.lists.specs.Rows.{length-zeros}
use Rattle.lists.specs.At.{insert_at}
use Rattle.refusal.specs.declared.Refusal.TheVariants.{Full}
use Rattle.layout.specs.Address.{fit_address}
use Rattle.layout.specs.Route.{fit_route}
use Rattle.layout.specs.Event.{new_addr4}
use Rattle.definition.specs.State.{State, becomes, with_addresses}
use Rattle.definition.specs.Words.{fit_state}
use Rattle.definition.specs.Reference.Addresses.{goes, candidates, install, place4, new_address}
use Rattle.definition.specs.Preservation.Fit.{fit-state, state-fit, length-address, fields_address}
use Rattle.definition.specs.Preservation.Keeps.{fit-addresses}
use Rattle.definition.specs.Preservation.Rows.{candidates-fit}
use Rattle.definition.specs.Preservation.Addresses.{place4-fit}
use Rattle.definition.specs.Preservation.Growing.{length-place4}
use Rattle.state.specs.Represents.{Represents, holds-within}
use Rattle.step_events.specs.Tells.{Tells}
use Rattle.step_events.specs.Emits.{does-one}
use Rattle.step_events.specs.Comes.{Answer, Comes, goes-made, comes-full, adds-also, adds-stop}
use Rattle.step_events.specs.declared.change.Change.{Change}
use Rattle.step_new_address.specs.Adding.{AddsFrom}

pub length-emitted : (a : Row) → length a ≡ 20 → length (new_addr4 a) ≡ 34
unfolding new_addr4
length-emitted a h = omega (arith, length-append a (zeros 12), length-zeros 12)

-- the routes that an address brings may be installed
pub routes-fit : (l : List Row) (up : Bool) (a : Row) → fit_address a ≡ true → all fit_route (candidates l up a) ≡ true
routes-fit l up a fit = candidates-fit l up a (fields_address a fit).short

-- the state with the address in its place
abbrev pub placed : Row → State → State
placed new st = with_addresses (place4 new st.addresses) st

too_many : (a b c : Bool) → a ≡ false → (a && b && c) ≡ false
too_many a b c h = rw h

module _ (new : Row) (up : Bool) (st : State) where
  -- there are as many as may be
  pub new_full : 64 ≤ length st.addresses → {a b : Change} → Comes (goes (new_address new up st)) a b (Err Full)
  unfolding new_address
  new_full h {a} {b} =
      let past : leb (length (place4 new st.addresses)) 64 ≡ false = lt-leb (length (place4 new st.addresses)) 64 (omega (arith, length-place4 new st.addresses)) in
      let full : Comes (goes (becomes (placed new st) (new_addr4 new ∷ []))) a b (Err Full) =
      comes-full (too_many (leb (length (place4 new st.addresses)) 64) (leb (length st.routes) 256) (leb (length st.tables) 32) past)
      in
      adds-stop full (install (candidates (place4 new st.addresses) up new))

  module _ (fit : fit_address new ≡ true) where
    pub placed-fit : fit_state st ≡ true → fit_state (placed new st) ≡ true
    placed-fit h =
        let f = fit-state st h in
        state-fit (placed new st) (fit-addresses st (place4 new st.addresses) f (place4-fit new st.addresses fit f.of_addresses))

    module _ (i : ℕ) (e : place4 new st.addresses ≡ insert_at i new st.addresses) where
      pub placed-holds : {w : List ℕ} → Represents w (with_addresses (insert_at i new st.addresses) st) → Represents w (placed new st)
      placed-holds {w} h = subst (λ (l : List Row). Represents w (with_addresses l st)) (sym e) h

      pub new_done : fit_state st ≡ true → {a b c : Change} {r : Answer} → Represents b.state.words.now (placed new st) → Tells (new_addr4 new ∷ []) a b
          → AddsFrom (install (candidates (place4 new st.addresses) up new)) b c r → Comes (goes (new_address new up st)) a c r
      unfolding new_address
      new_done f {a} {b} h t u =
          let first : Comes (goes (becomes (placed new st) (new_addr4 new ∷ []))) a b (Ok tt) =
          goes-made (holds-within h) (does-one (placed new st) (new_addr4 new) h (length-emitted new (length-address new fit)) t)
          in
          adds-also first (install (candidates (place4 new st.addresses) up new)) (u (placed new st) h (placed-fit f))
