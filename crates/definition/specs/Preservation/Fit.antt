-- What it is for a state's lists to be fit, part by part.
-- Assumes nothing.
use Rattle.std.specs.Prelude.{◌≤◌, ◌≡◌, true, List, eqb, leb, ltb, length}
use Rattle.std.proofs.Common.{eqb-true, eq-eqb, leb-true}
use Rattle.lists.specs.Lists.{Row, all}
use Rattle.lists.specs.Bools.{and_iff}
use Rattle.lists.specs.All.{all_mono}
use Rattle.lists.specs.Rows.{sized}
use Rattle.layout.specs.Address.{fit_address, fit_label, optional, prefix, broadcast_present, broadcast, scope, proto, label_length, label}
use Rattle.layout.specs.Route.{fit_route, len}
use Rattle.layout.specs.Request.{fit_add_v4}
use Rattle.definition.specs.State.{State}
use Rattle.definition.specs.Words.{fit_state, ordered, distinct, none_twice}

-- the fields that an address row and a request for one share
pub record FitFields (a : Row) : Type 0 where
  pub short : leb (prefix a) 32 ≡ true
  pub announced : optional (broadcast_present a) (broadcast a) ≡ true
  pub wide : ltb (scope a) 256 ≡ true
  pub by : ltb (proto a) 256 ≡ true
  pub labelled : fit_label (label_length a) (label a) ≡ true

pub fields_address : (a : Row) → fit_address a ≡ true → FitFields a
unfolding fit_address
fields_address a h =
    let k = simp and_iff at h in
    record { short = k.0.0.0.0.1; announced = simp and_iff k.0.0.0.1; wide = k.0.0.1; by = k.0.1; labelled = simp and_iff k.1 }

pub length-address : (a : Row) → fit_address a ≡ true → length a ≡ 20
unfolding fit_address
length-address a h = eqb-true (length a) 20 (simp and_iff at h).0.0.0.0.0

pub address_fields : (a : Row) → length a ≡ 20 → FitFields a → fit_address a ≡ true
unfolding fit_address
address_fields a e f =
    simp and_iff (((((eq-eqb (length a) 20 e, f.short), simp and_iff at f.announced), f.wide), f.by), simp and_iff at f.labelled)

pub fields_request : (q : Row) → fit_add_v4 q ≡ true → FitFields q
unfolding fit_add_v4
fields_request q h =
    let k = simp and_iff at h in
    record { short = k.0.0.0.0.0.0; announced = simp and_iff k.0.0.0.0.0.1; wide = k.0.0.0.0.1; by = k.0.0.0.1; labelled = simp and_iff k.0.0.1 }

pub length-route : (r : Row) → fit_route r ≡ true → length r ≡ 32
unfolding fit_route
length-route r h = eqb-true (length r) 32 (simp and_iff at h).0.0.0.0.0.0.0.0.0.0.0

pub route-len : (r : Row) → fit_route r ≡ true → len r ≤ 32
unfolding fit_route
route-len r h = leb-true (len r) 32 (simp and_iff at h).0.0.0.0.0.0.0.0.0.0.1

pub sized-addresses : (l : List Row) → all fit_address l ≡ true → sized 20 l ≡ true
sized-addresses l h = all_mono fit_address (λ r. eqb (length r) 20) l (λ r e. eq-eqb (length r) 20 (length-address r e)) h

pub sized-routes : (l : List Row) → all fit_route l ≡ true → sized 32 l ≡ true
sized-routes l h = all_mono fit_route (λ r. eqb (length r) 32) l (λ r e. eq-eqb (length r) 32 (length-route r e)) h

-- ---- the lists
pub record FitRoutes (l : List Row) : Type 0 where
  pub each : all fit_route l ≡ true
  pub in_order : ordered l ≡ true
  pub apart : distinct l ≡ true

pub record Invariant (st : State) : Type 0 where
  pub of_addresses : all fit_address st.addresses ≡ true
  pub of_routes : FitRoutes st.routes
  pub of_tables : none_twice st.tables ≡ true

pub fit-state : (st : State) → fit_state st ≡ true → Invariant st
unfolding fit_state
fit-state st h =
    let k = simp and_iff at h in
    record { of_addresses = k.0.0.0.0; of_routes = record { each = k.0.0.0.1; in_order = k.0.0.1; apart = k.0.1 }; of_tables = k.1 }

pub state-fit : (st : State) → Invariant st → fit_state st ≡ true
unfolding fit_state
state-fit st f =
    simp and_iff ((((f.of_addresses, f.of_routes.each), f.of_routes.in_order), f.of_routes.apart), f.of_tables)
