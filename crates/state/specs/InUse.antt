-- The rows in use, as parts of words that hold a state.
use Rattle.std.specs.Prelude.{ℕ, ◌+◌, ◌-◌, ◌*◌, ◌≤◌, ◌≡◌, refl, List, ◌++◌, length, take, drop}
use Rattle.std.proofs.Common.{arith, sym, ap, ◌∙◌, append_assoc, take_at, drop_at}
use Rattle.lists.specs.Lists.{flat, pad, zeros}
use Rattle.lists.specs.Rows.{length-flat}
use Rattle.lists.specs.Laid.{Laid, Lays}
use Rattle.layout.specs.Address.{fit_address}
use Rattle.layout.specs.Route.{fit_route}
use Rattle.definition.specs.State.{State}
use Rattle.definition.specs.Words.{address_count, route_count, addresses_size, routes_at, routes_size}
use Rattle.state.specs.Represents.{Represents, counts, behind_addresses, before_routes, encode-addresses, encode-routes, sized_a, sized_r, at_routes, count-addresses, count-routes, sizes_of}

-- the words of the rows in use, as they are lent
abbrev pub address_part : List ℕ → List ℕ
address_part w = take (3 + 20 * address_count w - 3) (drop 3 w)

abbrev pub route_part : List ℕ → List ℕ
route_part w = take (routes_at + 32 * route_count w - routes_at) (drop routes_at w)

-- n words at a place, of words that are laid out so
part_at : (before flats rest : List ℕ) (at size n : ℕ) → length before ≡ at → length flats ≡ n → take (at + n - at) (drop at (before ++ (pad size flats ++ rest))) ≡ flats
unfolding pad
part_at before flats rest at size n p q =
    let whole : at + n - at ≡ n = omega arith in
    rw (whole, drop_at before (pad size flats ++ rest) at p)
    (ap (take n) (append_assoc flats (zeros (size - length flats)) rest) ∙ take_at flats (zeros (size - length flats) ++ rest) n q)

module _ {w : List ℕ} {st : State} (h : Represents w st) where
  pub laid-addresses : Laid 20 fit_address (address_part w) st.addresses
  laid-addresses =
      let long : length (flat st.addresses) ≡ 20 * address_count w = length-flat 20 st.addresses (sized_a h) ∙ ap (λ (n : ℕ). 20 * n) (sym (count-addresses h)) in
      record {
        words = ap (λ (x : List ℕ). take (3 + 20 * address_count w - 3) (drop 3 x)) (h.words ∙ encode-addresses st)
            ∙ part_at (counts st) (flat st.addresses) (behind_addresses st) 3 addresses_size (20 * address_count w) refl long;
        width = sized_a h;
        fitting = h.addresses_fit;
      }

  pub laid-routes : Laid 32 fit_route (route_part w) st.routes
  laid-routes =
      let long : length (flat st.routes) ≡ 32 * route_count w = length-flat 32 st.routes (sized_r h) ∙ ap (λ (n : ℕ). 32 * n) (sym (count-routes h)) in
      record {
        words = ap (λ (x : List ℕ). take (routes_at + 32 * route_count w - routes_at) (drop routes_at x)) (h.words ∙ encode-routes st)
            ∙ part_at (before_routes st) (flat st.routes) (pad 32 st.tables) routes_at routes_size (32 * route_count w) (at_routes h) long;
        width = sized_r h;
        fitting = h.routes_fit;
      }

  -- the same of some state
  pub lays_addresses : Lays 20 fit_address (address_part w)
  lays_addresses = record { list = st.addresses; laid = laid-addresses }

  pub lays_routes : Lays 32 fit_route (route_part w)
  lays_routes = record { list = st.routes; laid = laid-routes }

  -- where the parts end
  pub address-end : (3 + 20 * address_count w ≤ length w) × (address_count w ≤ 64)
  address-end = let s = sizes_of h in (omega (arith, s.long, s.addresses), s.addresses)

  pub route-end : (routes_at + 32 * route_count w ≤ length w) × (route_count w ≤ 256)
  route-end = let s = sizes_of h in (omega (arith, s.long, s.routes), s.routes)
