-- Words that hold a state: its encoding, each list within its limit and each row fit. What the lists' order must be is said of the state alone.
-- Assumes nothing.
use Rattle.std.specs.Prelude.{ℕ, ◌≤◌, ◌≡◌, Bool, true, ◌&&◌}
use Rattle.std.proofs.Math.Path.{refl, ap}
use Rattle.std.proofs.Common.{sym, ◌∙◌, arith, length-append, leb-true, le-leb}
use mathlib.Core.List.{List, [], ◌∷◌, ◌++◌, append_assoc, append-nil}
use Rattle.std.proofs.Math.ListN.{length, get_or}
use Rattle.lists.specs.Lists.{all, flat, pad, eq_row}
use Rattle.lists.specs.Bools.{and_iff}
use Rattle.lists.specs.Rows.{sized, length-pad, length-flat}
use Rattle.layout.specs.Address.{fit_address}
use Rattle.layout.specs.Route.{fit_route}
use Rattle.definition.specs.State.{State, sizes}
use Rattle.definition.specs.Words.{encode, decode, within, well_formed, address_count, route_count, table_count, addresses_size, base_size, routes_at, routes_size, tables_at}
use Rattle.definition.specs.Preservation.Fit.{fit-state, sized-addresses, sized-routes}
use Rattle.definition.specs.Preservation.Encode.{Admissible, Encodable, encode-decode, good-decode}

pub record Represents (w : List ℕ) (st : State) : Type 0 where
  pub words : w ≡ encode st
  pub addresses_within : length st.addresses ≤ 64
  pub routes_within : length st.routes ≤ 256
  pub tables_within : length st.tables ≤ 32
  pub addresses_fit : all fit_address st.addresses ≡ true
  pub routes_fit : all fit_route st.routes ≡ true

pub holds-within : {w : List ℕ} {st : State} → Represents w st → within (sizes st) ≡ true
holds-within {w} {st} h =
    simp and_iff ((le-leb (length st.addresses) 64 h.addresses_within, le-leb (length st.routes) 256 h.routes_within), le-leb (length st.tables) 32 h.tables_within)

pub holds-encodable : {w : List ℕ} {st : State} → Represents w st → Encodable st
holds-encodable h = record { limits = holds-within h; addresses_fit = h.addresses_fit; routes_fit = h.routes_fit }

-- they hold some state, that which they encode
unfoldable pub represents : List ℕ → Bool
represents w =
    eq_row w (encode (decode w))
    && within (sizes (decode w))
    && all fit_address (decode w).addresses
    && all fit_route (decode w).routes

-- ---- well-formed words hold what they encode
pub holds-encode : (st : State) → Admissible st → Represents (encode st) st
holds-encode st g =
    let k = simp and_iff at g.limits in
    let f = fit-state st g.fits in
    record {
      words = refl;
      addresses_within = leb-true (length st.addresses) 64 k.0.0;
      routes_within = leb-true (length st.routes) 256 k.0.1;
      tables_within = leb-true (length st.tables) 32 k.1;
      addresses_fit = f.of_addresses;
      routes_fit = f.of_routes.each;
    }

pub holds-decode : (w : List ℕ) → length w ≡ base_size → well_formed w ≡ true → Represents w (decode w)
holds-decode w l h = let g = holds-encode (decode w) (good-decode w l h) in rw (encode-decode w l h) at g

-- ---- the parts of the words
module _ (st : State) where
  -- the words before the routes and before the tables, and those behind the addresses
  abbrev pub before_routes : List ℕ
  before_routes = length st.addresses ∷ length st.routes ∷ length st.tables ∷ pad addresses_size (flat st.addresses)

  abbrev pub before_tables : List ℕ
  before_tables = length st.addresses ∷ length st.routes ∷ length st.tables ∷ (pad addresses_size (flat st.addresses) ++ pad routes_size (flat st.routes))

  abbrev pub counts : List ℕ
  counts = length st.addresses ∷ length st.routes ∷ length st.tables ∷ []

  abbrev pub behind_addresses : List ℕ
  behind_addresses = pad routes_size (flat st.routes) ++ pad 32 st.tables

  pub encode-addresses : encode st ≡ counts ++ (pad addresses_size (flat st.addresses) ++ behind_addresses)
  unfolding encode
  encode-addresses = refl

  pub encode-routes : encode st ≡ before_routes ++ (pad routes_size (flat st.routes) ++ pad 32 st.tables)
  unfolding encode
  encode-routes = refl

  pub encode-tables : encode st ≡ before_tables ++ (pad 32 st.tables ++ [])
  unfolding encode
  encode-tables =
      ap (λ (x : List ℕ). length st.addresses ∷ length st.routes ∷ length st.tables ∷ x)
      (sym (rw append-nil (append_assoc (pad addresses_size (flat st.addresses)) (pad routes_size (flat st.routes)) (pad 32 st.tables))))

module _ {w : List ℕ} {st : State} (h : Represents w st) where
  pub sized_a : sized 20 st.addresses ≡ true
  sized_a = sized-addresses st.addresses h.addresses_fit

  pub sized_r : sized 32 st.routes ≡ true
  sized_r = sized-routes st.routes h.routes_fit

  wide_a : length (pad addresses_size (flat st.addresses)) ≡ addresses_size
  wide_a = length-pad addresses_size (flat st.addresses) (omega (arith, length-flat 20 st.addresses sized_a, h.addresses_within))

  wide_r : length (pad routes_size (flat st.routes)) ≡ routes_size
  wide_r = length-pad routes_size (flat st.routes) (omega (arith, length-flat 32 st.routes sized_r, h.routes_within))

  pub at_routes : length (before_routes st) ≡ routes_at
  at_routes = omega (arith, wide_a)

  pub at_tables : length (before_tables st) ≡ tables_at
  at_tables = simp length-append (omega (arith, wide_a, wide_r))

  pub holds-long : length w ≡ base_size
  holds-long =
      ap length (h.words ∙ encode-tables st)
      ∙ length-append (before_tables st) (pad 32 st.tables ++ [])
      ∙ omega (arith, at_tables, length-append (pad 32 st.tables) [], length-pad 32 st.tables h.tables_within)

  -- the counts are the lists' lengths
  pub count-addresses : address_count w ≡ length st.addresses
  unfolding encode
  count-addresses = ap (λ (x : List ℕ). get_or x 0 0) h.words

  pub count-routes : route_count w ≡ length st.routes
  unfolding encode
  count-routes = ap (λ (x : List ℕ). get_or x 1 0) h.words

  pub count-tables : table_count w ≡ length st.tables
  unfolding encode
  count-tables = ap (λ (x : List ℕ). get_or x 2 0) h.words

-- what the functions over the words need of them
pub record Sized (w : List ℕ) : Type 0 where
  pub long : length w ≡ base_size
  pub addresses : address_count w ≤ 64
  pub routes : route_count w ≤ 256
  pub tables : table_count w ≤ 32

pub sizes_of : {w : List ℕ} {st : State} → Represents w st → Sized w
sizes_of h =
    record {
      long = holds-long h;
      addresses = omega (arith, count-addresses h, h.addresses_within);
      routes = omega (arith, count-routes h, h.routes_within);
      tables = omega (arith, count-tables h, h.tables_within);
    }
