-- Words that hold a state, changed at a row: they hold the state changed so.
-- Assumes nothing.
use Rattle.std.specs.Prelude.{ℕ, ◌+◌, ◌*◌, ◌≤◌, ◌<◌, ◌≡◌, true, get_or}
use Rattle.std.proofs.Math.Path.{refl, ap}
use Rattle.std.proofs.Common.{sym, ◌∙◌, arith}
use mathlib.Core.List.{List, [], ◌∷◌, ◌++◌, append-nil, append_assoc}
use Rattle.std.proofs.Math.ListN.{length, set, length-append}
use Rattle.lists.specs.Lists.{Row, all, flat, pad, span, put, zeros}
use Rattle.lists.specs.At.{all-at}
use Rattle.lists.specs.Put.{put_one}
use Rattle.lists.specs.Region.{row_at, row_retain, region_put, region_span}
use Rattle.layout.specs.Address.{fit_address}
use Rattle.layout.specs.Route.{fit_route}
use Rattle.definition.specs.State.{State, with_addresses, with_routes, with_tables}
use Rattle.definition.specs.Words.{encode, table_count, addresses_size, routes_at, routes_size, tables_at}
use Rattle.definition.specs.Preservation.Fit.{sized-routes}
use Rattle.state.specs.Represents.{Represents, counts, before_routes, before_tables, behind_addresses, encode-addresses, encode-routes, encode-tables, sized_a, sized_r, at_routes, at_tables, count-tables, holds-long}

module _ {w : List ℕ} {st : State} (h : Represents w st) where
  -- ---- a list becomes another, with its count
  pub addresses_become : (rows : List Row) (x : List ℕ) → length rows ≤ 64 → all fit_address rows ≡ true
      → x ≡ counts st ++ (pad addresses_size (flat rows) ++ behind_addresses st) → Represents (set x 0 (length rows)) (with_addresses rows st)
  unfolding encode
  addresses_become rows x l f e =
      record {
        words = ap (λ (y : List ℕ). set y 0 (length rows)) e;
        addresses_within = l;
        routes_within = h.routes_within;
        tables_within = h.tables_within;
        addresses_fit = f;
        routes_fit = h.routes_fit;
      }

  pub routes_become : (rows : List Row) (x : List ℕ) → length rows ≤ 256 → all fit_route rows ≡ true
      → x ≡ before_routes st ++ (pad routes_size (flat rows) ++ pad 32 st.tables) → Represents (set x 1 (length rows)) (with_routes rows st)
  unfolding encode
  routes_become rows x l f e =
      record {
        words = ap (λ (y : List ℕ). set y 1 (length rows)) e;
        addresses_within = h.addresses_within;
        routes_within = l;
        tables_within = h.tables_within;
        addresses_fit = h.addresses_fit;
        routes_fit = f;
      }

  room_a : 20 * length st.addresses ≤ addresses_size
  room_a = omega (arith, h.addresses_within)

  room_r : 32 * length st.routes ≤ routes_size
  room_r = omega (arith, h.routes_within)

  -- ---- row i
  pub address-at : (i : ℕ) → i < length st.addresses → span (3 + 20 * i) 20 w ≡ get_or st.addresses i []
  address-at i k =
      ap (span (3 + 20 * i) 20) (h.words ∙ encode-addresses st)
      ∙ row_at (counts st) (behind_addresses st) addresses_size 3 20 st.addresses refl (sized_a h) room_a i k

  pub route-at : (i : ℕ) → i < length st.routes → span (routes_at + 32 * i) 32 w ≡ get_or st.routes i []
  route-at i k =
      ap (span (routes_at + 32 * i) 32) (h.words ∙ encode-routes st)
      ∙ row_at (before_routes st) (pad 32 st.tables) routes_size routes_at 32 st.routes (at_routes h) (sized_r h) room_r i k

  pub fit-address-at : (i : ℕ) → i < length st.addresses → fit_address (span (3 + 20 * i) 20 w) ≡ true
  fit-address-at i k = rw (address-at i k) (all-at fit_address i st.addresses [] k h.addresses_fit)

  pub fit-route-at : (i : ℕ) → i < length st.routes → fit_route (span (routes_at + 32 * i) 32 w) ≡ true
  fit-route-at i k = rw (route-at i k) (all-at fit_route i st.routes [] k h.routes_fit)

  -- ---- other routes, and zeros for the n that are fewer
  pub retain_routes : (rows : List Row) (n : ℕ) → all fit_route rows ≡ true → length rows + n ≡ length st.routes
      → Represents (set (put routes_at (flat rows ++ zeros (32 * n)) w) 1 (length rows)) (with_routes rows st)
  retain_routes rows n f e =
      routes_become rows (put routes_at (flat rows ++ zeros (32 * n)) w) (omega (arith, h.routes_within)) f
      (ap (put routes_at (flat rows ++ zeros (32 * n))) (h.words ∙ encode-routes st)
      ∙ row_retain (before_routes st) (pad 32 st.tables) routes_size routes_at 32 st.routes (at_routes h) (sized_r h) room_r rows n (sized-routes rows f) e)

  -- ---- tables
  pub tables-at : span tables_at (table_count w) w ≡ st.tables
  tables-at =
      rw (count-tables h)
      (ap (span tables_at (length st.tables)) (h.words ∙ encode-tables st ∙ ap (λ (x : List ℕ). before_tables st ++ (pad 32 x ++ [])) (sym (append-nil st.tables)))
      ∙ region_span (before_tables st) [] [] 32 tables_at (at_tables h) st.tables [] (omega (arith, h.tables_within)))

  -- one more at the end
  pub append_table : (t : ℕ) → length st.tables < 32
      → Represents (set (set w (tables_at + table_count w) t) 2 (table_count w + 1)) (with_tables (st.tables ++ (t ∷ [])) st)
  unfolding encode
  append_table t room =
      let long : length (st.tables ++ (t ∷ [])) ≡ table_count w + 1 = length-append st.tables (t ∷ []) ∙ omega (arith, count-tables h) in
      let there : set w (tables_at + table_count w) t ≡ before_tables st ++ (pad 32 (st.tables ++ (t ∷ [])) ++ []) =
      rw (count-tables h)
      (put_one (tables_at + length st.tables) t w (omega (arith, holds-long h))
      ∙ ap (put (tables_at + length st.tables) (t ∷ [])) (h.words ∙ encode-tables st ∙ ap (λ (x : List ℕ). before_tables st ++ (pad 32 x ++ [])) (sym (append-nil st.tables)))
      ∙ region_put (before_tables st) st.tables [] 32 tables_at (at_tables h) [] (t ∷ []) (omega arith) (omega arith))
      in
      record {
        words =
            ap (λ (y : List ℕ). set y 2 (table_count w + 1)) there
            ∙ ap (λ (x : List ℕ). length st.addresses ∷ length st.routes ∷ (table_count w + 1) ∷ x)
            (rw append-nil (append_assoc (pad addresses_size (flat st.addresses)) (pad routes_size (flat st.routes)) (pad 32 (st.tables ++ (t ∷ [])))))
            ∙ ap (λ (n : ℕ). length st.addresses ∷ length st.routes ∷ n ∷ (pad addresses_size (flat st.addresses) ++ (pad routes_size (flat st.routes) ++ pad 32 (st.tables ++ (t ∷ []))))) (sym long);
        addresses_within = h.addresses_within;
        routes_within = h.routes_within;
        tables_within = omega (arith, count-tables h);
        addresses_fit = h.addresses_fit;
        routes_fit = h.routes_fit;
      }
