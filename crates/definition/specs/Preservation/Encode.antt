-- A state within its limits and its words say the same.
-- Assumes nothing.
use Prim.Native.Nat.{ℕ, ◌+◌, ◌-◌, ◌*◌, ◌≤◌}
use Rattle.std.specs.Prelude.{◌≡◌, refl, ◌&&◌, leb, get_or, take, map}
use Rattle.std.proofs.Common.{sym, ◌∙◌, arith, length-drop, take-append-drop, drop_at, take_at, drop-drop, take_all, leb-true, le-leb}
use Rattle.std.proofs.Math.Path.{ap}
use Rattle.std.proofs.Math.Bool.{true}
use mathlib.Core.List.{List, [], ◌∷◌, ◌++◌, append_assoc, append-nil}
use Rattle.std.proofs.Math.ListN.{length, drop, length-append, length-map}
use Rattle.lists.specs.Lists.{all, all_zero, flat, zeros, pad, span, chop}
use Rattle.lists.specs.Bools.{and_iff}
use Rattle.lists.specs.Rows.{length-pad, length-flat, chop-pad, all_zero-pad, span-past, pad-chop, pad-take, length-chop, length-span, pad_nil, zeros_append, zeros_cons}
use Rattle.definition.specs.State.{State, sizes, empty}
use Rattle.layout.specs.Address.{fit_address}
use Rattle.layout.specs.Route.{fit_route}
use Rattle.definition.specs.Preservation.Fit.{fit-state, sized-addresses, sized-routes}
use Rattle.definition.specs.Words.{ordered, distinct, none_twice, within, addresses_size, routes_at, routes_size, tables_at, table_limit, base_size, encode, decode, fit_state, unused_zero, well_formed, rows_of_table, row_counts}

-- the state could be that of well-formed words
pub record Admissible (st : State) : Type 0 where
  pub fits : fit_state st ≡ true
  pub limits : within (sizes st) ≡ true

-- the state could be that of words, in whatever order its rows are
pub record Encodable (st : State) : Type 0 where
  pub limits : within (sizes st) ≡ true
  pub addresses_fit : all fit_address st.addresses ≡ true
  pub routes_fit : all fit_route st.routes ≡ true

pub encodable : {st : State} → Admissible st → Encodable st
encodable {st} g =
    let f = fit-state st g.fits in
    record { limits = g.limits; addresses_fit = f.of_addresses; routes_fit = f.of_routes.each }

-- the counts keep to the limits
counts : (st : State) → within (sizes st) ≡ true → (length st.addresses ≤ 64) × (length st.routes ≤ 256) × (length st.tables ≤ 32)
counts st h =
    let k = simp and_iff at h in
    (leb-true (length st.addresses) 64 k.0.0, leb-true (length st.routes) 256 k.0.1, leb-true (length st.tables) 32 k.1)

-- what stands behind the three counts and a part of m words
past-counts : (m a b c : ℕ) (x rest : List ℕ) → length x ≡ m → drop (3 + m) (a ∷ b ∷ c ∷ (x ++ rest)) ≡ rest
past-counts m a b c x rest h = sym (drop-drop m 3 (a ∷ b ∷ c ∷ (x ++ rest))) ∙ drop_at x rest m h

module _ (st : State) (g : Encodable st) where
  length-addresses : length (flat st.addresses) ≡ 20 * length st.addresses
  length-addresses = length-flat 20 st.addresses (sized-addresses st.addresses g.addresses_fit)

  length-routes : length (flat st.routes) ≡ 32 * length st.routes
  length-routes = length-flat 32 st.routes (sized-routes st.routes g.routes_fit)

  wide-addresses : length (pad addresses_size (flat st.addresses)) ≡ addresses_size
  wide-addresses = length-pad addresses_size (flat st.addresses) (omega (arith, length-addresses, counts st g.limits))

  wide-routes : length (pad routes_size (flat st.routes)) ≡ routes_size
  wide-routes = length-pad routes_size (flat st.routes) (omega (arith, length-routes, counts st g.limits))

  wide-tables : length (pad table_limit st.tables) ≡ 32
  wide-tables = length-pad table_limit st.tables (omega (arith, counts st g.limits))

  pub length-row_counts : length (row_counts st) ≡ table_limit
  unfolding row_counts
  length-row_counts =
      let numbers : List ℕ = map (λ t. rows_of_table t st.routes) st.tables in
      length-pad table_limit numbers (omega (arith, length-map st.tables (λ t. rows_of_table t st.routes), counts st g.limits))

  pub length-encode : length (encode st) ≡ base_size
  unfolding encode
  length-encode =
      simp length-append (omega (arith, wide-addresses, wide-routes, wide-tables))

  -- the words, part by part
  routes-behind : drop routes_at (encode st) ≡ pad routes_size (flat st.routes) ++ pad table_limit st.tables
  unfolding encode
  routes-behind =
      past-counts addresses_size (length st.addresses) (length st.routes) (length st.tables) (pad addresses_size (flat st.addresses))
      (pad routes_size (flat st.routes) ++ pad table_limit st.tables) wide-addresses

  tables-behind : drop tables_at (encode st) ≡ pad table_limit st.tables
  unfolding encode
  tables-behind =
      ap (λ (l : List ℕ). drop tables_at (length st.addresses ∷ length st.routes ∷ length st.tables ∷ l))
      (sym (append_assoc (pad addresses_size (flat st.addresses)) (pad routes_size (flat st.routes)) (pad table_limit st.tables)))
      ∙ past-counts (addresses_size + routes_size) (length st.addresses) (length st.routes) (length st.tables)
      (pad addresses_size (flat st.addresses) ++ pad routes_size (flat st.routes)) (pad table_limit st.tables)
      (simp length-append (omega (arith, wide-addresses, wide-routes)))

  same-addresses : (decode (encode st)).addresses ≡ st.addresses
  unfolding encode decode
  same-addresses =
      chop-pad addresses_size 20 st.addresses (pad routes_size (flat st.routes) ++ pad table_limit st.tables) (sized-addresses st.addresses g.addresses_fit)

  same-routes : (decode (encode st)).routes ≡ st.routes
  unfolding decode encode
  same-routes =
      ap (chop 32 (length st.routes)) routes-behind
      ∙ chop-pad routes_size 32 st.routes (pad table_limit st.tables) (sized-routes st.routes g.routes_fit)

  same_tables : (decode (encode st)).tables ≡ st.tables
  unfolding decode encode span
  same_tables =
      ap (take (length st.tables)) tables-behind ∙ unfold pad in (take_at st.tables (zeros (32 - length st.tables)) (length st.tables) refl)

  pub decode-encode : decode (encode st) ≡ st
  decode-encode = λ i. record { addresses = same-addresses i; routes = same-routes i; tables = same_tables i }

  unused-encode : unused_zero (encode st) ≡ true
  unfolding unused_zero encode
  unused-encode =
      let na : ℕ = length st.addresses in
      let nr : ℕ = length st.routes in
      let nt : ℕ = length st.tables in
      let a : all_zero (span (3 + 20 * na) (addresses_size - 20 * na) (encode st)) ≡ true =
      rw (span-past 3 (20 * na) (addresses_size - 20 * na) (encode st))
      (all_zero-pad addresses_size (20 * na) (flat st.addresses) (pad routes_size (flat st.routes) ++ pad table_limit st.tables) length-addresses)
      in
      let b : all_zero (span (routes_at + 32 * nr) (routes_size - 32 * nr) (encode st)) ≡ true =
      rw (span-past routes_at (32 * nr) (routes_size - 32 * nr) (encode st), routes-behind)
      (all_zero-pad routes_size (32 * nr) (flat st.routes) (pad table_limit st.tables) length-routes)
      in
      let c : all_zero (span (tables_at + nt) (table_limit - nt) (encode st)) ≡ true =
      rw (span-past tables_at nt (table_limit - nt) (encode st), tables-behind, ← append-nil (pad table_limit st.tables))
      (all_zero-pad table_limit nt st.tables [] refl)
      in
      simp and_iff ((a, b), c)

pub well_formed-encode : (st : State) → Admissible st → well_formed (encode st) ≡ true
unfolding well_formed encode
well_formed-encode st g =
    let k = simp and_iff at g.limits in
    let h : fit_state (decode (encode st)) ≡ true = rw (decode-encode st (encodable g)) g.fits in
    simp and_iff (((k, h)), unused-encode st (encodable g))

-- ---- from words
three : (w : List ℕ) → 3 ≤ length w → w ≡ get_or w 0 0 ∷ get_or w 1 0 ∷ get_or w 2 0 ∷ drop 3 w
three [] h = absurd (omega arith)
three (x ∷ []) h = absurd (omega arith)
three (x ∷ y ∷ []) h = absurd (omega arith)
three (x ∷ y ∷ z ∷ l) h = refl

-- the three counts and three parts behind them
joined : (m k n : ℕ) (w x y z : List ℕ) → length w ≡ 3 + (m + k + n) → x ≡ take m (drop 3 w) → y ≡ take k (drop (3 + m) w)
    → z ≡ take n (drop (3 + (m + k)) w) → get_or w 0 0 ∷ get_or w 1 0 ∷ get_or w 2 0 ∷ (x ++ (y ++ z)) ≡ w
joined m k n w x y z h a b c =
    let l : List ℕ = drop 3 w in
    let long : length l ≡ m + k + n = simp length-drop (omega arith) in
    let y' : y ≡ take k (drop m l) = b ∙ ap (take k) (sym (drop-drop m 3 w)) in
    let z' : z ≡ drop k (drop m l) =
    c ∙ ap (take n) (sym (drop-drop (m + k) 3 w)) ∙ take_all n (drop (m + k) l) (simp length-drop (omega arith)) ∙ sym (drop-drop k m l)
    in
    let behind : x ++ (y ++ z) ≡ l =
    ap (λ (r : List ℕ). x ++ r) (ap (λ (r : List ℕ). r ++ z) y' ∙ ap (λ (r : List ℕ). take k (drop m l) ++ r) z' ∙ take-append-drop k (drop m l))
    ∙ ap (λ (r : List ℕ). r ++ drop m l) a
    ∙ take-append-drop m l
    in
    ap (λ (r : List ℕ). get_or w 0 0 ∷ get_or w 1 0 ∷ get_or w 2 0 ∷ r) behind ∙ sym (three w (omega arith))

-- a part of rows, and the zeros behind them
rows-part : (at size k n : ℕ) (w : List ℕ) → k * n ≤ size → at + size ≤ length w → all_zero (span (at + k * n) (size - k * n) w) ≡ true
    → pad size (flat (chop k n (drop at w))) ≡ take size (drop at w)
rows-part at size k n w h g z =
    pad-chop size k n (drop at w) h (simp length-drop (omega arith))
    (ap all_zero (sym (span-past at (k * n) (size - k * n) w)) ∙ z)

numbers-part : (at size n : ℕ) (w : List ℕ) → n ≤ size → at + size ≤ length w → all_zero (span (at + n) (size - n) w) ≡ true
    → pad size (span at n w) ≡ take size (drop at w)
unfolding span
numbers-part at size n w h g z =
    pad-take size n (drop at w) h (simp length-drop (omega arith)) (ap (λ (l : List ℕ). all_zero (take (size - n) l)) (drop-drop n at w) ∙ z)

-- ---- the words of a well-formed state
record Counts (w : List ℕ) : Type 0 where
  addresses : get_or w 0 0 ≤ 64
  routes : get_or w 1 0 ≤ 256
  tables : get_or w 2 0 ≤ 32
  fit : fit_state (decode w) ≡ true
  unused : unused_zero w ≡ true

count : (w : List ℕ) → well_formed w ≡ true → Counts w
unfolding well_formed
count w h =
    let k = simp and_iff at h in
    record {
      addresses = leb-true (get_or w 0 0) 64 k.0.0.0.0;
      routes = leb-true (get_or w 1 0) 256 k.0.0.0.1;
      tables = leb-true (get_or w 2 0) 32 k.0.0.1;
      fit = k.0.1;
      unused = k.1;
    }

record Unused (w : List ℕ) : Type 0 where
  addresses : all_zero (span (3 + 20 * get_or w 0 0) (addresses_size - 20 * get_or w 0 0) w) ≡ true
  routes : all_zero (span (routes_at + 32 * get_or w 1 0) (routes_size - 32 * get_or w 1 0) w) ≡ true
  tables : all_zero (span (tables_at + get_or w 2 0) (table_limit - get_or w 2 0) w) ≡ true

unused : (w : List ℕ) → unused_zero w ≡ true → Unused w
unfolding unused_zero
unused w h = let k = simp and_iff at h in record { addresses = k.0.0; routes = k.0.1; tables = k.1 }

-- lists as long as the words count
within-decode : (w : List ℕ) → length w ≡ base_size → Counts w → within (sizes (decode w)) ≡ true
unfolding decode
within-decode w long c =
    within-limits (get_or w 0 0) (get_or w 1 0) (get_or w 2 0) _ _ _
    (length-chop 20 (get_or w 0 0) (drop 3 w)) (length-chop 32 (get_or w 1 0) (drop routes_at w)) (length-span tables_at (get_or w 2 0) w (omega (arith, c.tables)))
    c.addresses c.routes c.tables
  where
    within-limits : (a r t a' r' t' : ℕ) → a' ≡ a → r' ≡ r → t' ≡ t → a ≤ 64 → r ≤ 256 → t ≤ 32 → leb a' 64 && leb r' 256 && leb t' 32 ≡ true
    within-limits a r t a' r' t' e f g x y z = simp and_iff ((le-leb a' 64 (omega arith), le-leb r' 256 (omega arith)), le-leb t' 32 (omega arith))

module _ (w : List ℕ) (long : length w ≡ base_size) (well : well_formed w ≡ true) where
  pub encode-decode : encode (decode w) ≡ w
  unfolding encode decode
  encode-decode =
      let c = count w well in
      let u = unused w c.unused in
      (λ i. length-chop 20 (get_or w 0 0) (drop 3 w) i ∷ length-chop 32 (get_or w 1 0) (drop routes_at w) i ∷ length-span tables_at (get_or w 2 0) w (omega arith) i ∷
      (pad addresses_size (flat (chop 20 (get_or w 0 0) (drop 3 w))) ++ (pad routes_size (flat (chop 32 (get_or w 1 0) (drop routes_at w))) ++ pad table_limit (span tables_at (get_or w 2 0) w))))
      ∙ joined addresses_size routes_size table_limit w _ _ _ long
      (rows-part 3 addresses_size 20 (get_or w 0 0) w (omega arith) (omega arith) u.addresses)
      (rows-part routes_at routes_size 32 (get_or w 1 0) w (omega arith) (omega arith) u.routes)
      (numbers-part tables_at table_limit (get_or w 2 0) w (omega arith) (omega arith) u.tables)

  pub good-decode : Admissible (decode w)
  good-decode = let c = count w well in record { fits = c.fit; limits = within-decode w long c }

-- ---- the empty state
pub good-empty : Admissible empty
unfolding fit_state ordered distinct none_twice
good-empty = record { fits = refl; limits = refl }

pub encode-empty : encode empty ≡ zeros base_size
unfolding encode flat
encode-empty =
    ap (λ (l : List ℕ). 0 ∷ 0 ∷ 0 ∷ l)
    ((λ i. pad_nil addresses_size i ++ (pad_nil routes_size i ++ pad_nil table_limit i)) ∙ ap (λ (l : List ℕ). zeros addresses_size ++ l) (zeros_append routes_size table_limit) ∙ zeros_append addresses_size (routes_size + table_limit))
    ∙ ap (λ (l : List ℕ). 0 ∷ 0 ∷ l) (zeros_cons 9504)
    ∙ ap (λ (l : List ℕ). 0 ∷ l) (zeros_cons 9505)
    ∙ zeros_cons 9506
