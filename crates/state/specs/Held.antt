-- A list of rows in words that hold a state, wherever it lies in them, and a change to its rows.
-- Assumes nothing.
use Rattle.std.specs.Prelude.{ℕ, ◌+◌, ◌-◌, ◌*◌, ◌≤◌, ◌<◌, ◌≡◌, refl, Bool, true, List, ◌++◌, length, get_or, set}
use Rattle.std.proofs.Common.{sym, ap, subst, ◌∙◌, arith, eq-eqb, mul-add}
use Rattle.std.proofs.Math.Nat.{mul-le-mul_left, mul-suc, mul-one}
use Rattle.std.proofs.Math.ListN.{get_or-append}
use Rattle.std.proofs.lemmas.List.{set-get_or, length-set}
use Rattle.std.proofs.Math.Dec.{eqb}
use Rattle.lists.specs.Lists.{Row, all, flat, pad, span, put, zeros}
use Rattle.lists.specs.All.{all_mono}
use Rattle.lists.specs.Rows.{sized}
use Rattle.lists.specs.At.{insert_at, remove_at, length-insert_at, length-remove_at, all-insert_at, all-remove_at, all_set}
use Rattle.lists.specs.Region.{row_insert, row_remove, row_replace}
use Rattle.layout.specs.Address.{fit_address}
use Rattle.layout.specs.Route.{fit_route}
use Rattle.definition.specs.State.{State, with_addresses, with_routes}
use Rattle.definition.specs.Words.{encode, base_size, addresses_at, routes_at}
use Rattle.definition.specs.Preservation.Fit.{length-address, length-route}
use Rattle.state.specs.Represents.{Represents, counts, before_routes, behind_addresses, encode-addresses, encode-routes, at_routes, holds-long}
use Rattle.state.specs.Change.{addresses_become, routes_become}

-- a state's list of rows that fit, limit at most, of width words each: from the word at on, its count at a place before them
pub record Held (at place width limit : ℕ) (fits : Row → Bool) (rows : State → List Row) (with : List Row → State → State) : Type 0 where
  pub before : State → List ℕ
  pub behind : State → List ℕ
  pub words : (st : State) → encode st ≡ before st ++ (pad (width * limit) (flat (rows st)) ++ behind st)
  pub starts : {w : List ℕ} {st : State} → Represents w st → length (before st) ≡ at
  pub place_before : place < at
  pub inside : at + width * limit ≤ base_size
  pub few : limit ≤ 1000
  pub counted : (st : State) → get_or (before st) place 0 ≡ length (rows st)
  pub wide : (r : Row) → fits r ≡ true → length r ≡ width
  pub fitting : {w : List ℕ} {st : State} → Represents w st → all fits (rows st) ≡ true
  pub within : {w : List ℕ} {st : State} → Represents w st → length (rows st) ≤ limit
  pub becomes : {w : List ℕ} {st : State} → Represents w st → (l : List Row) (x : List ℕ) → length l ≤ limit → all fits l ≡ true
      → x ≡ before st ++ (pad (width * limit) (flat l) ++ behind st) → Represents (set x place (length l)) (with l st)

module _ {at place width limit : ℕ} {fits : Row → Bool} {rows : State → List Row} {with : List Row → State → State} (k : Held at place width limit fits rows with) where
  all_wide : (l : List Row) → all fits l ≡ true → sized width l ≡ true
  all_wide l f = all_mono fits (λ r. eqb (length r) width) l (λ r e. eq-eqb (length r) width (k.wide r e)) f

  -- row i and n more behind it lie within the words
  within_words : (i n : ℕ) → i + n + 1 ≤ limit → at + width * i + width + width * n ≤ base_size
  within_words i n b =
      omega (arith, k.inside, mul-le-mul_left width b, mul-add width (i + n) 1, mul-add width i n, mul-one width)

  module _ {w : List ℕ} {st : State} (h : Represents w st) where
    parts : w ≡ k.before st ++ (pad (width * limit) (flat (rows st)) ++ k.behind st)
    parts = h.words ∙ k.words st

    pub held-count : get_or w place 0 ≡ length (rows st)
    held-count =
        let b : place < length (k.before st) = omega (arith, k.starts h, k.place_before) in
        ap (λ (x : List ℕ). get_or x place 0) parts ∙ get_or-append (k.before st) _ 0 place b ∙ k.counted st

    room : width * length (rows st) ≤ width * limit
    room = mul-le-mul_left width (k.within h)

    -- the words of the rows in use, and those of a row more
    pub held-place : place < length w
    held-place = omega (arith, holds-long h, k.place_before, k.inside)

    -- a row more has room, and where row i ends
    pub held-room : (i : ℕ) → i ≤ get_or w place 0 → get_or w place 0 < limit → at + width * i + width + width * (get_or w place 0 - i) ≤ length w
    held-room i b more = omega (arith, holds-long h, within_words i (get_or w place 0 - i) (omega arith))

    pub held-end : (i : ℕ) → i < get_or w place 0 → at + width * i + width + width * (get_or w place 0 - 1 - i) ≤ length w
    held-end i b = omega (arith, holds-long h, within_words i (get_or w place 0 - 1 - i) (omega (arith, held-count, k.within h)))

    module _ (i : ℕ) where
      pub held-insert : (r : Row) → i ≤ get_or w place 0 → get_or w place 0 < limit → fits r ≡ true
          → Represents (set (put (at + width * i) (r ++ span (at + width * i) (width * (get_or w place 0 - i)) w) w) place (get_or w place 0 + 1)) (with (insert_at i r (rows st)) st)
      held-insert r b space f =
          let l = insert_at i r (rows st) in
          let long : length l ≡ length (rows st) + 1 = length-insert_at i r (rows st) (omega (arith, held-count)) in
          let n : get_or w place 0 + 1 ≡ length l = omega (arith, held-count) in
          let m : i + (get_or w place 0 - i) ≡ length (rows st) = omega (arith, held-count) in
          let few : length (rows st) < limit = omega (arith, held-count) in
          let more : width * length (rows st) + width ≤ width * limit = omega (arith, simp mul-suc at (mul-le-mul_left width few)) in
          rw n
          (k.becomes h l (put (at + width * i) (r ++ span (at + width * i) (width * (get_or w place 0 - i)) w) w) (omega (arith, held-count)) (all-insert_at fits i r (rows st) f (k.fitting h))
          (ap (λ (x : List ℕ). put (at + width * i) (r ++ span (at + width * i) (width * (get_or w place 0 - i)) x) x) parts
          ∙ row_insert (k.before st) (k.behind st) (width * limit) at width (rows st) (k.starts h) (all_wide (rows st) (k.fitting h)) room i (get_or w place 0 - i) r m (k.wide r f) more))

      pub held-remove : i < get_or w place 0
          → Represents (set (put (at + width * i) (span (at + width * i + width) (width * (get_or w place 0 - 1 - i)) w ++ zeros width) w) place (get_or w place 0 - 1)) (with (remove_at i (rows st)) st)
      held-remove b =
          let l = remove_at i (rows st) in
          let long : length l ≡ length (rows st) - 1 = length-remove_at i (rows st) (omega (arith, held-count)) in
          let n : get_or w place 0 - 1 ≡ length l = omega (arith, held-count) in
          let m : i + 1 + (length l - i) ≡ length (rows st) = omega (arith, held-count) in
          rw n
          (k.becomes h l (put (at + width * i) (span (at + width * i + width) (width * (length l - i)) w ++ zeros width) w) (omega (arith, k.within h)) (all-remove_at fits i (rows st) (k.fitting h))
          (ap (λ (x : List ℕ). put (at + width * i) (span (at + width * i + width) (width * (length l - i)) x ++ zeros width) x) parts
          ∙ row_remove (k.before st) (k.behind st) (width * limit) at width (rows st) (k.starts h) (all_wide (rows st) (k.fitting h)) room i (length l - i) m))

      -- the count stays as it is
      pub held-replace : (r : Row) → i < get_or w place 0 → fits r ≡ true → Represents (put (at + width * i) r w) (with (set (rows st) i r) st)
      held-replace r b f =
          let l = set (rows st) i r in
          let there : i < length (rows st) = omega (arith, held-count) in
          let x = put (at + width * i) r w in
          let long : length l ≡ length (rows st) = length-set (rows st) i r in
          let words : x ≡ k.before st ++ (pad (width * limit) (flat l) ++ k.behind st) =
          ap (put (at + width * i) r) parts
          ∙ row_replace (k.before st) (k.behind st) (width * limit) at width (rows st) (k.starts h) (all_wide (rows st) (k.fitting h)) room i r there (k.wide r f)
          in
          let inside : place < length (k.before st) = omega (arith, k.starts h, k.place_before) in
          let count : length l ≡ get_or x place 0 =
          long ∙ sym (ap (λ (y : List ℕ). get_or y place 0) words ∙ get_or-append (k.before st) _ 0 place inside ∙ k.counted st)
          in
          let done : Represents (set x place (length l)) (with l st) = k.becomes h l x (omega (arith, k.within h)) (all_set fits i r (rows st) there f (k.fitting h)) words in
          subst (λ (y : List ℕ). Represents y (with l st)) (ap (set x place) count ∙ set-get_or x place 0) done

-- ---- the two lists
pub addresses_held : Held addresses_at 0 20 64 fit_address (λ st. st.addresses) with_addresses
addresses_held =
    record {
      before = counts;
      behind = behind_addresses;
      words = encode-addresses;
      starts = λ h. refl;
      place_before = omega arith;
      inside = omega arith;
      few = omega arith;
      counted = λ st. refl;
      wide = length-address;
      fitting = λ h. h.addresses_fit;
      within = λ h. h.addresses_within;
      becomes = addresses_become;
    }

pub routes_held : Held routes_at 1 32 256 fit_route (λ st. st.routes) with_routes
routes_held =
    record {
      before = before_routes;
      behind = λ st. pad 32 st.tables;
      words = encode-routes;
      starts = at_routes;
      place_before = omega arith;
      inside = omega arith;
      few = omega arith;
      counted = λ st. refl;
      wide = length-route;
      fitting = λ h. h.routes_fit;
      within = λ h. h.routes_within;
      becomes = routes_become;
    }
