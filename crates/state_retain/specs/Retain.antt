-- Rows retained in place, one after the other.
-- Assumes nothing.
use Rattle.std.specs.Prelude.{ℕ, ◌+◌, ◌-◌, ◌*◌, ◌≤◌, ◌<◌, ◌≡◌, refl, Bool, true, false, cond, not, ◌&&◌, List, [], ◌∷◌, ◌++◌, eqb, length, get_or, take, drop, set}
use Rattle.std.proofs.Common.{sym, ap, ◌∙◌, subst, arith, append-nil, length-append, drop-drop, take_all}
use Rattle.std.proofs.Math.Bool.{and-true}
use Rattle.std.proofs.lemmas.List.{take_more}
use Rattle.std.specs.Fn.{Shared, FnReturnsAt}
use Rattle.std.specs.Simd.{first_chunks}
use denote.Ref.{Bor}
use Rattle.lists.specs.Lists.{Row, all, keep, flat, span, put, zeros}
use Rattle.lists.specs.Bools.{and_both}
use Rattle.lists.specs.All.{all_append}
use Rattle.lists.specs.Keep.{keep_append, keep_same}
use Rattle.lists.specs.Rows.{length-flat, length-zeros, length-span}
use Rattle.lists.specs.Put.{cut, put-behind, put-none, span-put-behind}
use Rattle.lists.specs.At.{flat_append, flat_cons}
use Rattle.lists.specs.Chop.{chop-at}
use Rattle.rows.specs.Rows.{chunks-chop}
use Rattle.layout.specs.Route.{fit_route, device, scope}
use Rattle.definition.specs.State.{State, with_routes}
use Rattle.definition.specs.Words.{route_count, base_size, routes_at}
use Rattle.definition.specs.Reference.Addresses.{down}
use Rattle.definition.specs.Reference.Removal.{deviceless}
use Rattle.definition.specs.Preservation.Fit.{sized-routes}
use Rattle.state.specs.Represents.{Represents, count-routes, holds-long}
use Rattle.state.specs.Stored.{decode-held}
use Rattle.state.specs.Change.{route-at, fit-route-at, retain_routes}

-- f answers p of each row
abbrev pub Decides : {F : Type 0} → Shared F (Bor Row × Unit {0}) Bool → F → (Row → Bool) → Type 0
Decides g f p = (r : Row) (b : Bool) → FnReturnsAt g f r b → b ≡ p r

-- a route remains that is not through the device; with host, one of host scope remains too
unfoldable pub remains : Bool → Row → Bool
remains host r = not (eqb (device r) 1 && not (host && eqb (scope r) 254))

-- of the first i rows of the routes in w those that f let stay, j of them, stand in front: the rows that pass where f decides p, and
-- rows of some state whatever it answers
pub record Keeping {F : Type 0} (g : Shared F (Bor Row × Unit {0}) Bool) (f : F) (rows : List Row) (w : List ℕ) (i j : ℕ) (s : List ℕ) : Type 0 where
  pub kept : List Row
  pub those : (p : Row → Bool) → Decides g f p → kept ≡ keep p (take i rows)
  pub fit : all fit_route kept ≡ true
  pub count : j ≡ length kept
  pub few : j ≤ i
  pub words : s ≡ put routes_at (flat kept) w
  pub long : length s ≡ base_size

module _ {F : Type 0} {g : Shared F (Bor Row × Unit {0}) Bool} {f : F} {w : List ℕ} {st : State} (h : Represents w st) where
  pub keeping_start : Keeping g f st.routes w 0 0 w
  unfolding flat
  keeping_start =
      record {
        kept = [];
        those = λ p d. refl;
        fit = refl;
        count = refl;
        few = omega arith;
        words = put-none routes_at w;
        long = holds-long h;
      }

  module _ {i j : ℕ} {s : List ℕ} (k : Keeping g f st.routes w i j s) where
    wide : length (flat k.kept) ≡ 32 * j
    wide = omega (arith, length-flat 32 k.kept (sized-routes k.kept k.fit), k.count)

    module _ (c : i < route_count w) where
      b : i < length st.routes
      b = omega (arith, count-routes h)

      -- row i still stands
      still : span (routes_at + 32 * i) 32 s ≡ get_or st.routes i []
      still =
          ap (span (routes_at + 32 * i) 32) k.words
          ∙ span-put-behind routes_at (flat k.kept) w (omega (arith, wide, holds-long h, k.few, h.routes_within, b)) (routes_at + 32 * i) 32 (omega (arith, wide, k.few))
          ∙ route-at h i b

      more : (p : Row → Bool) → Decides g f p → (r : Bool) → FnReturnsAt g f (span (routes_at + 32 * i) 32 s) r
          → keep p (take (i + 1) st.routes) ≡ keep p (take i st.routes) ++ cond r (get_or st.routes i [] ∷ []) []
      more p d r a =
          let row = get_or st.routes i [] in
          let same : p row ≡ r = ap p (sym still) ∙ sym (d (span (routes_at + 32 * i) 32 s) r a) in
          ap (keep p) (take_more st.routes i [] b) ∙ keep_append p (take i st.routes) (row ∷ []) ∙ ap (λ (x : Bool). keep p (take i st.routes) ++ cond x (row ∷ []) []) same

      pub row_goes : FnReturnsAt g f (span (routes_at + 32 * i) 32 s) false → Keeping g f st.routes w (i + 1) j s
      row_goes a =
          record {
            kept = k.kept;
            those = λ p d. k.those p d ∙ sym (more p d false a ∙ append-nil (keep p (take i st.routes)));
            fit = k.fit;
            count = k.count;
            few = omega (arith, k.few);
            words = k.words;
            long = k.long;
          }

      -- it becomes row j
      pub row_stays : FnReturnsAt g f (span (routes_at + 32 * i) 32 s) true → {s' : List ℕ} {r : ℕ} → r ≡ j + 1 → length s' ≡ length s
          → s' ≡ put (routes_at + 32 * j) (span (routes_at + 32 * i) 32 s) s → Keeping g f st.routes w (i + 1) r s'
      row_stays a {s'} {r} q l e =
          let row = get_or st.routes i [] in
          let narrow : length row ≡ 32 = ap length (sym still) ∙ length-span (routes_at + 32 * i) 32 s (omega (arith, k.long, h.routes_within, b)) in
          let joined : flat (k.kept ++ (row ∷ [])) ≡ flat k.kept ++ row = flat_append k.kept (row ∷ []) ∙ ap (λ (x : List ℕ). flat k.kept ++ x) (flat_cons row [] ∙ none-behind row) in
          record {
            kept = k.kept ++ (row ∷ []);
            those = λ p d. ap (λ (x : List Row). x ++ (row ∷ [])) (k.those p d) ∙ sym (more p d true a);
            fit = all_append fit_route k.kept (row ∷ []) k.fit (and_both (fit_route row) true (ap fit_route (sym (route-at h i b)) ∙ fit-route-at h i b) refl);
            count = q ∙ ap (λ (n : ℕ). n + 1) k.count ∙ sym (length-append k.kept (row ∷ []));
            few = omega (arith, k.few);
            words =
                e ∙ ap (λ (x : List ℕ). put (routes_at + 32 * j) x s) still ∙ ap (put (routes_at + 32 * j) row) k.words
                ∙ ap (λ (n : ℕ). put (routes_at + n) row (put routes_at (flat k.kept) w)) (sym wide)
                ∙ put-behind routes_at (flat k.kept) w (omega (arith, wide, holds-long h, k.few, h.routes_within, b)) row (omega (arith, wide, narrow, holds-long h, k.few, h.routes_within, b))
                ∙ ap (λ (x : List ℕ). put routes_at x w) (sym joined);
            long = l ∙ k.long;
          }
        where
          none-behind : (r : Row) → r ++ flat [] ≡ r
          none-behind r = unfold flat in append-nil r

  -- all looked at: zeros for those that went, and the count
  module _ {n j : ℕ} {s s' : List ℕ} (k : Keeping g f st.routes w n j s) (e : n ≡ route_count w)
      (a : s' ≡ set (put (routes_at + 32 * j) (zeros (32 * (n - j))) s) 1 j) where
    pub keeping_end : Represents s' (with_routes k.kept st)
    keeping_end =
        let rows = k.kept in
        let all : n ≡ length st.routes = e ∙ count-routes h in
        let none = length-zeros (32 * (n - j)) in
        let there : put (routes_at + 32 * j) (zeros (32 * (n - j))) s ≡ put routes_at (flat rows ++ zeros (32 * (n - j))) w =
        ap (put (routes_at + 32 * j) (zeros (32 * (n - j)))) k.words
        ∙ ap (λ (m : ℕ). put (routes_at + m) (zeros (32 * (n - j))) (put routes_at (flat rows) w)) (sym (wide k))
        ∙ put-behind routes_at (flat rows) w (omega (arith, wide k, holds-long h, k.few, h.routes_within)) (zeros (32 * (n - j))) (omega (arith, wide k, none, holds-long h, k.few, h.routes_within))
        in
        rw (a, there, k.count) (retain_routes h rows (n - length rows) k.fit (omega (arith, k.few, k.count)))

    pub keeping_all : (p : Row → Bool) → Decides g f p → (m : State) → Represents w m → Represents s' (with_routes (keep p m.routes) m)
    keeping_all p d m q =
        let all : k.kept ≡ keep p st.routes = k.those p d ∙ ap (keep p) (take_all n st.routes (omega (arith, count-routes h))) in
        let same : st ≡ m = sym (decode-held h) ∙ decode-held q in
        subst (λ (y : State). Represents s' (with_routes (keep p y.routes) y)) same (rw all at keeping_end)

-- ---- what remains
pub is_down : (st : State) → with_routes (keep (remains true) st.routes) st ≡ (down st).state
unfolding down remains
is_down st = refl

pub is_deviceless : (st : State) → with_routes (keep (remains false) st.routes) st ≡ deviceless st
is_deviceless st = ap (λ (l : List Row). with_routes l st) (keep_same (remains false) (λ r. not (eqb (device r) 1)) st.routes same)
  where
    same : (r : Row) → remains false r ≡ not (eqb (device r) 1)
    same r = unfold remains in ap not (and-true (eqb (device r) 1))

-- ---- a row where it stands
-- row i, cut from the words as rows
pub cut-row : (w : List ℕ) (n i : ℕ) → i < n → get_or (first_chunks 32 n (drop routes_at w)) i [] ≡ span (routes_at + 32 * i) 32 w
unfolding span
cut-row w n i h =
    ap (λ (l : List Row). get_or l i []) (chunks-chop 32 n (drop routes_at w)) ∙ sym (chop-at 32 n (drop routes_at w) i h)
    ∙ ap (take 32) (drop-drop (32 * i) routes_at w)

-- a row that becomes itself
pub itself : (s : List ℕ) {i j : ℕ} → i ≡ j → routes_at + 32 * i + 32 ≤ length s → s ≡ put (routes_at + 32 * j) (span (routes_at + 32 * i) 32 s) s
unfolding put
itself s {i} {j} e h =
    let long : length (span (routes_at + 32 * i) 32 s) ≡ 32 = length-span (routes_at + 32 * i) 32 s h in
    cut (routes_at + 32 * i) 32 s
    ∙ ap (λ (n : ℕ). take (routes_at + 32 * i) s ++ (span (routes_at + 32 * i) 32 s ++ drop (routes_at + 32 * i + n) s)) (sym long)
    ∙ ap (λ (n : ℕ). put (routes_at + 32 * n) (span (routes_at + 32 * i) 32 s) s) e
