-- What the code does for an event is what the definition says of it.
-- Assumes nothing.
use Rattle.std.specs.Prelude.{ℕ, zero, suc, ◌+◌, ◌≤◌, ◌<◌, ◌≡◌, ◌≢◌, refl, Bool, true, false, ◌&&◌, List, [], ◌∷◌, ◌++◌, eqb, leb, length, get_or, take, drop, set, position, Option, Some, None, Result, Ok, Err, MatchOption, MatchResult, IsErrAnd, IfSome}
use Rattle.std.proofs.Common.{sym, ap, ◌∙◌, arith, zero-add, length-drop, take_all, ne_eqb, lt-ltb, le-ltb, le-leb}
use Rattle.std.specs.Option.{is_some, ok_or}
use Rattle.std.proofs.lemmas.Bool.{eqb-false, lt-leb}
use Rattle.std.specs.List.Sorted.{IsPartitionPoint}
use denote.Ref.{Bor}
use Rattle.lists.specs.Lists.{Row, any, remove_first, replace_first, eq_row}
use Rattle.lists.specs.Bools.{fails, test-case}
use Rattle.lists.specs.At.{insert_at, remove_at, length-insert_at}
use Rattle.lists.specs.Place.{place_of, remove_at_lem, replace_at, any_at}
use Rattle.lists.specs.Cut.{place-passes}
use Rattle.lists.specs.Front.{any_here}
use Rattle.lists.specs.Library.{found-place, missing-place}
use Rattle.layout.specs.Flags.{has_bit, replace_bit, append_bit}
use Rattle.layout.specs.Route.{fit_route, alike, before}
use Rattle.refusal.specs.declared.Refusal.{Refusal}
use Rattle.refusal.specs.declared.Refusal.TheVariants.{UnfitEvent}
use Rattle.refusal.specs.Refusal.{unless}
use Rattle.refusal.specs.Laws.{failed}
use Rattle.definition.specs.State.{with_routes}
use Rattle.definition.specs.Reference.Insert.{ahead, behind}
use Rattle.definition.specs.Reference.Addresses.{down}
use Rattle.definition.specs.Reference.Removal.{deviceless}
use Rattle.definition.specs.Preservation.Fit.{FitRoutes}
use Rattle.definition.specs.Preservation.Routes.{keep-fit, remove_first-fit, ahead-fit, behind-fit, replace_fit}
use Rattle.state.specs.Represents.{Represents}
use Rattle.step_insert.specs.Run.{Run, before-not_equal, run-alike, run-within, run-ahead, run-behind, run-place}
use Rattle.definition_recording.specs.Recording.{Rebuilt, rows, refused, kind, flags, route_row, fit_address_event, fit_new_route, fit_del_route, fit_mark, provided, added_row, deleted_row, after_down, after_last, event}
use Rattle.step_rebuild.specs.Holds.{table_of, HoldsRows, Accepted, Denies, Came}

-- ---- answers
pub came-rows : {x : Rebuilt} {w : List ℕ} (l : List Row) → x ≡ rows l → HoldsRows w l → Came x w (Ok tt)
came-rows l e h = record { list = l; is = e; holds = h }

pub came_unfit : {x : Rebuilt} → x ≡ refused 209 → Denies x UnfitEvent
came_unfit e = (e, λ z. omega (arith, z))

-- a refusal that is handed on
pub handed-on : (x : Rebuilt) (w : List ℕ) (t : Result (Unit {0}) Refusal) (e : Refusal) → IsErrAnd t (λ y. y ≡ e) → Denies x e → Came x w t
handed-on x w (Ok u) e h d = absurd h
handed-on x w (Err y) e h d = rw h d

-- one by a check that failed
pub refused-by : (x : Rebuilt) (w : List ℕ) (t : Result (Unit {0}) Refusal) (e : Refusal) (b : Bool) {r : Result (Unit {0}) Refusal}
    → r ≡ unless b UnfitEvent → r ≡ Err e → IsErrAnd t (λ y. y ≡ e) → (b ≡ false → Denies x UnfitEvent) → Came x w t
refused-by x w t e b f g h d = let why = failed b UnfitEvent e (sym g ∙ f) in handed-on x w t e h (rw why.1 (d why.0))

-- a check that refuses, or passes
pub checked-came : (b : Bool) (l : List Row) {w : List ℕ} (r : Result (Unit {0}) Refusal) → HoldsRows w l → r ≡ unless b UnfitEvent → Came (provided b (rows l)) w r
checked-came true l r h e = rw e (came-rows l refl h)
checked-came false l r h e = rw e (came_unfit refl)

-- ---- an event's parts, as they are lent
pub lent-from : (k n : ℕ) (e : Row) → length e ≡ k + n → take n (drop k e) ≡ drop k e
lent-from k n e h = take_all n (drop k e) (omega (arith, length-drop k e))

-- its route, where the flags are few
pub route-answer : (o : Option (Bor Row)) (row : Row) (few : Bool) → is_some o ≡ fit_route row → IfSome o (λ r. r.now ≡ row) → few ≡ true
    → MatchResult (ok_or o UnfitEvent) (λ r. (r.now ≡ row) × (few && fit_route row ≡ true)) (λ x. (x ≡ UnfitEvent) × (few && fit_route row ≡ false))
route-answer None row few f s h = (refl, rw (h, ← f))
route-answer (Some r) row few f s h = (s, rw (h, ← f))

-- ---- a new route, by where the rows alike it stand
module _ (r : Row) (f : ℕ) (l : List Row) {start end : ℕ} {there : Bool} (s : Run r l start end there) where
  pub there-already : there ≡ true → Denies (added_row r f l) UnfitEvent
  unfolding added_row
  there-already e = let is : any (eq_row r) l ≡ true = sym s.is-there ∙ e in came_unfit (rw is)

  module _ (fresh : there ≡ false) where
    new_one : any (eq_row r) l ≡ false
    new_one = sym s.is-there ∙ fresh

    pub none-to-replace : has_bit replace_bit f ≡ true → end ≤ start → Denies (added_row r f l) UnfitEvent
    unfolding added_row
    none-to-replace b k =
        let none_alike : any (alike r) l ≡ false = run-alike r l start end there s ∙ le-ltb start end k in
        came_unfit (rw (new_one, b, none_alike))

    module _ (fit : fit_route r ≡ true) (h : FitRoutes l) {w : List ℕ} where
      pub replaced : has_bit replace_bit f ≡ true → start < end → Represents w (with_routes (set l start r) (table_of l)) → Accepted (added_row r f l) w
      unfolding added_row
      replaced b k x =
          let some_alike : any (alike r) l ≡ true = run-alike r l start end there s ∙ lt-ltb start end k in
          let same : replace_first (alike r) r l ≡ set l start r =
          replace_at (alike r) r l ∙ ap (λ (i : ℕ). set l i r) (run-place r l start end there s h.in_order some_alike)
          in
          came-rows (replace_first (alike r) r l) (rw (new_one, b, some_alike)) (record { represents = rw same x; fit = replace_fit r l h fit new_one })

    module _ (b : has_bit replace_bit f ≡ false) (h : FitRoutes l) where
      longer : (length (ahead r l) ≡ length l + 1) × (length (behind r l) ≡ length l + 1)
      longer =
          let within = run-within r l start end there s in (
            ap (λ (m : List Row). length m) (sym (run-ahead r l start end there s h.in_order)) ∙ length-insert_at start r l (omega (arith, within)),
            ap (λ (m : List Row). length m) (sym (run-behind r l start end there s h.in_order)) ∙ length-insert_at end r l within.1,
          )

      pub no-room : 256 ≤ length l → Denies (added_row r f l) UnfitEvent
      unfolding added_row
      no-room k =
          test-case (has_bit append_bit f)
          (λ e. let long : leb (length (behind r l)) 256 ≡ false = lt-leb (length (behind r l)) 256 (omega (arith, longer)) in came_unfit (rw (new_one, b, e, long)))
          (λ e. let long : leb (length (ahead r l)) 256 ≡ false = lt-leb (length (ahead r l)) 256 (omega (arith, longer)) in came_unfit (rw (new_one, b, e, long)))

      module _ (fit : fit_route r ≡ true) (k : length l < 256) {w : List ℕ} where
        pub put-behind : has_bit append_bit f ≡ true → Represents w (with_routes (insert_at end r l) (table_of l)) → Accepted (added_row r f l) w
        unfolding added_row
        put-behind e x =
            let few : leb (length (behind r l)) 256 ≡ true = le-leb (length (behind r l)) 256 (omega (arith, longer)) in
            came-rows (behind r l) (rw (new_one, b, e, few)) (record { represents = rw (run-behind r l start end there s h.in_order) at x; fit = behind-fit r l h fit new_one })

        pub put-ahead : has_bit append_bit f ≡ false → Represents w (with_routes (insert_at start r l) (table_of l)) → Accepted (added_row r f l) w
        unfolding added_row
        put-ahead e x =
            let few : leb (length (ahead r l)) 256 ≡ true = le-leb (length (ahead r l)) 256 (omega (arith, longer)) in
            came-rows (ahead r l) (rw (new_one, b, e, few)) (record { represents = rw (run-ahead r l start end there s h.in_order) at x; fit = ahead-fit r l h fit new_one })

-- ---- a deletion: the row's place, if it has one
abbrev pub IsPlace : Row → List Row → Option ℕ → Type 0
IsPlace row l o = MatchOption o (place_of (eq_row row) l ≡ length l) (λ i. i ≡ place_of (eq_row row) l)

-- the first i of which don't pass
skipped : (p : Row → Bool) (l : List Row) (i : ℕ) → i ≤ length l → ((j : ℕ) → j < i → p (get_or l j []) ≡ false) → place_of p l ≡ i + place_of p (drop i l)
skipped p l zero h f = sym (zero-add (place_of p l))
skipped p [] (suc i) h f = absurd (omega arith)
skipped p (x ∷ l) (suc i) h f = rw (f 0 (omega arith)) (omega (arith, skipped p l i (omega arith) (λ j k. f (suc j) (omega arith))))

module _ (row : Row) (l : List Row) (start : ℕ) (within : start ≤ length l) (k : IsPartitionPoint (λ r. before r row ≡ true) (λ r. before r row ≡ false) l start) where
  behind_those : place_of (eq_row row) l ≡ start + place_of (eq_row row) (drop start l)
  behind_those = skipped (eq_row row) l start within (λ j b. before-not_equal row (get_or l j []) (k.0 j [] (omega arith) b))

  pub place-behind : (i : ℕ) → position (eq_row row) (drop start l) ≡ Some i → IsPlace row l (Some (start + i))
  place-behind i e = omega (arith, behind_those, found-place (eq_row row) (drop start l) i e)

  pub none-behind : position (eq_row row) (drop start l) ≡ None → IsPlace row l None
  none-behind e = omega (arith, behind_those, missing-place (eq_row row) (drop start l) e, length-drop start l)

pub place-there : (o : Option ℕ) (i : ℕ) {r : Result ℕ Refusal} → r ≡ ok_or o UnfitEvent → r ≡ Ok i → o ≡ Some i
place-there None i f e = let bad : ◌≡◌ {A = Result ℕ Refusal} (Ok i) (Err UnfitEvent) = sym e ∙ f in cc
place-there (Some j) i f e = let same : ◌≡◌ {A = Result ℕ Refusal} (Ok i) (Ok j) = sym e ∙ f in cc

pub no-place : (o : Option ℕ) (x : Refusal) {r : Result ℕ Refusal} → r ≡ ok_or o UnfitEvent → r ≡ Err x → (o ≡ None) × (x ≡ UnfitEvent)
no-place None x f e = let same : ◌≡◌ {A = Result ℕ Refusal} (Err x) (Err UnfitEvent) = sym e ∙ f in (refl, cc)
no-place (Some j) x f e = let bad : ◌≡◌ {A = Result ℕ Refusal} (Err x) (Ok j) = sym e ∙ f in cc

module _ (row : Row) (l : List Row) where
  pub not_there : IsPlace row l None → Denies (deleted_row row l) UnfitEvent
  unfolding deleted_row
  not_there e =
      let none_is : any (eq_row row) l ≡ false = fails (any (eq_row row) l) (λ k. omega (arith, any_at (eq_row row) l k, e)) in
      came_unfit (rw none_is)

  pub taken_out : {w : List ℕ} (i : ℕ) → IsPlace row l (Some i) → i < length l → FitRoutes l → Represents w (with_routes (remove_at i l) (table_of l)) → Came (deleted_row row l) w (Ok tt)
  unfolding deleted_row remove_at
  taken_out i at b f k =
      let here : place_of (eq_row row) l < length l = omega (arith, at, b) in
      let there : any (eq_row row) l ≡ true = any_here (eq_row row) l (place_of (eq_row row) l) [] here (place-passes (eq_row row) l [] here) in
      let gone : remove_first (eq_row row) l ≡ take i l ++ drop (suc i) l = rw (← at) at (remove_at_lem (eq_row row) l) in
      came-rows (remove_first (eq_row row) l) (rw there) (record { represents = rw gone k; fit = remove_first-fit (eq_row row) l f })

-- ---- an event that is its number alone
module _ (l : List Row) {w w' : List ℕ} (h : HoldsRows w l) where
  pub down-came : Represents w' (down (table_of l)).state → Came (rows (after_down l)) w' (Ok tt)
  unfolding down
  down-came k = came-rows (after_down l) refl (record { represents = k; fit = keep-fit _ l h.fit })

  pub last-came : Represents w' (deviceless (table_of l)) → Came (rows (after_last l)) w' (Ok tt)
  last-came k = came-rows (after_last l) refl (record { represents = k; fit = keep-fit _ l h.fit })

-- ---- an event by its kind
module _ (e : Row) (l : List Row) where
  pub of-address : 1 ≤ kind e → kind e ≤ 2 → event e l ≡ provided (fit_address_event e) (rows l)
  unfolding event
  of-address a b =
      test-case (eqb (kind e) 1) (λ t. rw t)
      (λ t. let two : kind e ≡ 2 = omega (arith, eqb-false (kind e) 1 t) in rw two)

  pub of-new-route : kind e ≡ 3 → event e l ≡ provided (fit_new_route e) (added_row (route_row e) (flags e) l)
  unfolding event
  of-new-route k = rw k

  pub of_del_route : kind e ≡ 4 → event e l ≡ provided (fit_del_route e) (deleted_row (route_row e) l)
  unfolding event
  of_del_route k = rw k

  pub of_link_down : kind e ≡ 5 → event e l ≡ provided (fit_mark e) (rows (after_down l))
  unfolding event
  of_link_down k = rw k

  pub of-ip-disabled : kind e ≡ 6 → event e l ≡ provided (fit_mark e) (rows (after_last l))
  unfolding event
  of-ip-disabled k = rw k

  pub of-no-kind : kind e ≢ 1 → kind e ≢ 2 → kind e ≢ 3 → kind e ≢ 4 → kind e ≢ 5 → kind e ≢ 6 → event e l ≡ refused 208
  unfolding event
  of-no-kind a b c d f g =
      rw (ne_eqb (kind e) 1 a, ne_eqb (kind e) 2 b, ne_eqb (kind e) 3 c, ne_eqb (kind e) 4 d, ne_eqb (kind e) 5 f, ne_eqb (kind e) 6 g)
