-- The routes that go are told in their order, and then taken out.
-- Assumes nothing.
use Rattle.std.specs.Prelude.{ℕ, ◌+◌, ◌*◌, ◌≤◌, ◌<◌, ◌≡◌, refl, Bool, true, false, cond, not, List, [], ◌∷◌, ◌++◌, map, eqb, length, get_or, take}
use Rattle.std.proofs.Common.{sym, ap, ◌∙◌, arith, take_all, append-nil, eqb-true, eq-eqb}
use Rattle.std.proofs.lemmas.List.{length-map, length-take, take_more}
use mathlib.Core.List.{map-append}
use Rattle.lists.specs.Lists.{Row, keep}
use Rattle.lists.specs.Bools.{and_both}
use Rattle.lists.specs.All.{all_keep, all_map}
use Rattle.lists.specs.At.{all_take, sized-at}
use Rattle.lists.specs.Keep.{keep_append}
use Rattle.lists.specs.Count.{length-keep, length-keep-most, count-pair}
use Rattle.lists.specs.Rows.{sized}
use Rattle.layout.specs.Event.{del_route4}
use Rattle.definition.specs.State.{State, becomes, with_routes}
use Rattle.definition.specs.Words.{route_count, decode}
use Rattle.definition.specs.Reference.Removal.{dependent_on}
use Rattle.definition.specs.Preservation.Shrinking.{potential}
use Rattle.state.specs.Represents.{Represents, sized_r, count-routes}
use Rattle.state.specs.Stored.{Becomes, decode-held}
use Rattle.step_events.specs.Tells.{Tells}
use Rattle.step_events.specs.Emits.{tells-none, tells-also}
use Rattle.step_events.specs.EmitsWithin.{RoomFor, EmitsWithin, step_same}
use Rattle.step_events.specs.declared.change.Change.{Change}
use Rattle.step_drop_prefsrc.specs.Dependents.{dependents_go, dependent-matches, all_go}

sized-gone : (rows : List Row) → sized 32 rows ≡ true → sized 34 (map del_route4 rows) ≡ true
unfolding del_route4
sized-gone rows h =
    all_map (λ r. eqb (length r) 32) (λ r. eqb (length r) 34) del_route4 rows (λ r e. let w : length r ≡ 32 = eqb-true (length r) 32 e in eq-eqb (length (del_route4 r)) 34 (omega arith)) h

-- of the first i routes those that pass are told, and the state is as it was
pub record Sweeping (q : Row → Bool) (rows : List Row) (i : ℕ) (a b : Change) : Type 0 where
  pub same : b.state.words.now ≡ a.state.words.now
  pub tells : Tells (map del_route4 (keep q (take i rows))) a b

pub sweeping_start : (q : Row → Bool) (rows : List Row) (a : Change) → Sweeping q rows 0 a a
sweeping_start q rows a = record { same = refl; tells = tells-none a }

module _ {q : Row → Bool} {st : State} {a b : Change} {i : ℕ} (h : Represents a.state.words.now st) (k : Sweeping q st.routes i a b) where
  -- there is room for the next where there was for all
  pub sweeping_room : i < route_count a.state.words.now → 34 * (a.told + route_count a.state.words.now) ≤ length a.events.now → 34 * (b.told + 1) ≤ length b.events.now
  sweeping_room n r =
      let those = keep q (take i st.routes) in
      omega (arith, k.tells.told, k.tells.long, length-map those del_route4, length-keep-most q (take i st.routes), length-take i st.routes)

  module _ (n : i < route_count a.state.words.now) {row : Row} (e : row ≡ get_or st.routes i []) where
    next : (t : Bool) → q row ≡ t → keep q (take (i + 1) st.routes) ≡ keep q (take i st.routes) ++ cond t (row ∷ []) []
    next t f =
        let here : keep q (get_or st.routes i [] ∷ []) ≡ cond t (row ∷ []) [] = rw (← e, f) in
        ap (keep q) (take_more st.routes i [] (omega (arith, count-routes h)))
        ∙ keep_append q (take i st.routes) (get_or st.routes i [] ∷ [])
        ∙ ap (λ (x : List Row). keep q (take i st.routes) ++ x) here

    pub sweeping_stays : q row ≡ false → Sweeping q st.routes (i + 1) a b
    sweeping_stays f = record { same = k.same; tells = rw (next false f, append-nil) k.tells }

    pub sweeping_goes : q row ≡ true → {c : Change} → Tells (del_route4 row ∷ []) b c → c.state.words.now ≡ b.state.words.now → Sweeping q st.routes (i + 1) a c
    sweeping_goes f t s =
        let those = keep q (take i st.routes) in
        let wide : Row → Bool = λ r. eqb (length r) 32 in
        let narrow : sized 32 those ≡ true = all_keep wide q (take i st.routes) (all_take wide i st.routes (sized_r h)) in
        let one : length row ≡ 32 = ap length e ∙ sized-at 32 st.routes i (omega (arith, count-routes h)) (sized_r h) in
        let all : map del_route4 (keep q (take (i + 1) st.routes)) ≡ map del_route4 those ++ (del_route4 row ∷ []) =
        ap (map del_route4) (next true f) ∙ map-append del_route4 those (row ∷ [])
        in
        record {
          same = s ∙ k.same;
          tells = rw all (tells-also (sized-gone those narrow) (sized-gone (row ∷ []) (and_both (wide row) true (eq-eqb (length row) 32 one) refl)) k.tells t);
        }

-- all of them
pub sweeping_end : (ip : ℕ) {a b c : Change} {n : ℕ} {st : State} → Sweeping (dependent_on ip) (decode a.state.words.now).routes n a b → n ≡ route_count a.state.words.now
    → RoomFor potential st a → Becomes (λ m. with_routes (keep (λ r. not (dependent_on ip r)) m.routes) m) b.state c.state
    → ((rows : List Row) → Tells rows a b → Tells rows a c) → EmitsWithin potential st (dependents_go ip st) a c
sweeping_end ip {a} {b} {c} {n} {st} k e f s t =
    let q : Row → Bool = dependent_on ip in
    let h = f.holds in
    let all : take n (decode a.state.words.now).routes ≡ st.routes =
    ap (λ (m : State). take n m.routes) (decode-held h) ∙ take_all n st.routes (omega (arith, count-routes h))
    in
    let same = all_go q (dependent-matches ip) st in
    let o = becomes (with_routes (keep (λ x. not (q x)) st.routes) st) (map del_route4 (keep q st.routes)) in
    step_same potential {o = o} (sym same.leaves) (sym same.same_emitted)
    (record {
      emits = record {
        holds = s.holds st (rw k.same h);
        wide = sized-gone (keep q st.routes) (all_keep (λ r. eqb (length r) 32) q st.routes (sized_r h));
        tells = t (map del_route4 (keep q st.routes)) (rw all at k.tells);
      };
      less = omega (arith, length-map (keep q st.routes) del_route4, length-keep q st.routes, length-keep (λ x. not (q x)) st.routes, count-pair q st.routes);
      room = f.room;
    })
