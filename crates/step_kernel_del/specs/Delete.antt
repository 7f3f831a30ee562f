-- A route deleted: the first that is matches.
-- Assumes nothing.
use Rattle.std.specs.Prelude.{ℕ, suc, ◌+◌, ◌*◌, ◌≤◌, ◌<◌, ◌≡◌, [], ◌∷◌, ◌++◌, length, get_or, take, drop, position, Some, None}
use Rattle.std.proofs.Common.{arith, sym, ap, ◌∙◌}
use Rattle.std.proofs.Math.Option.{none, some}
use Rattle.std.proofs.Math.ListN.{get_elem?}
use Rattle.lists.specs.Lists.{Row, first, remove_first}
use Rattle.lists.specs.Count.{count}
use Rattle.lists.specs.At.{remove_at, sized-at}
use Rattle.lists.specs.Place.{first-at, remove_at_lem, nothing-from, something_at}
use Rattle.lists.specs.Library.{found-place, missing-place}
use Rattle.layout.specs.Event.{del_route4}
use Rattle.definition.specs.State.{State, with_routes}
use Rattle.definition.specs.Words.{route_count}
use Rattle.definition.specs.Reference.Insert.{matches, kernel_del4}
use Rattle.definition.specs.Preservation.Shrinking.{potential, live, kernel_del4_away}
use Rattle.state.specs.Represents.{Represents, sized_r, count-routes}
use Rattle.step_events.specs.Row.{del_route-long}
use Rattle.step_events.specs.Tells.{Tells}
use Rattle.step_events.specs.Emits.{Emits, does-none, does-one}
use Rattle.step_events.specs.EmitsWithin.{RoomFor, SomeRoom, EmitsWithin, does-step}
use Rattle.step_events.specs.declared.change.Change.{Change}

-- ---- the deletion
module _ (p : Row) (st : State) {a : Change} (h : Represents a.state.words.now st) where
  pub none-matches : position (matches p) st.routes ≡ None → Emits (kernel_del4 p st) a a
  unfolding kernel_del4
  none-matches e =
      let missing : first (matches p) st.routes ≡ none =
      first-at (matches p) st.routes ∙ ap (get_elem? st.routes) (missing-place (matches p) st.routes e) ∙ nothing-from st.routes (length st.routes) (omega arith)
      in
      rw missing (does-none st a h)

  pub one-matches : {b : Change} (i : ℕ) → position (matches p) st.routes ≡ Some i → Represents b.state.words.now (with_routes (remove_at i st.routes) st)
      → Tells (del_route4 (get_or st.routes i []) ∷ []) a b → Emits (kernel_del4 p st) a b
  unfolding kernel_del4 remove_at
  one-matches i e k t =
      let f = found-place (matches p) st.routes i e in
      let r = get_or st.routes i [] in
      let found : first (matches p) st.routes ≡ some r = first-at (matches p) st.routes ∙ ap (get_elem? st.routes) (sym f.0) ∙ something_at st.routes i [] f.1 in
      let gone : remove_first (matches p) st.routes ≡ take i st.routes ++ drop (suc i) st.routes = rw (← f.0) at (remove_at_lem (matches p) st.routes) in
      rw (found, gone) (does-one (with_routes (take i st.routes ++ drop (suc i) st.routes) st) (del_route4 r) k (del_route-long r (sized-at 32 st.routes i f.1 (sized_r h))) t)

-- ---- among removals: it emits no more than the routes fall
pub deletes : {st : State} {a b : Change} (p : Row) → RoomFor potential st a → Emits (kernel_del4 p st) a b → EmitsWithin potential st (kernel_del4 p st) a b
deletes {st} p f d =
    let away = kernel_del4_away p st in
    does-step potential d f (omega (arith, away.shrunk, ap length away.same_addresses, ap (count live) away.same_addresses))

pub ready_row : {a : Change} → SomeRoom potential a → 0 < route_count a.state.words.now → 34 * (a.told + 1) ≤ length a.events.now
ready_row y b = omega (arith, y.fits.room, count-routes y.fits.holds)
