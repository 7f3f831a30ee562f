-- The ways out of a deletion.
-- Assumes nothing.
use Rattle.std.specs.Prelude.{ℕ, ◌≡◌, true, false, Bool, List, [], ◌∷◌, Ok, Err, Some, None, length, get_or, position}
use Rattle.std.proofs.Common.{arith, sym, ap, ◌∙◌}
use Rattle.std.proofs.Math.Option.{none, some}
use Rattle.std.proofs.Math.ListN.{get_elem?}
use Rattle.lists.specs.Lists.{Row, among, first, remove_first}
use Rattle.lists.specs.At.{remove_at, sized-at}
use Rattle.lists.specs.Place.{first-at, remove_at_lem, nothing-from, something_at}
use Rattle.lists.specs.Library.{found-place, missing-place}
use Rattle.refusal.specs.declared.Refusal.TheVariants.{Errno}
use Rattle.layout.specs.Event.{del_route4}
use Rattle.definition.specs.State.{State, with_routes}
use Rattle.definition.specs.Reference.Lookup.{listed}
use Rattle.definition.specs.Reference.Routes.{table_named, bad_prefix, selects, del_route4_request}
use Rattle.state.specs.Represents.{Represents, sized_r}
use Rattle.state_tables.specs.Listed.{tables_of}
use Rattle.state_read.specs.Parts.{listed-there}
use Rattle.step_events.specs.Row.{del_route-long}
use Rattle.step_events.specs.Tells.{Tells}
use Rattle.step_events.specs.Emits.{tells-none}
use Rattle.step_events.specs.Comes.{ComesWhole}
use Rattle.step_events.specs.declared.change.Change.{Change}
use Rattle.step_route_request.specs.Ways.{request-refused, request-emitted}

on-off : (q : Row) {w : List ℕ} {st : State} → Represents w st → (t : ℕ) → t ≡ table_named q → (b : Bool) → b ≡ among t (tables_of w) → listed (table_named q) st ≡ b
on-off q {st = st} h t e b f = ap (λ (n : ℕ). listed n st) (sym e) ∙ sym (listed-there h t) ∙ sym f

module _ (q : Row) {st : State} {a : Change} (h : Represents a.state.words.now st) (t : ℕ) (e : t ≡ table_named q) where
  pub del_unlisted : false ≡ among t (tables_of a.state.words.now) → ComesWhole st (del_route4_request q st) a a (Err (Errno 3))
  unfolding del_route4_request
  del_unlisted f = rw (on-off q h t e false f) (request-refused st st h (tells-none a) 3)

  module _ (f : true ≡ among t (tables_of a.state.words.now)) where
    pub del_bad : true ≡ bad_prefix q → ComesWhole st (del_route4_request q st) a a (Err (Errno 22))
    unfolding del_route4_request
    del_bad k = rw (on-off q h t e true f, ← k) (request-refused st st h (tells-none a) 22)

    module _ (k : false ≡ bad_prefix q) where
      pub del_none : position (selects q) st.routes ≡ None → ComesWhole st (del_route4_request q st) a a (Err (Errno 3))
      unfolding del_route4_request
      del_none m =
          let none-there : first (selects q) st.routes ≡ none =
          first-at (selects q) st.routes ∙ ap (get_elem? st.routes) (missing-place (selects q) st.routes m) ∙ nothing-from st.routes (length st.routes) (omega arith)
          in
          rw (on-off q h t e true f, ← k, none-there) (request-refused st st h (tells-none a) 3)

      pub del_row : (i : ℕ) → position (selects q) st.routes ≡ Some i → {b : Change} → Represents b.state.words.now (with_routes (remove_at i st.routes) st) → Tells (del_route4 (get_or st.routes i []) ∷ []) a b
          → ComesWhole st (del_route4_request q st) a b (Ok tt)
      unfolding del_route4_request
      del_row i m {b} after told =
          let p = found-place (selects q) st.routes i m in
          let r = get_or st.routes i [] in
          let there : first (selects q) st.routes ≡ some r = first-at (selects q) st.routes ∙ ap (get_elem? st.routes) (sym p.0) ∙ something_at st.routes i [] p.1 in
          let rest : remove_at i st.routes ≡ remove_first (selects q) st.routes = unfold remove_at in
          ap (λ (n : ℕ). remove_at n st.routes) p.0 ∙ sym (remove_at_lem (selects q) st.routes)
          in
          rw (on-off q h t e true f, ← k, there)
          (request-emitted st (with_routes (remove_first (selects q) st.routes) st) (rw rest at after) (del_route4 r) (del_route-long r (sized-at 32 st.routes i p.1 (sized_r h))) told)
