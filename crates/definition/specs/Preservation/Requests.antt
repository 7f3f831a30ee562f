-- A request to add or to delete a route keeps a fit state fit.
-- Assumes nothing.
use Rattle.std.specs.Prelude.{ℕ, ◌≡◌, refl, Bool, true, not, ◌&&◌, List, [], ◌∷◌, eqb, length}
use Rattle.std.proofs.Math.Option.{Option, none, some}
use Rattle.std.proofs.Common.{eqb-true}
use Rattle.lists.specs.Lists.{Row, first, remove_first}
use Rattle.lists.specs.Bools.{cond-case}
use Rattle.lists.specs.All.{all_first}
use Rattle.layout.specs.Route.{fit_route, prefsrc_present}
use Rattle.layout.specs.Event.{new_route4, del_route4}
use Rattle.layout.specs.Request.{fit_add_route4, nlm_flags}
use Rattle.definition.specs.State.{State, with_routes}
use Rattle.definition.specs.Reference.Lookup.{listed}
use Rattle.definition.specs.Reference.Insert.{create4, Insertion, Inserted, placed, nothing}
use Rattle.definition.specs.Reference.Routes.{added_by, routed, Reached, inserted_as, asked_route, reach_check, valid_prefsrc4, form_check, bad_prefix, table_named, selects, deleted_route, del_route4_request}
use Rattle.definition.specs.Preservation.Fit.{Invariant, FitRoutes}
use Rattle.definition.specs.Preservation.Routes.{remove_first-fit, Puts}
use Rattle.definition.specs.Preservation.Keeps.{KeptOutcome, KeepsOutcome, fit-routes, becomes-kept, stays_keeps}
use Rattle.definition.specs.Preservation.Rows.{asked_route-fit, new_route4-emitted, del_route4-emitted}
use Rattle.definition.specs.Preservation.Addresses.{create4-fit}

inserted_as-kept : (new : Row) (i : Inserted) (st : State) → fit_route new ≡ true → Puts i → Invariant st → KeptOutcome (inserted_as new i st)
inserted_as-kept new (placed rows flags) st h p f =
    becomes-kept (with_routes rows st) (new_route4 new flags ∷ []) (new_route4-emitted new flags h) (fit-routes st rows f p)
inserted_as-kept new nothing st h p f = stays_keeps.kept st f
inserted_as-kept new (Inserted.unplaced n) st h p f = f

-- an insertion that leaves fit rows
abbrev pub InsertsFit : Insertion → Type 0
InsertsFit insert = (new : Row) (flags : ℕ) (l : List Row) → fit_route new ≡ true → FitRoutes l → Puts (insert new flags l)

routed-kept : (insert : Insertion) → InsertsFit insert → (q : Row) (r : Reached) (st : State) → ((linked : Bool) → fit_route (asked_route q linked) ≡ true) → Invariant st
    → KeptOutcome (routed insert q r st)
routed-kept insert i q (Reached.unreached n) st h f = f
routed-kept insert i q (Reached.by linked) st h f =
    cond-case KeptOutcome (eqb (prefsrc_present q) 1 && not (valid_prefsrc4 q st)) (λ e. f)
    (λ e. inserted_as-kept (asked_route q linked) (insert (asked_route q linked) (nlm_flags q) st.routes) st (h linked)
    (i (asked_route q linked) (nlm_flags q) st.routes (h linked) f.of_routes) f)

pub added_keeps : (insert : Insertion) → InsertsFit insert → (q : Row) → length q ≡ 34 → fit_add_route4 q ≡ true → KeepsOutcome (added_by insert q)
unfolding added_by
added_keeps insert i q long fit =
    record {
      kept = λ st f.
          let made : State = create4 (table_named q) st in
          let g : Invariant made = create4-fit (table_named q) st f in
          cond-case KeptOutcome (eqb (form_check q) 0)
          (λ e. routed-kept insert i q (reach_check q made) made (λ linked. asked_route-fit q linked long fit (eqb-true (form_check q) 0 e)) g)
          (λ e. g);
    }

deleted_route-kept : (q : Row) (o : Option Row) (st : State) → ((r : Row) → o ≡ some r → fit_route r ≡ true) → Invariant st → KeptOutcome (deleted_route q o st)
deleted_route-kept q none st h f = f
deleted_route-kept q (some r) st h f =
    becomes-kept (with_routes (remove_first (selects q) st.routes) st) (del_route4 r ∷ []) (del_route4-emitted r (h r refl))
    (fit-routes st (remove_first (selects q) st.routes) f (remove_first-fit (selects q) st.routes f.of_routes))

pub del_route4_keeps : (q : Row) → KeepsOutcome (del_route4_request q)
unfolding del_route4_request
del_route4_keeps q =
    record {
      kept = λ st f.
          cond-case KeptOutcome (listed (table_named q) st)
          (λ e. cond-case KeptOutcome (bad_prefix q) (λ d. f) (λ d. deleted_route-kept q (first (selects q) st.routes) st (λ r k. all_first fit_route (selects q) st.routes r f.of_routes.each k) f))
          (λ e. f);
    }
