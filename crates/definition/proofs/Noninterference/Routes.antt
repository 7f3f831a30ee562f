-- Requests that name a table that isn't chosen, and the listing.
use Rattle.std.specs.Prelude.{ℕ, ◌%◌, ◌≡◌, Bool, false, not, ◌&&◌}
use Rattle.std.proofs.Math.Path.{refl, sym, ap}
use Rattle.std.proofs.Common.{◌∙◌, eqb-true}
use Rattle.std.proofs.Math.Bool.{true, cond}
use Rattle.std.proofs.lemmas.Bool.{false≢true}
use mathlib.Core.List.{List, reverse}
use Rattle.std.proofs.Math.Option.{Option, none, some}
use Rattle.std.proofs.Math.Dec.{eqb}
use Rattle.lists.specs.Lists.{Row, keep, first}
use Rattle.lists.specs.Bools.{test-case}
use Rattle.lists.specs.Keep.{Implies, keep-each, keep-reverse, keep-keep, keep-none, each_keep, each_same, first-within}
use Rattle.layout.specs.Route.{table, prefsrc, prefsrc_present}
use Rattle.layout.specs.Request.{nlm_flags}
use Rattle.definition.specs.State.{State}
use Rattle.definition.specs.Reference.Lookup.{main_table, local_table, together, listed}
use Rattle.definition.specs.Reference.Insert.{Insertion, Inserted, placed, nothing, create4}
use Rattle.definition.specs.Reference.Routes.{Reached, by, unreached, table_named, bad_prefix, form_check, onlink_check, to_gateway, gateway_route, gateway4, reach_check, valid_prefsrc4, asked_route, inserted_as, routed, added_by, selects, deleted_route, del_route4_request}
use Rattle.definition.specs.Reference.Source.{below, table_order, dump4}
use Rattle.definition.specs.Noninterference.Statement.{Choice, outside}
use Rattle.definition.specs.Noninterference.Projection.{unchosen, without, unchosen_as, Tandem, both_go, both-refuse, tandem_cond}
use Rattle.definition.proofs.Noninterference.Tables.{local_open, main_open, answer-consistent, together_open, lookup_in-consistent, addr_type4-consistent, listed-consistent, create4-consistent, kept_in, removal_consistent}

module _ (chosen : ℕ → Bool) (choice : Choice chosen) where
  -- table 0 is 254
  pub named_open : (q : Row) → chosen (table q) ≡ false → unchosen chosen (table_named q) ≡ true
  named_open q o =
      test-case (eqb (table q) 0) (λ e. rw e (main_open chosen choice)) (λ e. rw (e, o))

  -- an insertion that goes the same way without the chosen tables
  abbrev pub InsertsConsistent : Insertion → Type 0
  InsertsConsistent insert =
      (new : Row) → outside chosen new ≡ true → (flags : ℕ) (rows : List Row) → insert new flags (keep (outside chosen) rows) ≡ kept_in chosen choice (insert new flags rows)

  -- ---- requests to add a route
  module _ (q : Row) (o : chosen (table q) ≡ false) where
    onlink_check-consistent : (st : State) → onlink_check q (without chosen st) ≡ onlink_check q st
    unfolding onlink_check
    onlink_check-consistent st = rw (addr_type4-consistent chosen choice st _ local_table (local_open chosen choice))

    gateway_route-consistent : (st : State) → gateway_route q (without chosen st) ≡ gateway_route q st
    unfolding gateway_route
    gateway_route-consistent st =
        rw (
          answer-consistent chosen choice (together (table_named q)) (together_open chosen choice (table_named q)) (to_gateway q) st.routes,
          lookup_in-consistent chosen choice st (to_gateway q),
        )

    reach_check-consistent : (st : State) → reach_check q (without chosen st) ≡ reach_check q st
    unfolding reach_check gateway4
    reach_check-consistent st = rw (onlink_check-consistent st, gateway_route-consistent st)

    valid_prefsrc4-consistent : (st : State) → valid_prefsrc4 q (without chosen st) ≡ valid_prefsrc4 q st
    unfolding valid_prefsrc4
    valid_prefsrc4-consistent st =
        let own = cond (eqb (table_named q) main_table) local_table (table_named q) in
        let own_open : unchosen chosen own ≡ true =
        test-case (eqb (table_named q) main_table) (λ e. rw e (local_open chosen choice)) (λ e. rw e (named_open q o))
        in
        rw (
          addr_type4-consistent chosen choice st (prefsrc q) own own_open,
          addr_type4-consistent chosen choice st (prefsrc q) local_table (local_open chosen choice),
        )

    inserted_as-consistent : (new : Row) (i : Inserted) (st : State) → Tandem chosen (inserted_as new i st) (inserted_as new (kept_in chosen choice i) (without chosen st))
    unfolding kept_in
    inserted_as-consistent new (placed rows flags) st = both_go (record { state = refl; emitted = refl })
    inserted_as-consistent new nothing st = both_go (record { state = refl; emitted = refl })
    inserted_as-consistent new (Inserted.unplaced n) st = both-refuse n st

    asked-outside : (linked : Bool) → outside chosen (asked_route q linked) ≡ true
    unfolding asked_route
    asked-outside linked = named_open q o

    routed-consistent : (insert : Insertion) → InsertsConsistent insert → (reached : Reached) (st : State) → Tandem chosen (routed insert q reached st) (routed insert q reached (without chosen st))
    routed-consistent insert i (unreached n) st = both-refuse n st
    routed-consistent insert i (by linked) st =
        let new = asked_route q linked in
        rw (valid_prefsrc4-consistent st, i new (asked-outside linked) (nlm_flags q) st.routes)
        (tandem_cond chosen (eqb (prefsrc_present q) 1 && not (valid_prefsrc4 q st)) _ _ _ _ (both-refuse 22 st)
        (inserted_as-consistent new (insert new (nlm_flags q) st.routes) st))

    pub added-consistent : (insert : Insertion) → InsertsConsistent insert → (st : State) → Tandem chosen (added_by insert q st) (added_by insert q (without chosen st))
    unfolding added_by
    added-consistent insert i st =
        let made = create4 (table_named q) st in
        rw (create4-consistent chosen choice (table_named q) (named_open q o) st, reach_check-consistent made)
        (tandem_cond chosen (eqb (form_check q) 0) _ _ _ _ (routed-consistent insert i (reach_check q made) made) (both-refuse (form_check q) made))

    -- ---- requests to delete one
    selects-outside : Implies (selects q) (outside chosen)
    unfolding selects
    selects-outside r h =
        unchosen_as chosen (table_named q) (table r) (named_open q o)
        (test-case (eqb (table r) (table_named q)) (λ e. e) (λ e. absurd (false≢true (rw e at h))))

    deleted_route-consistent : (found : Option Row) (st : State) → Tandem chosen (deleted_route q found st) (deleted_route q found (without chosen st))
    deleted_route-consistent none st = both-refuse 3 st
    deleted_route-consistent (some r) st =
        both_go (record { state = sym (removal_consistent chosen choice (selects q) selects-outside st); emitted = refl })

    pub del_route4_request-consistent : (st : State) → Tandem chosen (del_route4_request q st) (del_route4_request q (without chosen st))
    unfolding del_route4_request
    del_route4_request-consistent st =
        rw (
          listed-consistent chosen choice (table_named q) (named_open q o) st,
          first-within (selects q) (outside chosen) selects-outside st.routes,
        )
        (tandem_cond chosen (listed (table_named q) st) _ _ _ _
        (tandem_cond chosen (bad_prefix q) _ _ _ _ (both-refuse 22 st) (deleted_route-consistent (first (selects q) st.routes) st))
        (both-refuse 3 st))

  -- ---- the listing
  table_order-consistent : (l : List ℕ) → table_order (keep (unchosen chosen) l) ≡ keep (unchosen chosen) (table_order l)
  unfolding table_order
  table_order-consistent l =
      sym
      (keep-each (unchosen chosen) (λ b. reverse (keep (λ t. eqb (t % 256) b) l)) (below 256)
      ∙ each_same _ _ (λ b. keep-reverse (unchosen chosen) (keep (λ t. eqb (t % 256) b) l) ∙ ap reverse (keep-keep (unchosen chosen) (λ t. eqb (t % 256) b) l)) (below 256))

  pub dump4-consistent : (st : State) → dump4 (without chosen st) ≡ keep (outside chosen) (dump4 st)
  unfolding dump4
  dump4-consistent st =
      rw (table_order-consistent st.tables)
      (each_keep (λ t. keep (λ r. eqb (table r) t) (keep (outside chosen) st.routes)) (unchosen chosen)
      (λ t e. keep-none (λ r. eqb (table r) t) (outside chosen) (λ r h. rw (eqb-true (table r) t h) e) st.routes)
      (table_order st.tables)
      ∙ each_same _ _ (λ t. keep-keep (λ r. eqb (table r) t) (outside chosen) st.routes) (table_order st.tables)
      ∙ sym (keep-each (outside chosen) (λ t. keep (λ r. eqb (table r) t) st.routes) (table_order st.tables)))
