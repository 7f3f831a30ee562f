-- The calls on addresses: what they do to routes, they do outside the chosen tables.
use Prim.Native.Nat.{ℕ, zero, suc}
use Rattle.std.specs.Prelude.{◌≡◌, Bool, cond, ◌&&◌, length}
use Rattle.std.proofs.Math.Path.{refl, ap}
use Rattle.std.proofs.Math.Bool.{true, false, not}
use Rattle.std.proofs.lemmas.Bool.{false≢true}
use mathlib.Core.List.{List, [], ◌∷◌, ◌++◌, map}
use Rattle.std.proofs.Math.Option.{Option, none, some}
use Rattle.std.proofs.Math.Dec.{eqb}
use Rattle.lists.specs.Lists.{Row, keep, all, any, first, remove_first, eq_row}
use Rattle.lists.specs.Bools.{test-case, cond_map, cond_same}
use Rattle.lists.specs.All.{all_keep, all-kept, all_mono}
use Rattle.lists.specs.Keep.{Implies, all-joined, keep-keep, keep-within}
use Rattle.layout.specs.Address.{local}
use Rattle.layout.specs.Route as Route
use Rattle.layout.specs.Route.{table, dst, len, kind}
use Rattle.layout.specs.Request.{replace_asked}
use Rattle.definition.specs.State.{State, also, through, with_routes}
use Rattle.definition.specs.Reference.Lookup.{main_table, local_kind, broadcast_kind, listed, local4}
use Rattle.definition.specs.Reference.Insert.{kernel_add4, kernel_del4}
use Rattle.definition.specs.Reference.Addresses.{only, kernel_route, local_route, prefix_route, up_routes, primary_of, candidates, place4, install, new_address, change_v4, moved, reroutes, same_address, added_over, add_v4, up, down, loopback, out_of, Outcome}
use Rattle.definition.specs.Reference.Removal.{any_priority, of_kind, leaving, unwanted, wanted, dependent_on, fall, disable, remove_one, gone_with, remove_v4, deletes, deleted_at, del_v4, due, deprecate_due, passes, expire}
use Rattle.definition.specs.Noninterference.Statement.{Choice, outside}
use Rattle.definition.specs.Noninterference.Projection.{without, unchosen_as, Mirrors, StepConsistent, Tandem, both_go, both-refuse, mirrors_also, mirrors_cond, consistent-through, consistent-all, tandem_cond}
use Rattle.definition.proofs.Noninterference.Tables.{local_open, main_open, listed-consistent, local4-consistent, kernel_add4-consistent, kernel_del4-consistent}

module _ (chosen : ℕ → Bool) (choice : Choice chosen) where
  -- ---- the routes of an address are in the local table
  kernel_route-outside : (dst len priority kind source : ℕ) → outside chosen (kernel_route dst len priority kind source) ≡ true
  unfolding kernel_route
  kernel_route-outside dst len priority kind source = local_open chosen choice

  only-outside : (b : Bool) (r : Row) → all (outside chosen) (only b r) ≡ cond b (outside chosen r && true) true
  only-outside b r = cond_map (all (outside chosen)) b (r ∷ []) []

  up_routes-outside : (source : ℕ) (a : Row) → all (outside chosen) (up_routes source a) ≡ true
  unfolding up_routes prefix_route
  up_routes-outside source a =
      simp (all-joined, only-outside, kernel_route-outside, cond_same)

  local_route-outside : (source : ℕ) (a : Row) → outside chosen (local_route source a) ≡ true
  unfolding local_route kernel_route
  local_route-outside source a = local_open chosen choice

  candidates-outside : (addresses : List Row) (up : Bool) (a : Row) → all (outside chosen) (candidates addresses up a) ≡ true
  unfolding candidates
  candidates-outside addresses true a = rw (local_route-outside _ a) (up_routes-outside _ a)
  candidates-outside addresses false a = rw (local_route-outside _ a)

  -- ---- an address more, or another in its place
  install-consistent : (routes : List Row) → all (outside chosen) routes ≡ true → StepConsistent chosen (install routes)
  unfolding install
  install-consistent routes h = consistent-through chosen kernel_add4 (outside chosen) (kernel_add4-consistent chosen choice) routes h

  new_address-consistent : (new : Row) (up : Bool) → StepConsistent chosen (new_address new up)
  unfolding new_address
  new_address-consistent new up st =
      mirrors_also chosen _ _ _ (record { state = refl; emitted = refl })
      (install-consistent _ (candidates-outside (place4 new st.addresses) up new))

  moved-consistent : (q old : Row) → StepConsistent chosen (moved q old)
  unfolding moved prefix_route
  moved-consistent q old st =
      mirrors_cond chosen (reroutes q old) _ _ _ _
      (mirrors_also chosen _ _ _ (kernel_add4-consistent chosen choice _ (kernel_route-outside _ _ _ _ _) st)
      (kernel_del4-consistent chosen choice _ (kernel_route-outside _ _ _ _ _)))
      (record { state = refl; emitted = refl })

  change_v4-consistent : (q old : Row) (now : ℕ) → StepConsistent chosen (change_v4 q old now)
  unfolding change_v4
  change_v4-consistent q old now st =
      mirrors_also chosen _ _ _ (moved-consistent q old st) (λ later. record { state = refl; emitted = refl })

  added_over-consistent : (q : Row) (now : ℕ) (found : Option Row) (st : State) → Tandem chosen (added_over q now found st) (added_over q now found (without chosen st))
  added_over-consistent q now (some old) st =
      tandem_cond chosen (eqb (replace_asked q) 1) _ _ _ _ (both_go (change_v4-consistent q old now st)) (both-refuse 17 st)
  added_over-consistent q now none st = both_go (new_address-consistent _ _ st)

  pub add_v4-consistent : (q : Row) (now : ℕ) (st : State) → Tandem chosen (add_v4 q now st) (add_v4 q now (without chosen st))
  unfolding add_v4
  add_v4-consistent q now st = added_over-consistent q now (first (same_address q) st.addresses) st

  -- ---- up and down
  step-consistent : (o p : Outcome) → Tandem chosen o p → Mirrors chosen (out_of o) (out_of p)
  step-consistent o p (both_go m) = m
  step-consistent o p (both-refuse n st) = record { state = refl; emitted = refl }

  pub up-consistent : (now : ℕ) → StepConsistent chosen (up now)
  unfolding up
  up-consistent now st =
      mirrors_also chosen _ _ _ (step-consistent _ _ (add_v4-consistent loopback now st))
      (λ later. consistent-all chosen (λ a. install (candidates later.addresses true a)) (λ a. install-consistent _ (candidates-outside later.addresses true a)) later.addresses later)

  pub down-consistent : StepConsistent chosen down
  unfolding down
  down-consistent st =
      record {
        state = ap (λ l. with_routes l (without chosen st)) (keep-keep _ (outside chosen) st.routes);
        emitted = refl;
      }

  -- ---- an address less
  leaving-outside : (addresses : List Row) (a : Row) → all (outside chosen) (leaving addresses a) ≡ true
  unfolding leaving
  leaving-outside addresses a =
      let source = primary_of addresses a in
      rw (
        all-joined (outside chosen) (map any_priority (keep (of_kind local_kind) (up_routes source a))) (keep (of_kind broadcast_kind) (up_routes source a) ++ (local_route source a ∷ [])),
        all-joined (outside chosen) (keep (of_kind broadcast_kind) (up_routes source a)) (local_route source a ∷ []),
        any_priority-outside (keep (of_kind local_kind) (up_routes source a)),
        all_keep (outside chosen) (of_kind broadcast_kind) (up_routes source a) (up_routes-outside source a),
        local_route-outside source a,
      )
    where
      any_priority-outside : (l : List Row) → all (outside chosen) (map any_priority l) ≡ true
      any_priority-outside [] = refl
      any_priority-outside (r ∷ l) = rw (kernel_route-outside (dst r) (len r) 0 (kind r) (Route.prefsrc r)) (any_priority-outside l)

  unwanted-outside : (addresses remaining : List Row) (a : Row) → all (outside chosen) (unwanted addresses remaining a) ≡ true
  unfolding unwanted
  unwanted-outside addresses remaining a = all_keep (outside chosen) (λ r. not (wanted remaining r)) (leaving addresses a) (leaving-outside addresses a)

  deletions_consistent : (routes : List Row) → all (outside chosen) routes ≡ true → StepConsistent chosen (through kernel_del4 routes)
  deletions_consistent routes h = consistent-through chosen kernel_del4 (outside chosen) (kernel_del4-consistent chosen choice) routes h

  dependents-outside : (ip : ℕ) → Implies (dependent_on ip) (outside chosen)
  dependents-outside ip r h =
      unchosen_as chosen main_table (table r) (main_open chosen choice)
      (test-case (eqb (table r) main_table) (λ e. e) (λ e. absurd (false≢true (rw e at h))))

  falling : ℕ → State → List Row
  falling ip st = cond (listed main_table st) (keep (dependent_on ip) st.routes) []

  falling-outside : (ip : ℕ) (st : State) → all (outside chosen) (falling ip st) ≡ true
  unfolding falling
  falling-outside ip st =
      test-case (listed main_table st)
      (λ e. rw e (all_mono (dependent_on ip) (outside chosen) (keep (dependent_on ip) st.routes) (dependents-outside ip) (all-kept (dependent_on ip) st.routes)))
      (λ e. rw e)

  falling-consistent : (ip : ℕ) (st : State) → falling ip (without chosen st) ≡ falling ip st
  unfolding falling
  falling-consistent ip st =
      rw (
        listed-consistent chosen choice main_table (main_open chosen choice) st,
        keep-within (dependent_on ip) (outside chosen) (dependents-outside ip) st.routes,
      )

  fall-consistent : (a : Row) (routes : List Row) → StepConsistent chosen (fall a routes)
  unfolding fall falling
  fall-consistent a routes st =
      rw (local4-consistent chosen choice st (local a), falling-consistent (local a) st)
      (mirrors_cond chosen (any (λ r. of_kind local_kind r && eqb (len r) 32) routes && not (local4 st (local a))) _ _ _ _ (deletions_consistent _ (falling-outside (local a) st) st)
      (record { state = refl; emitted = refl }))

  disable-consistent : StepConsistent chosen disable
  unfolding disable
  disable-consistent st =
      mirrors_cond chosen (eqb (length st.addresses) 0) _ _ _ _
      (record {
        state = ap (λ l. with_routes l (without chosen st)) (keep-keep _ (outside chosen) st.routes);
        emitted = refl;
      })
      (record { state = refl; emitted = refl })

  remove_one-consistent : (a : Row) → StepConsistent chosen (remove_one a)
  unfolding remove_one
  remove_one-consistent a st =
      let remaining = remove_first (eq_row a) st.addresses in
      mirrors_also chosen _ _ _
      (mirrors_also chosen _ _ _
      (mirrors_also chosen _ _ _ (record { state = refl; emitted = refl }) (deletions_consistent _ (unwanted-outside st.addresses remaining a)))
      (fall-consistent a _))
      disable-consistent

  remove_v4-consistent : (a : Row) → StepConsistent chosen (remove_v4 a)
  unfolding remove_v4
  remove_v4-consistent a st = consistent-all chosen remove_one remove_one-consistent (gone_with st.addresses a) st

  deleted_at-consistent : (found : Option Row) (st : State) → Tandem chosen (deleted_at found st) (deleted_at found (without chosen st))
  deleted_at-consistent none st = both-refuse 99 st
  deleted_at-consistent (some a) st = both_go (remove_v4-consistent a st)

  pub del_v4-consistent : (q : Row) (st : State) → Tandem chosen (del_v4 q st) (del_v4 q (without chosen st))
  unfolding del_v4
  del_v4-consistent q st = deleted_at-consistent (first (deletes q) st.addresses) st

  -- ---- expire
  deprecate_due-consistent : (allowance now : ℕ) → StepConsistent chosen (deprecate_due allowance now)
  unfolding deprecate_due
  deprecate_due-consistent allowance now st = record { state = refl; emitted = refl }

  passes-consistent : (n allowance now : ℕ) → StepConsistent chosen (passes n allowance now)
  unfolding passes
  passes-consistent zero allowance now st = deprecate_due-consistent allowance now st
  passes-consistent (suc n) allowance now st =
      let go : (found : Option Row) → Mirrors chosen (elim found [ none ↦ deprecate_due allowance now st | some a ↦ also (also (deprecate_due allowance now st) (remove_v4 a)) (passes n allowance now) ]) (elim found [ none ↦ deprecate_due allowance now (without chosen st) | some a ↦ also (also (deprecate_due allowance now (without chosen st)) (remove_v4 a)) (passes n allowance now) ]) =
      elim [ none ↦ deprecate_due-consistent allowance now st | some a ↦ mirrors_also chosen _ _ _ (mirrors_also chosen _ _ _ (deprecate_due-consistent allowance now st) (remove_v4-consistent a)) (passes-consistent n allowance now) ]
      in
      go (first (due allowance now) st.addresses)

  pub expire-consistent : (allowance now : ℕ) → StepConsistent chosen (expire allowance now)
  unfolding expire
  expire-consistent allowance now st = passes-consistent (length st.addresses) allowance now st
