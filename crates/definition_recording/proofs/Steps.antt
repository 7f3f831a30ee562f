-- Every step of the reference emits events that rebuild its routes.
-- Assumes nothing.
use Rattle.std.specs.Prelude.{ℕ, zero, suc, ◌≡◌, refl, Bool, true, cond, not, ◌&&◌, List, [], ◌∷◌, map, eqb, leb, length}
use Rattle.std.proofs.Common.{sym, ◌∙◌, eqb-true}
use Rattle.std.proofs.Math.Path.{ap}
use Rattle.std.proofs.Math.Option.{Option, none, some}
use Rattle.lists.specs.Lists.{Row, all, any, keep, first, until, remove_first, eq_row}
use Rattle.lists.specs.Bools.{and_iff, cond-case}
use Rattle.lists.specs.All.{all_head, all_tail, all_first, all_keep, all-until, all_always, all-replace_first, all-remove_first}
use Rattle.layout.specs.Address.{fit_address, local, priority}
use Rattle.layout.specs.Route as Route
use Rattle.layout.specs.Route.{fit_route, table}
use Rattle.layout.specs.Event.{new_addr4, del_addr4, new_route4, del_route4, link_down, ip_disabled}
use Rattle.layout.specs.Request.{fit_add_v4, replace_asked, up_at_add_v4, nlm_flags, fit_add_route4}
use Rattle.definition.specs.State.{State, sizes, becomes, also, through, with_addresses, with_routes}
use Rattle.definition.specs.Words.{within}
use Rattle.definition.specs.Reference.Insert.{create4, Insertion, insert4, Inserted, placed, nothing, unplaced, inserted, kernel_add4, kernel_del4, kernel_flags, matches, removed}
use Rattle.definition.specs.Reference.Addresses.{Outcome, goes, refused, candidates, prefix_route, install, place4, new_address, changed_to, moved, reroutes, change_v4, added_over, add_v4, asked, as_secondary, same_address, same_subnet, loopback, out_of, up, down}
use Rattle.definition.specs.Reference.Removal.{unwanted, dependents_fall, dependents, fall, disable, remove_one, gone_with, remove_v4, deletes, deleted_at, del_v4, due, deprecates, deprecate, deprecate_due, passes, expire}
use Rattle.definition.specs.Reference.Lookup.{listed}
use Rattle.definition.specs.Reference.Routes.{Reached, added_by, routed, inserted_as, asked_route, reach_check, valid_prefsrc4, form_check, bad_prefix, table_named, selects, deleted_route, del_route4_request}
use Rattle.definition.specs.Preservation.Fit.{Invariant, fields_address}
use Rattle.definition.specs.Preservation.Keeps.{fit-addresses, fit-routes}
use Rattle.definition.specs.Preservation.Routes.{keep-fit, remove_first-fit, Puts}
use Rattle.definition.specs.Preservation.Rows.{deprecate-fit, asked-fit, as_secondary-fit, changed_to-fit, candidates-fit, subnet_fit, asked_route-fit}
use Rattle.definition.specs.Preservation.Addresses.{create4-fit, kernel_add4_keeps, place4-fit, loopback-fit}
use Rattle.definition.specs.Preservation.Removal.{gone_with-fit, deprecate_due_keeps, option_case}
use Rattle.definition.specs.Preservation.Requests.{InsertsFit}
use Rattle.definition_recording.specs.Recording.{rows, event, rebuild_from}
use Rattle.definition_recording.proofs.Events.{Rebuilds, Rebuilding, stays-rebuilds, also-rebuilds, through_rebuilding, one-event, new_addr4-event, del_addr4-event, link_down-event, ip_disabled-event, Replays, insert_replays, removes_it, del_event}

-- a step that emits one event
one-rebuilds : (st later : State) (e : Row) → Invariant later → (within (sizes later) ≡ true → event e st.routes ≡ rows later.routes)
    → Rebuilds st (becomes later (e ∷ []))
one-rebuilds st later e f h = record { fit = f; again = λ w. one-event e st.routes ∙ h w }

-- the routes keep to their limit
few : (st : State) → within (sizes st) ≡ true → leb (length st.routes) 256 ≡ true
few st h = (simp and_iff at h).0.1

-- ---- the kernel's routes
inserted-rebuilds : (new : Row) (fit : fit_route new ≡ true) (i : Inserted) (st made : State) → st.routes ≡ made.routes → Replays new fit st.routes i
    → Invariant (inserted new i made).state → Rebuilds st (inserted new i made)
inserted-rebuilds new fit (placed m f) st made s h k = one-rebuilds st (with_routes m made) (new_route4 new f) k (λ w. h (few (with_routes m made) w))
inserted-rebuilds new fit nothing st made s h k = record { fit = k; again = λ w. unfold rebuild_from in ap rows s }
inserted-rebuilds new fit (unplaced n) st made s h k = record { fit = k; again = λ w. unfold rebuild_from in ap rows s }

kernel_add4_rebuilding : (new : Row) → fit_route new ≡ true → Rebuilding (kernel_add4 new)
unfolding kernel_add4 create4
kernel_add4_rebuilding new fit =
    record {
      rebuilds = λ st f.
          inserted-rebuilds new fit (insert4 new kernel_flags (create4 (table new) st).routes) st (create4 (table new) st) refl
          (insert_replays new fit st.routes kernel_flags) ((kernel_add4_keeps new fit).kept st f).fit;
    }

removed-rebuilds : (p : Row → Bool) (o : Option Row) (st : State) → first p st.routes ≡ o → Invariant st → Rebuilds st (removed p o st)
removed-rebuilds p none st e f = stays-rebuilds st f
removed-rebuilds p (some r) st e f =
    let one = removes_it p st.routes r e in
    one-rebuilds st (with_routes (remove_first p st.routes) st) (del_route4 r) (fit-routes st (remove_first p st.routes) f (remove_first-fit p st.routes f.of_routes))
    (λ w. del_event r st.routes (all_first fit_route p st.routes r f.of_routes.each e) one.0 ∙ ap rows (sym one.1))

kernel_del4_rebuilding : (p : Row) → Rebuilding (kernel_del4 p)
unfolding kernel_del4
kernel_del4_rebuilding p = record { rebuilds = λ st f. removed-rebuilds (matches p) (first (matches p) st.routes) st refl f }

deletions_rebuilding : (l : List Row) → Rebuilding (through kernel_del4 l)
deletions_rebuilding l = through_rebuilding kernel_del4 (λ x. true) l (λ x h. kernel_del4_rebuilding x) (all_always (λ x. true) l (λ x. refl))

candidates_rebuilding : (addresses : List Row) (up : Bool) (a : Row) → fit_address a ≡ true → Rebuilding (install (candidates addresses up a))
unfolding install
candidates_rebuilding addresses up a h =
    let l = candidates addresses up a in
    record { rebuilds = λ st f. (through_rebuilding kernel_add4 fit_route l kernel_add4_rebuilding (candidates-fit addresses up a (fields_address a h).short)).rebuilds st f }

-- ---- addresses put in and changed
new_address_rebuilding : (new : Row) (up : Bool) → fit_address new ≡ true → Rebuilding (new_address new up)
unfolding new_address
new_address_rebuilding new up h =
    record {
      rebuilds = λ st f.
          let placed : State = with_addresses (place4 new st.addresses) st in
          also-rebuilds st (becomes placed (new_addr4 new ∷ [])) (install (candidates placed.addresses up new))
          (one-rebuilds st placed (new_addr4 new) (fit-addresses st (place4 new st.addresses) f (place4-fit new st.addresses h f.of_addresses))
          (λ w. new_addr4-event new h st.routes))
          (candidates_rebuilding placed.addresses up new h);
    }

moved_rebuilding : (q old : Row) → fit_address old ≡ true → Rebuilding (moved q old)
unfolding moved
moved_rebuilding q old h =
    record {
      rebuilds = λ st f.
          cond-case (Rebuilds st) (reroutes q old)
          (λ e. also-rebuilds st _ (kernel_del4 (prefix_route (local old) old))
          ((kernel_add4_rebuilding _ (subnet_fit (local old) (priority q) old (fields_address old h).short)).rebuilds st f)
          (kernel_del4_rebuilding (prefix_route (local old) old)))
          (λ e. stays-rebuilds st f);
    }

change_v4_rebuilding : (q old : Row) (now : ℕ) → fit_add_v4 q ≡ true → fit_address old ≡ true → Rebuilding (change_v4 q old now)
unfolding change_v4
change_v4_rebuilding q old now g h =
    let row = changed_to q old now in
    let fit = changed_to-fit q old now g h in
    record {
      rebuilds = λ st f.
          also-rebuilds st (moved q old st) _ ((moved_rebuilding q old h).rebuilds st f)
          (record {
            rebuilds = λ later k.
                one-rebuilds later _ _ (fit-addresses later _ k (all-replace_first fit_address (same_address q) row later.addresses fit k.of_addresses))
                (λ w. new_addr4-event row fit later.routes);
          });
    }

-- of an outcome: a refusal emits nothing, and leaves the routes
abbrev pub RebuildsOutcome : State → Outcome → Type 0
RebuildsOutcome st (goes o) = Rebuilds st o
RebuildsOutcome st (refused n left) = Invariant left × (left.routes ≡ st.routes)

added_over-rebuilds : (q : Row) (now : ℕ) (o : Option Row) (st : State) → length q ≡ 18 → fit_add_v4 q ≡ true
    → ((old : Row) → o ≡ some old → fit_address old ≡ true) → Invariant st → RebuildsOutcome st (added_over q now o st)
added_over-rebuilds q now (some old) st long g h f =
    cond-case (RebuildsOutcome st) (eqb (replace_asked q) 1) (λ e. (change_v4_rebuilding q old now g (h old refl)).rebuilds st f) (λ e. (f, refl))
added_over-rebuilds q now none st long g h f =
    let fresh = asked-fit q now long g in
    (new_address_rebuilding (cond (any (λ old. same_subnet old q) st.addresses) (as_secondary (asked q now)) (asked q now)) (eqb (up_at_add_v4 q) 1)
    (cond-case (λ (a : Row). fit_address a ≡ true) (any (λ old. same_subnet old q) st.addresses) (λ e. as_secondary-fit (asked q now) fresh) (λ e. fresh))).rebuilds st f

pub add_v4-rebuilds : (q : Row) (now : ℕ) (st : State) → length q ≡ 18 → fit_add_v4 q ≡ true → Invariant st → RebuildsOutcome st (add_v4 q now st)
unfolding add_v4
add_v4-rebuilds q now st long g f =
    added_over-rebuilds q now (first (same_address q) st.addresses) st long g
    (λ old e. all_first fit_address (same_address q) st.addresses old f.of_addresses e) f

-- ---- up and down
out_of-rebuilds : (st : State) (o : Outcome) → RebuildsOutcome st o → Rebuilds st (out_of o)
out_of-rebuilds st (goes o) k = k
out_of-rebuilds st (refused n left) k = record { fit = k.0; again = λ w. unfold rebuild_from in ap rows (sym k.1) }

pub up_rebuilding : (now : ℕ) → Rebuilding (up now)
unfolding up
up_rebuilding now =
    record {
      rebuilds = λ st f.
          also-rebuilds st (out_of (add_v4 loopback now st)) _ (out_of-rebuilds st (add_v4 loopback now st) (add_v4-rebuilds loopback now st refl loopback-fit f))
          (record {
            rebuilds = λ later k.
                (through_rebuilding (λ a. install (candidates later.addresses true a)) fit_address later.addresses
                (λ a h. candidates_rebuilding later.addresses true a h) k.of_addresses).rebuilds later k;
          });
    }

pub down_rebuilding : Rebuilding down
unfolding down
down_rebuilding =
    record { rebuilds = λ st f. one-rebuilds st _ link_down (fit-routes st _ f (keep-fit _ st.routes f.of_routes)) (λ w. link_down-event st.routes) }

-- ---- removals
fall_rebuilding : (a : Row) (routes : List Row) → Rebuilding (fall a routes)
unfolding fall
fall_rebuilding a routes =
    record {
      rebuilds = λ st f.
          cond-case (Rebuilds st) (dependents_fall a routes st) (λ e. (deletions_rebuilding (dependents a st)).rebuilds st f) (λ e. stays-rebuilds st f);
    }

disable_rebuilding : Rebuilding disable
unfolding disable
disable_rebuilding =
    record {
      rebuilds = λ st f.
          cond-case (Rebuilds st) (eqb (length st.addresses) 0)
          (λ e. one-rebuilds st _ ip_disabled (fit-routes st _ f (keep-fit _ st.routes f.of_routes)) (λ w. ip_disabled-event st.routes))
          (λ e. stays-rebuilds st f);
    }

remove_one_rebuilding : (a : Row) → fit_address a ≡ true → Rebuilding (remove_one a)
unfolding remove_one
remove_one_rebuilding a h =
    record {
      rebuilds = λ st f.
          let remaining : List Row = remove_first (eq_row a) st.addresses in
          let routes : List Row = unwanted st.addresses remaining a in
          also-rebuilds st _ disable
          (also-rebuilds st _ (fall a routes)
          (also-rebuilds st (becomes (with_addresses remaining st) (del_addr4 a ∷ [])) (through kernel_del4 routes)
          (one-rebuilds st (with_addresses remaining st) (del_addr4 a)
          (fit-addresses st remaining f (all-remove_first fit_address (eq_row a) st.addresses f.of_addresses)) (λ w. del_addr4-event a h st.routes))
          (deletions_rebuilding routes))
          (fall_rebuilding a routes))
          disable_rebuilding;
    }

remove_v4_rebuilding : (a : Row) → fit_address a ≡ true → Rebuilding (remove_v4 a)
unfolding remove_v4
remove_v4_rebuilding a h =
    record {
      rebuilds = λ st f.
          (through_rebuilding remove_one fit_address (gone_with st.addresses a) remove_one_rebuilding (gone_with-fit st.addresses a h f.of_addresses)).rebuilds st f;
    }

deleted_at-rebuilds : (o : Option Row) (st : State) → ((a : Row) → o ≡ some a → fit_address a ≡ true) → Invariant st → RebuildsOutcome st (deleted_at o st)
deleted_at-rebuilds none st h f = (f, refl)
deleted_at-rebuilds (some a) st h f = (remove_v4_rebuilding a (h a refl)).rebuilds st f

pub del_v4-rebuilds : (q : Row) (st : State) → Invariant st → RebuildsOutcome st (del_v4 q st)
unfolding del_v4
del_v4-rebuilds q st f =
    deleted_at-rebuilds (first (deletes q) st.addresses) st (λ a e. all_first fit_address (deletes q) st.addresses a f.of_addresses e) f

-- ---- expire
deprecated-again : (l : List Row) → all fit_address l ≡ true → (m : List Row) → rebuild_from (map (λ a. new_addr4 (deprecate a)) l) m ≡ rows m
unfolding rebuild_from
deprecated-again [] h m = refl
deprecated-again (a ∷ l) h m =
    rw (new_addr4-event (deprecate a) (deprecate-fit a (all_head fit_address a l h)) m) (deprecated-again l (all_tail fit_address a l h) m)

deprecate_due_rebuilding : (allowance now : ℕ) → Rebuilding (deprecate_due allowance now)
unfolding deprecate_due
deprecate_due_rebuilding allowance now =
    record {
      rebuilds = λ st f.
          let spared = until (due allowance now) st.addresses in
          record {
            fit = unfold deprecate_due in ((deprecate_due_keeps allowance now).kept st f).fit;
            again = λ w.
                deprecated-again (keep (deprecates allowance now) spared)
                (all_keep fit_address (deprecates allowance now) spared (all-until fit_address (due allowance now) st.addresses f.of_addresses)) st.routes;
          };
    }

passes_rebuilding : (n allowance now : ℕ) → Rebuilding (passes n allowance now)
unfolding passes
passes_rebuilding zero allowance now = record { rebuilds = λ st f. (deprecate_due_rebuilding allowance now).rebuilds st f }
passes_rebuilding (suc n) allowance now =
    record {
      rebuilds = λ st f.
          option_case (Rebuilds st) (first (due allowance now) st.addresses) (deprecate_due allowance now st)
          (λ a. also (also (deprecate_due allowance now st) (remove_v4 a)) (passes n allowance now))
          ((deprecate_due_rebuilding allowance now).rebuilds st f)
          (λ a e. also-rebuilds st (also (deprecate_due allowance now st) (remove_v4 a)) (passes n allowance now)
          (also-rebuilds st (deprecate_due allowance now st) (remove_v4 a) ((deprecate_due_rebuilding allowance now).rebuilds st f)
          (remove_v4_rebuilding a (all_first fit_address (due allowance now) st.addresses a f.of_addresses e)))
          (passes_rebuilding n allowance now));
    }

pub expire_rebuilding : (allowance now : ℕ) → Rebuilding (expire allowance now)
unfolding expire
expire_rebuilding allowance now = record { rebuilds = λ st f. (passes_rebuilding (length st.addresses) allowance now).rebuilds st f }

-- ---- requests
inserted_as-rebuilds : (new : Row) (fit : fit_route new ≡ true) (i : Inserted) (st : State) → Replays new fit st.routes i → Puts i → Invariant st
    → RebuildsOutcome st (inserted_as new i st)
inserted_as-rebuilds new fit (placed m f) st h p k = one-rebuilds st (with_routes m st) (new_route4 new f) (fit-routes st m k p) (λ w. h (few (with_routes m st) w))
inserted_as-rebuilds new fit nothing st h p k = stays-rebuilds st k
inserted_as-rebuilds new fit (unplaced n) st h p k = (k, refl)

-- an insertion whose event does it again
abbrev pub InsertsAgain : Insertion → Type 0
InsertsAgain insert = (new : Row) (fit : fit_route new ≡ true) (l : List Row) (flags : ℕ) → Replays new fit l (insert new flags l)

module _ (insert : Insertion) (i : InsertsFit insert) (a : InsertsAgain insert) (q : Row) where
  routed-rebuilds : (r : Reached) (st : State) → ((linked : Bool) → fit_route (asked_route q linked) ≡ true) → Invariant st → RebuildsOutcome st (routed insert q r st)
  routed-rebuilds (Reached.unreached n) st h f = (f, refl)
  routed-rebuilds (Reached.by linked) st h f =
      let new = asked_route q linked in
      cond-case (RebuildsOutcome st) (eqb (Route.prefsrc_present q) 1 && not (valid_prefsrc4 q st)) (λ e. (f, refl))
      (λ e. inserted_as-rebuilds new (h linked) (insert new (nlm_flags q) st.routes) st (a new (h linked) st.routes (nlm_flags q))
      (i new (nlm_flags q) st.routes (h linked) f.of_routes) f)

  -- a table listed before it changes no route
  from-made : (t : ℕ) (st : State) (o : Outcome) → RebuildsOutcome (create4 t st) o → RebuildsOutcome st o
  unfolding create4
  from-made t st (goes o) h = record { fit = h.fit; again = h.again }
  from-made t st (refused n left) h = h

  pub added-rebuilds : (st : State) → length q ≡ 34 → fit_add_route4 q ≡ true → Invariant st → RebuildsOutcome st (added_by insert q st)
  unfolding added_by
  added-rebuilds st long fit f =
      let made : State = create4 (table_named q) st in
      let g : Invariant made = create4-fit (table_named q) st f in
      from-made (table_named q) st (cond (eqb (form_check q) 0) (routed insert q (reach_check q made) made) (refused (form_check q) made))
      (cond-case (RebuildsOutcome made) (eqb (form_check q) 0)
      (λ e. routed-rebuilds (reach_check q made) made (λ linked. asked_route-fit q linked long fit (eqb-true (form_check q) 0 e)) g)
      (λ e. (g, refl)))

deleted_route-rebuilds : (q : Row) (o : Option Row) (st : State) → first (selects q) st.routes ≡ o → Invariant st → RebuildsOutcome st (deleted_route q o st)
deleted_route-rebuilds q none st e f = (f, refl)
deleted_route-rebuilds q (some r) st e f = removed-rebuilds (selects q) (some r) st e f

pub del_route4-rebuilds : (q : Row) (st : State) → Invariant st → RebuildsOutcome st (del_route4_request q st)
unfolding del_route4_request
del_route4-rebuilds q st f =
    cond-case (RebuildsOutcome st) (listed (table_named q) st)
    (λ e. cond-case (RebuildsOutcome st) (bad_prefix q) (λ d. (f, refl)) (λ d. deleted_route-rebuilds q (first (selects q) st.routes) st refl f))
    (λ e. (f, refl))
