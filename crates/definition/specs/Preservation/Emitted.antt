-- What a changing call emits: at most 385 rows of 34 words, whatever words it is handed.
-- Assumes nothing.
use Rattle.std.specs.Prelude.{ℕ, ◌+◌, ◌≤◌, ◌≡◌, refl, Bool, true, not, ◌&&◌, eqb, length}
use Rattle.std.proofs.Math.Option.{Option, none, some}
use Rattle.std.proofs.Common.{arith, length-append, leb-true}
use Rattle.lists.specs.Lists.{Row, first}
use Rattle.lists.specs.Bools.{and_iff, cond-case}
use Rattle.lists.specs.Count.{count_most, first-there}
use Rattle.layout.specs.Address as Address
use Rattle.layout.specs.Request.{fit_add_v4, replace_asked, nlm_flags}
use Rattle.layout.specs.Route.{table, prefsrc_present}
use Rattle.definition.specs.State.{State, Sizes, Out, sizes, stays, also}
use Rattle.definition.specs.Words.{within}
use Rattle.definition.specs.Reference.Insert.{create4, insert4, Inserted, placed, nothing, inserted, kernel_add4, kernel_del4, matches, removed, kernel_flags, Insertion}
use Rattle.definition.specs.Reference.Addresses.{Outcome, goes, refused, prefix_route, moved, reroutes, change_v4, added_over, add_v4, same_address, up, down}
use Rattle.definition.specs.Reference.Removal.{deletes, deleted_at, remove_v4, del_v4, expire}
use Rattle.definition.specs.Reference.Routes.{Reached, form_check, reach_check, table_named, bad_prefix, asked_route, valid_prefsrc4, inserted_as, routed, selects, deleted_route, del_route4_request, added_by}
use Rattle.definition.specs.Reference.Lookup.{listed}
use Rattle.definition.specs.Preservation.Fit.{Invariant, fit-state}
use Rattle.definition.specs.Preservation.Encode.{Admissible}
use Rattle.definition.specs.Preservation.Keeps.{Kept, KeptOutcome}
use Rattle.definition.specs.Preservation.Addresses.{add_v4_keeps, up_keeps}
use Rattle.definition.specs.Preservation.Growing.{Adds, new_address-adds, up-adds}
use Rattle.definition.specs.Preservation.Shrinking.{Drops, live, remove_v4_drops, expire_drops}

-- ---- few rows
-- a step that keeps to the limits emits at most 385 rows
pub record EventBound (o : Out) : Type 0 where
  pub few : within o.peak ≡ true → length o.emitted ≤ 385

abbrev pub EventBoundOutcome : Outcome → Type 0
EventBoundOutcome (goes o) = EventBound o
EventBoundOutcome (refused n st) = Unit

event_bound : (o : Out) → length o.emitted ≤ 3 → EventBound o
event_bound o h = record { few = λ w. omega arith }

-- the lengths of a state within its limits
record Limits (s : Sizes) : Type 0 where
  of_addresses : s.addresses ≤ 64
  of_routes : s.routes ≤ 256

limits : (s : Sizes) → within s ≡ true → Limits s
limits s h =
    let k = simp and_iff at h in
    record { of_addresses = leb-true s.addresses 64 k.0.0; of_routes = leb-true s.routes 256 k.0.1 }

adds-event_bound : (st : State) (o : Out) → Kept o → Adds st o → EventBound o
adds-event_bound st o k a =
    record { few = λ w. let l = limits o.peak w in omega (arith, a.grown, k.covers.of_addresses, k.covers.of_routes, l.of_addresses, l.of_routes) }

drops_event_bound : (st : State) (o : Out) → Admissible st → Drops st o → EventBound o
drops_event_bound st o g d =
    record { few = λ w. let l = limits (sizes st) g.limits in omega (arith, d.lighter, count_most live st.addresses, l.of_addresses, l.of_routes) }

-- ---- one row, or none
inserted-emitted : (new : Row) (i : Inserted) (st : State) → length (inserted new i st).emitted ≤ 1
inserted-emitted new (placed rows flags) st = omega arith
inserted-emitted new nothing st = omega arith
inserted-emitted new (Inserted.unplaced n) st = omega arith

kernel_add4-emitted : (new : Row) (st : State) → length (kernel_add4 new st).emitted ≤ 1
unfolding kernel_add4
kernel_add4-emitted new st = inserted-emitted new (insert4 new kernel_flags (create4 (table new) st).routes) (create4 (table new) st)

removed-emitted : (p : Row → Bool) (o : Option Row) (st : State) → length (removed p o st).emitted ≤ 1
removed-emitted p none st = omega arith
removed-emitted p (some r) st = omega arith

kernel_del4-emitted : (p : Row) (st : State) → length (kernel_del4 p st).emitted ≤ 1
unfolding kernel_del4
kernel_del4-emitted p st = removed-emitted (matches p) (first (matches p) st.routes) st

also-emitted : (m n : ℕ) (o : Out) (g : State → Out) → length o.emitted ≤ m → length (g o.state).emitted ≤ n → length (also o g).emitted ≤ m + n
unfolding also
also-emitted m n o g h k = omega (arith, length-append o.emitted (g o.state).emitted)

moved-emitted : (q old : Row) (st : State) → length (moved q old st).emitted ≤ 2
unfolding moved
moved-emitted q old st =
    cond-case (λ (o : Out). length o.emitted ≤ 2) (reroutes q old)
    (λ e. also-emitted 1 1 _ (kernel_del4 (prefix_route (Address.local old) old)) (kernel_add4-emitted _ st) (kernel_del4-emitted (prefix_route (Address.local old) old) _))
    (λ e. omega arith)

change_v4-emitted : (q old : Row) (now : ℕ) (st : State) → length (change_v4 q old now st).emitted ≤ 3
unfolding change_v4
change_v4-emitted q old now st = also-emitted 2 1 (moved q old st) _ (moved-emitted q old st) (omega arith)

-- ---- the calls
added_over-event_bound : (q : Row) (now : ℕ) (o : Option Row) (st : State) → KeptOutcome (added_over q now o st) → EventBoundOutcome (added_over q now o st)
added_over-event_bound q now (some old) st k =
    cond-case EventBoundOutcome (eqb (replace_asked q) 1) (λ e. event_bound (change_v4 q old now st) (change_v4-emitted q old now st)) (λ e. tt)
added_over-event_bound q now none st k = adds-event_bound st _ k (new_address-adds _ _ st)

inserted_as-event_bound : (new : Row) (i : Inserted) (st : State) → EventBoundOutcome (inserted_as new i st)
inserted_as-event_bound new (placed rows flags) st = event_bound _ (omega arith)
inserted_as-event_bound new nothing st = event_bound (stays st) (omega arith)
inserted_as-event_bound new (Inserted.unplaced n) st = tt

routed-event_bound : (insert : Insertion) (q : Row) (r : Reached) (st : State) → EventBoundOutcome (routed insert q r st)
routed-event_bound insert q (Reached.unreached n) st = tt
routed-event_bound insert q (Reached.by linked) st =
    cond-case EventBoundOutcome (eqb (prefsrc_present q) 1 && not (valid_prefsrc4 q st)) (λ e. tt)
    (λ e. inserted_as-event_bound (asked_route q linked) (insert (asked_route q linked) (nlm_flags q) st.routes) st)

deleted_route-event_bound : (q : Row) (o : Option Row) (st : State) → EventBoundOutcome (deleted_route q o st)
deleted_route-event_bound q none st = tt
deleted_route-event_bound q (some r) st = event_bound _ (omega arith)

deleted_at-event_bound : (o : Option Row) (st : State) → Admissible st → ((a : Row) → o ≡ some a → Drops st (remove_v4 a st)) → EventBoundOutcome (deleted_at o st)
deleted_at-event_bound none st g h = tt
deleted_at-event_bound (some a) st g h = drops_event_bound st (remove_v4 a st) g (h a refl)

module _ (st : State) (g : Admissible st) where
  abbrev f : Invariant st
  f = fit-state st g.fits

  pub up-event_bound : (now : ℕ) → EventBound (up now st)
  up-event_bound now = adds-event_bound st (up now st) ((up_keeps now).kept st f) (up-adds now st)

  pub down-event_bound : EventBound (down st)
  unfolding down
  down-event_bound = event_bound (down st) (omega arith)

  pub add_v4-event_bound : (q : Row) (now : ℕ) → length q ≡ 18 → fit_add_v4 q ≡ true → EventBoundOutcome (add_v4 q now st)
  unfolding add_v4
  add_v4-event_bound q now long fit =
      added_over-event_bound q now (first (same_address q) st.addresses) st ((add_v4_keeps q now long fit).kept st f)

  pub del_v4-event_bound : (q : Row) → EventBoundOutcome (del_v4 q st)
  unfolding del_v4
  del_v4-event_bound q =
      deleted_at-event_bound (first (deletes q) st.addresses) st g (λ a e. remove_v4_drops a st (first-there (deletes q) st.addresses a e))

  pub expire-event_bound : (early now : ℕ) → EventBound (expire early now st)
  expire-event_bound early now = drops_event_bound st (expire early now st) g (expire_drops early now st f)

  pub added-event_bound : (insert : Insertion) (q : Row) → EventBoundOutcome (added_by insert q st)
  unfolding added_by
  added-event_bound insert q =
      cond-case EventBoundOutcome (eqb (form_check q) 0) (λ e. routed-event_bound insert q (reach_check q (create4 (table_named q) st)) (create4 (table_named q) st)) (λ e. tt)

  pub del_route4-event_bound : (q : Row) → EventBoundOutcome (del_route4_request q st)
  unfolding del_route4_request
  del_route4-event_bound q =
      cond-case EventBoundOutcome (listed (table_named q) st)
      (λ e. cond-case EventBoundOutcome (bad_prefix q) (λ d. tt) (λ d. deleted_route-event_bound q (first (selects q) st.routes) st)) (λ e. tt)
