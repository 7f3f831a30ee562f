-- The kernel's routes put in and taken out, addresses put in and changed, up and down keep a fit state fit.
-- Assumes nothing.
use Rattle.std.specs.Prelude.{ℕ, ◌≡◌, refl, Bool, true, cond, not, ◌&&◌, List, [], ◌∷◌, eqb, length}
use Rattle.std.proofs.Math.Option.{Option, none, some}
use Rattle.lists.specs.Lists.{Row, all, any, keep, first, remove_first}
use Rattle.lists.specs.Bools.{cond-case}
use Rattle.lists.specs.All.{all_cons, all_append, all_first, all-replace_first, all-behind_last}
use Rattle.layout.specs.Address.{fit_address}
use Rattle.layout.specs.Address as Address
use Rattle.layout.specs.Route.{fit_route, table}
use Rattle.layout.specs.Route as Route
use Rattle.layout.specs.Event.{new_addr4, new_route4, del_route4, bare}
use Rattle.layout.specs.Request.{fit_add_v4, replace_asked, up_at_add_v4}
use Rattle.definition.specs.State.{State, becomes, with_addresses, with_routes}
use Rattle.definition.specs.Reference.Insert.{create4, list_table, insert4, Inserted, placed, nothing, inserted, kernel_add4, kernel_del4, matches, removed, kernel_flags}
use Rattle.definition.specs.Reference.Addresses.{Outcome, candidates, prefix_route, install, place4, yields, new_address, changed_to, moved, reroutes, change_v4, added_over, add_v4, asked, as_secondary, same_address, same_subnet, loopback, out_of, up, down, host_scope}
use Rattle.definition.specs.Preservation.Fit.{Invariant, fields_address}
use Rattle.definition.specs.Preservation.Routes.{keep-fit, remove_first-fit, Puts, insert_fit, list_table-fit}
use Rattle.definition.specs.Preservation.Keeps.{Kept, Keeps, KeptOutcome, KeepsOutcome, fit-addresses, fit-routes, fit-tables, becomes-kept, stays_keeps, also_kept, through_keeps}
use Rattle.definition.specs.Preservation.Rows.{new_addr4-emitted, new_route4-emitted, del_route4-emitted, bare-emitted, asked-fit, as_secondary-fit, changed_to-fit, candidates-fit, subnet_fit}

-- ---- routes
pub create4-fit : (t : ℕ) (st : State) → Invariant st → Invariant (create4 t st)
unfolding create4
create4-fit t st f = fit-tables st (list_table t st.tables) f (list_table-fit t st.tables f.of_tables)

inserted-kept : (new : Row) (i : Inserted) (st : State) → fit_route new ≡ true → Puts i → Invariant st → Kept (inserted new i st)
inserted-kept new (placed rows flags) st h p f =
    becomes-kept (with_routes rows st) (new_route4 new flags ∷ []) (new_route4-emitted new flags h) (fit-routes st rows f p)
inserted-kept new nothing st h p f = stays_keeps.kept st f
inserted-kept new (Inserted.unplaced n) st h p f = stays_keeps.kept st f

pub kernel_add4_keeps : (new : Row) → fit_route new ≡ true → Keeps (kernel_add4 new)
unfolding kernel_add4
kernel_add4_keeps new h =
    record {
      kept = λ st f.
          let g : Invariant (create4 (table new) st) = create4-fit (table new) st f in
          inserted-kept new (insert4 new kernel_flags (create4 (table new) st).routes) (create4 (table new) st) h
          (insert_fit new kernel_flags (create4 (table new) st).routes h g.of_routes) g;
    }

removed-kept : (p : Row → Bool) (o : Option Row) (st : State) → ((r : Row) → o ≡ some r → fit_route r ≡ true) → Invariant st → Kept (removed p o st)
removed-kept p none st h f = stays_keeps.kept st f
removed-kept p (some r) st h f =
    becomes-kept (with_routes (remove_first p st.routes) st) (del_route4 r ∷ []) (del_route4-emitted r (h r refl)) (fit-routes st (remove_first p st.routes) f (remove_first-fit p st.routes f.of_routes))

pub kernel_del4_keeps : (p : Row) → Keeps (kernel_del4 p)
unfolding kernel_del4
kernel_del4_keeps p = record { kept = λ st f. removed-kept (matches p) (first (matches p) st.routes) st (λ r e. all_first fit_route (matches p) st.routes r f.of_routes.each e) f }

-- some of the routes go, with one event for all
pub dropped_kept : (p : Row → Bool) (kind : ℕ) (st : State) → Invariant st → Kept (becomes (with_routes (keep p st.routes) st) (bare kind ∷ []))
dropped_kept p kind st f =
    becomes-kept (with_routes (keep p st.routes) st) (bare kind ∷ []) (bare-emitted kind) (fit-routes st (keep p st.routes) f (keep-fit p st.routes f.of_routes))

-- ---- addresses
pub install_keeps : (routes : List Row) → all fit_route routes ≡ true → Keeps (install routes)
unfolding install
install_keeps routes h = through_keeps kernel_add4 fit_route routes kernel_add4_keeps h

-- the routes of an address that is fit
candidates-keep : (addresses : List Row) (up : Bool) (a : Row) → fit_address a ≡ true → Keeps (install (candidates addresses up a))
candidates-keep addresses up a h =
    install_keeps (candidates addresses up a) (candidates-fit addresses up a (fields_address a h).short)

pub place4-fit : (new : Row) (l : List Row) → fit_address new ≡ true → all fit_address l ≡ true → all fit_address (place4 new l) ≡ true
unfolding place4
place4-fit new l g h =
    cond-case (λ (m : List Row). all fit_address m ≡ true) (Address.secondary new)
    (λ e. all_append fit_address l (new ∷ []) h (all_cons fit_address new [] g refl))
    (λ e. all-behind_last fit_address (yields new) new l g h)

pub new_address_keeps : (new : Row) (up : Bool) → fit_address new ≡ true → Keeps (new_address new up)
unfolding new_address
new_address_keeps new up h =
    record {
      kept = λ st f.
          let placed : State = with_addresses (place4 new st.addresses) st in
          also_kept (becomes placed (new_addr4 new ∷ [])) (install (candidates placed.addresses up new))
          (becomes-kept placed (new_addr4 new ∷ []) (new_addr4-emitted new h) (fit-addresses st (place4 new st.addresses) f (place4-fit new st.addresses h f.of_addresses)))
          (candidates-keep placed.addresses up new h);
    }

pub moved_keeps : (q old : Row) → fit_address old ≡ true → Keeps (moved q old)
unfolding moved
moved_keeps q old h =
    record {
      kept = λ st f.
          cond-case Kept (reroutes q old)
          (λ e. also_kept _ (kernel_del4 (prefix_route (Address.local old) old))
          ((kernel_add4_keeps _ (subnet_fit (Address.local old) (Address.priority q) old (fields_address old h).short)).kept st f)
          (kernel_del4_keeps (prefix_route (Address.local old) old)))
          (λ e. stays_keeps.kept st f);
    }

pub change_v4_keeps : (q old : Row) (now : ℕ) → fit_add_v4 q ≡ true → fit_address old ≡ true → Keeps (change_v4 q old now)
unfolding change_v4
change_v4_keeps q old now g h =
    record {
      kept = λ st f.
          also_kept (moved q old st) _ ((moved_keeps q old h).kept st f)
          (record { kept = λ later k. becomes-kept _ _ (new_addr4-emitted (changed_to q old now) (changed_to-fit q old now g h)) (fit-addresses later _ k (all-replace_first fit_address (same_address q) (changed_to q old now) later.addresses (changed_to-fit q old now g h) k.of_addresses)) });
    }

added_over-kept : (q : Row) (now : ℕ) (o : Option Row) (st : State) → length q ≡ 18 → fit_add_v4 q ≡ true
    → ((old : Row) → o ≡ some old → fit_address old ≡ true) → Invariant st → KeptOutcome (added_over q now o st)
added_over-kept q now (some old) st long g h f =
    cond-case KeptOutcome (eqb (replace_asked q) 1) (λ e. (change_v4_keeps q old now g (h old refl)).kept st f) (λ e. f)
added_over-kept q now none st long g h f =
    let fresh = asked-fit q now long g in
    (new_address_keeps (cond (any (λ old. same_subnet old q) st.addresses) (as_secondary (asked q now)) (asked q now)) (eqb (up_at_add_v4 q) 1)
    (cond-case (λ (a : Row). fit_address a ≡ true) (any (λ old. same_subnet old q) st.addresses) (λ e. as_secondary-fit (asked q now) fresh) (λ e. fresh))).kept st f

pub add_v4_keeps : (q : Row) (now : ℕ) → length q ≡ 18 → fit_add_v4 q ≡ true → KeepsOutcome (add_v4 q now)
unfolding add_v4
add_v4_keeps q now long g =
    record {
      kept = λ st f.
          added_over-kept q now (first (same_address q) st.addresses) st long g
          (λ old e. all_first fit_address (same_address q) st.addresses old f.of_addresses e) f;
    }

-- ---- up and down
pub step_kept : (o : Outcome) → KeptOutcome o → Kept (out_of o)
step_kept (Outcome.goes o) k = k
step_kept (Outcome.refused n st) f = stays_keeps.kept st f

pub loopback-fit : fit_add_v4 loopback ≡ true
unfolding fit_add_v4
loopback-fit = refl

pub up_keeps : (now : ℕ) → Keeps (up now)
unfolding up
up_keeps now =
    record {
      kept = λ st f.
          also_kept (out_of (add_v4 loopback now st)) _ (step_kept (add_v4 loopback now st) ((add_v4_keeps loopback now refl loopback-fit).kept st f))
          (record {
            kept = λ later k.
                (through_keeps (λ a. install (candidates later.addresses true a)) fit_address later.addresses
                (λ a h. candidates-keep later.addresses true a h) k.of_addresses).kept later k;
          });
    }

pub down_keeps : Keeps down
unfolding down
down_keeps =
    record { kept = λ st f. dropped_kept (λ r. not (eqb (Route.device r) 1 && not (eqb (Route.scope r) host_scope))) 5 st f }
