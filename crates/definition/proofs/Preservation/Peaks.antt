-- When a step's lists are longest: a removing one's at its start, so that it never passes a limit, and an adding one's at its end.
-- Assumes nothing.
use Rattle.std.specs.Prelude.{ℕ, zero, suc, ◌≤◌, ◌≡◌, Bool, true, cond, not, ◌&&◌, List, [], ◌∷◌, ◌++◌, map, eqb, length}
use Rattle.std.proofs.Common.{ap, arith, length-append}
use Rattle.std.proofs.Math.Option.{Option, none, some}
use Rattle.std.proofs.lemmas.List.{length-map}
use Rattle.lists.specs.Lists.{Row, any, keep, first, until, onward, remove_first, eq_row, among}
use Rattle.lists.specs.Bools.{cond-case}
use Rattle.lists.specs.Count.{length-keep, count_most, length-remove_first-most, until-onward}
use Rattle.layout.specs.Address.{local}
use Rattle.layout.specs.Route as Route
use Rattle.layout.specs.Route.{table}
use Rattle.layout.specs.Event.{new_addr4, del_addr4, new_route4, del_route4, link_down, ip_disabled}
use Rattle.definition.specs.State.{State, Sizes, Out, sizes, most, becomes, stays, also, through, with_addresses, with_routes}
use Rattle.definition.specs.Words.{within}
use Rattle.definition.specs.Reference.Lookup.{main_table, local_table, local_kind, listed, local4}
use Rattle.definition.specs.Reference.Insert.{add_table, list_table, create4, insert4, Inserted, placed, nothing, inserted, kernel_add4, kernel_del4, matches, removed, kernel_flags}
use Rattle.definition.specs.Reference.Addresses.{goes, candidates, install, place4, new_address, added_over, add_v4, same_address, loopback, out_of, up, down, host_scope}
use Rattle.definition.specs.Reference.Removal.{of_kind, unwanted, dependent_on, fall, disable, remove_one, gone_with, remove_v4, deletes, deleted_at, del_v4, due, deprecates, deprecate, deprecate_due, passes, expire}
use Rattle.definition.specs.Preservation.Encode.{Admissible}
use Rattle.definition.specs.Preservation.Keeps.{Covers}
use Rattle.definition.specs.Preservation.Removal.{option_case}
use Rattle.definition.specs.Preservation.Growing.{Grows, insert_grows, no-replacing, length-place4}
use Rattle.definition.proofs.Preservation.Step.{covered}
use Rattle.definition.specs.Step.{roomy}

covers-refl : (s : Sizes) → Covers s s
covers-refl s = record { of_addresses = omega arith; of_routes = omega arith; of_tables = omega arith }

covers_trans : (a b c : Sizes) → Covers a b → Covers b c → Covers a c
covers_trans a b c h k =
    record {
      of_addresses = omega (arith, h.of_addresses, k.of_addresses);
      of_routes = omega (arith, h.of_routes, k.of_routes);
      of_tables = omega (arith, h.of_tables, k.of_tables);
    }

covers-most : (a b c : Sizes) → Covers a c → Covers b c → Covers (most a b) c
covers-most a b c h k =
    record {
      of_addresses = omega (arith, h.of_addresses, k.of_addresses);
      of_routes = omega (arith, h.of_routes, k.of_routes);
      of_tables = omega (arith, h.of_tables, k.of_tables);
    }

-- ---- removing steps
pub record Under (st : State) (o : Out) : Type 0 where
  pub at_end : Covers (sizes o.state) (sizes st)
  pub ever : Covers o.peak (sizes st)

becomes-under : (st later : State) (rows : List Row) → Covers (sizes later) (sizes st) → Under st (becomes later rows)
becomes-under st later rows h = record { at_end = h; ever = h }

pub stays-under : (st : State) → Under st (stays st)
stays-under st = becomes-under st st [] (covers-refl (sizes st))

pub also-under : (st : State) (o : Out) (g : State → Out) → Under st o → ((s : State) → Under s (g s)) → Under st (also o g)
unfolding also
also-under st o g h k =
    let later = k o.state in
    record {
      at_end = covers_trans (sizes (g o.state).state) (sizes o.state) (sizes st) later.at_end h.at_end;
      ever = covers-most o.peak (g o.state).peak (sizes st) h.ever (covers_trans (g o.state).peak (sizes o.state) (sizes st) later.ever h.at_end);
    }

pub through-under : {A : Type 0} (f : A → State → Out) (l : List A) → ((x : A) (s : State) → Under s (f x s)) → (st : State) → Under st (through f l st)
unfolding through
through-under f [] g st = stays-under st
through-under f (x ∷ l) g st = also-under st (f x st) (through f l) (g x st) (λ s. through-under f l g s)

-- fewer routes, or fewer addresses
fewer_routes : (st : State) (l : List Row) → length l ≤ length st.routes → Covers (sizes (with_routes l st)) (sizes st)
fewer_routes st l h = record { of_addresses = omega arith; of_routes = h; of_tables = omega arith }

fewer_addresses : (st : State) (l : List Row) → length l ≤ length st.addresses → Covers (sizes (with_addresses l st)) (sizes st)
fewer_addresses st l h = record { of_addresses = h; of_routes = omega arith; of_tables = omega arith }

dropped_under : (p : Row → Bool) (rows : List Row) (st : State) → Under st (becomes (with_routes (keep p st.routes) st) rows)
dropped_under p rows st =
    becomes-under st (with_routes (keep p st.routes) st) rows (fewer_routes st (keep p st.routes) (omega (arith, length-keep p st.routes, count_most p st.routes)))

pub down-under : (st : State) → Under st (down st)
unfolding down
down-under st = dropped_under (λ r. not (eqb (Route.device r) 1 && not (eqb (Route.scope r) host_scope))) (link_down ∷ []) st

removed-under : (p : Row → Bool) (o : Option Row) (st : State) → Under st (removed p o st)
removed-under p none st = stays-under st
removed-under p (some r) st =
    becomes-under st (with_routes (remove_first p st.routes) st) (del_route4 r ∷ []) (fewer_routes st (remove_first p st.routes) (length-remove_first-most p st.routes))

pub kernel_del4-under : (p : Row) (st : State) → Under st (kernel_del4 p st)
unfolding kernel_del4
kernel_del4-under p st = removed-under (matches p) (first (matches p) st.routes) st

fall-under : (a : Row) (routes : List Row) (st : State) → Under st (fall a routes st)
unfolding fall
fall-under a routes st =
    cond-case (Under st) (any (λ r. of_kind local_kind r && eqb (Route.len r) 32) routes && not (local4 st (local a)))
    (λ e. through-under kernel_del4 (cond (listed main_table st) (keep (dependent_on (local a)) st.routes) []) kernel_del4-under st)
    (λ e. stays-under st)

disable-under : (st : State) → Under st (disable st)
unfolding disable
disable-under st =
    cond-case (Under st) (eqb (length st.addresses) 0) (λ e. dropped_under (λ r. not (eqb (Route.device r) 1)) (ip_disabled ∷ []) st) (λ e. stays-under st)

pub remove_one-under : (a : Row) (st : State) → Under st (remove_one a st)
unfolding remove_one
remove_one-under a st =
    let remaining : List Row = remove_first (eq_row a) st.addresses in
    let routes : List Row = unwanted st.addresses remaining a in
    also-under st _ disable
    (also-under st _ (fall a routes)
    (also-under st (becomes (with_addresses remaining st) (del_addr4 a ∷ [])) (through kernel_del4 routes)
    (becomes-under st (with_addresses remaining st) (del_addr4 a ∷ []) (fewer_addresses st remaining (length-remove_first-most (eq_row a) st.addresses)))
    (through-under kernel_del4 routes kernel_del4-under))
    (fall-under a routes))
    disable-under

pub remove_v4-under : (a : Row) (st : State) → Under st (remove_v4 a st)
unfolding remove_v4
remove_v4-under a st = through-under remove_one (gone_with st.addresses a) remove_one-under st

deprecate_due-under : (early now : ℕ) (st : State) → Under st (deprecate_due early now st)
unfolding deprecate_due
deprecate_due-under early now st =
    let spared : List Row = until (due early now) st.addresses in
    let behind : List Row = onward (due early now) st.addresses in
    let mark : Row → Row = λ a. cond (deprecates early now a) (deprecate a) a in
    let whole : length (spared ++ behind) ≡ length st.addresses = ap length (until-onward (due early now) st.addresses) in
    becomes-under st (with_addresses (map mark spared ++ behind) st) _
    (fewer_addresses st (map mark spared ++ behind) (omega (arith, length-append (map mark spared) behind, length-append spared behind, length-map spared mark)))

passes-under : (n early now : ℕ) (st : State) → Under st (passes n early now st)
unfolding passes
passes-under zero early now st = deprecate_due-under early now st
passes-under (suc n) early now st =
    option_case (Under st) (first (due early now) st.addresses) (deprecate_due early now st)
    (λ a. also (also (deprecate_due early now st) (remove_v4 a)) (passes n early now)) (deprecate_due-under early now st)
    (λ a e. also-under st (also (deprecate_due early now st) (remove_v4 a)) (passes n early now)
    (also-under st (deprecate_due early now st) (remove_v4 a) (deprecate_due-under early now st) (remove_v4-under a))
    (passes-under n early now))

pub expire-under : (early now : ℕ) (st : State) → Under st (expire early now st)
unfolding expire
expire-under early now st = passes-under (length st.addresses) early now st

-- ---- so these calls never give 203
under-roomy : (st : State) (o : Out) → Admissible st → Under st o → within o.peak ≡ true
under-roomy st o g u = covered o.peak (sizes st) u.ever g.limits

pub down-roomy : (st : State) → Admissible st → roomy (goes (down st)) ≡ true
down-roomy st g = under-roomy st (down st) g (down-under st)

pub expire-roomy : (early now : ℕ) (st : State) → Admissible st → roomy (goes (expire early now st)) ≡ true
expire-roomy early now st g = under-roomy st (expire early now st) g (expire-under early now st)

deleted_at-roomy : (o : Option Row) (st : State) → Admissible st → roomy (deleted_at o st) ≡ true
deleted_at-roomy none st g = g.limits
deleted_at-roomy (some a) st g = under-roomy st (remove_v4 a st) g (remove_v4-under a st)

pub del_v4-roomy : (q : Row) (st : State) → Admissible st → roomy (del_v4 q st) ≡ true
unfolding del_v4
del_v4-roomy q st g = deleted_at-roomy (first (deletes q) st.addresses) st g

-- ---- adding steps
pub record Rises (st : State) (o : Out) : Type 0 where
  pub at_start : Covers (sizes st) (sizes o.state)
  pub ever : Covers o.peak (sizes o.state)

becomes_rises : (st later : State) (rows : List Row) → Covers (sizes st) (sizes later) → Rises st (becomes later rows)
becomes_rises st later rows h = record { at_start = h; ever = covers-refl (sizes later) }

pub stays_rises : (st : State) → Rises st (stays st)
stays_rises st = becomes_rises st st [] (covers-refl (sizes st))

pub also_rises : (st : State) (o : Out) (g : State → Out) → Rises st o → ((s : State) → Rises s (g s)) → Rises st (also o g)
unfolding also
also_rises st o g h k =
    let later = k o.state in
    let p : Out = g o.state in
    record {
      at_start = covers_trans (sizes st) (sizes o.state) (sizes p.state) h.at_start later.at_start;
      ever = covers-most o.peak p.peak (sizes p.state) (covers_trans o.peak (sizes o.state) (sizes p.state) h.ever later.at_start) later.ever;
    }

pub through_rises : {A : Type 0} (f : A → State → Out) (l : List A) → ((x : A) (s : State) → Rises s (f x s)) → (st : State) → Rises st (through f l st)
unfolding through
through_rises f [] g st = stays_rises st
through_rises f (x ∷ l) g st = also_rises st (f x st) (through f l) (g x st) (λ s. through_rises f l g s)

add_table-longer : (t : ℕ) (l : List ℕ) → length l ≤ length (add_table t l)
add_table-longer t l = cond-case (λ (m : List ℕ). length l ≤ length m) (among t l) (λ e. omega arith) (λ e. omega (arith, length-append l (t ∷ [])))

list_table-longer : (t : ℕ) (l : List ℕ) → length l ≤ length (list_table t l)
unfolding list_table
list_table-longer t l =
    let first : length l ≤ length (cond (eqb t local_table) (add_table main_table l) l) =
    cond-case (λ (m : List ℕ). length l ≤ length m) (eqb t local_table) (λ e. add_table-longer main_table l) (λ e. omega arith)
    in
    omega (arith, add_table-longer t (cond (eqb t local_table) (add_table main_table l) l))

inserted_rises : (new : Row) (i : Inserted) (st made : State) → Covers (sizes st) (sizes made) → Grows made.routes i → Rises st (inserted new i made)
inserted_rises new (placed rows flags) st made c h =
    becomes_rises st (with_routes rows made) (new_route4 new flags ∷ []) (record { of_addresses = c.of_addresses; of_routes = omega (arith, c.of_routes, h); of_tables = c.of_tables })
inserted_rises new nothing st made c h = becomes_rises st made [] c
inserted_rises new (Inserted.unplaced n) st made c h = becomes_rises st made [] c

pub kernel_add4_rises : (new : Row) (st : State) → Rises st (kernel_add4 new st)
unfolding kernel_add4 create4
kernel_add4_rises new st =
    inserted_rises new (insert4 new kernel_flags st.routes) st (create4 (table new) st)
    (record { of_addresses = omega arith; of_routes = omega arith; of_tables = list_table-longer (table new) st.tables })
    (insert_grows new kernel_flags st.routes no-replacing)

pub install_rises : (routes : List Row) (st : State) → Rises st (install routes st)
unfolding install
install_rises routes st = through_rises kernel_add4 routes kernel_add4_rises st

pub new_address_rises : (new : Row) (up : Bool) (st : State) → Rises st (new_address new up st)
unfolding new_address
new_address_rises new up st =
    let placed : State = with_addresses (place4 new st.addresses) st in
    also_rises st (becomes placed (new_addr4 new ∷ [])) (install (candidates placed.addresses up new))
    (becomes_rises st placed (new_addr4 new ∷ []) (record { of_addresses = omega (arith, length-place4 new st.addresses); of_routes = omega arith; of_tables = omega arith }))
    (install_rises (candidates placed.addresses up new))

added_rises : (now : ℕ) (o : Option Row) (st : State) → Rises st (out_of (added_over loopback now o st))
added_rises now (some old) st = stays_rises st
added_rises now none st = new_address_rises _ _ st

pub up_rises : (now : ℕ) (st : State) → Rises st (up now st)
unfolding up add_v4
up_rises now st =
    also_rises st (out_of (added_over loopback now (first (same_address loopback) st.addresses) st))
    (λ later. through (λ a. install (candidates later.addresses true a)) later.addresses later)
    (added_rises now (first (same_address loopback) st.addresses) st)
    (λ s. through_rises (λ a. install (candidates s.addresses true a)) s.addresses (λ a t. install_rises (candidates s.addresses true a) t) s)

-- an adding step keeps to the limits where what it leaves does
pub rises_within : (st : State) (o : Out) → Rises st o → within (sizes o.state) ≡ true → within o.peak ≡ true
rises_within st o r h = covered o.peak (sizes o.state) r.ever h
