-- When room is certain: the most that an adding call may add.
-- Assumes nothing.
use Rattle.std.specs.Prelude.{ℕ, suc, ◌+◌, ◌*◌, ◌≤◌, ◌<◌, ◌≡◌, refl, Bool, false, cond, not, ◌&&◌, List, [], ◌∷◌, ◌++◌, eqb, leb, ltb, length}
use Rattle.std.proofs.Common.{arith, sym, ap, ◌∙◌, length-append, le-leb, eqb-true, leb-true, ltb-true}
use Rattle.std.proofs.Math.Bool.{true, or-false}
use Rattle.std.proofs.Math.Option.{Option, none, some}
use Rattle.state.specs.Represents.{Represents, count-addresses, count-routes, count-tables}
use Rattle.lists.specs.Lists.{Row, all, first, among, replace_first}
use Rattle.lists.specs.Bools.{test-case, cond-case, and_iff, and_both, cond-true, cond-false}
use Rattle.lists.specs.All.{all_append, all_head, all_tail}
use Rattle.lists.specs.Split.{among-more}
use Rattle.lists.specs.Count.{length-replace_first}
use Rattle.layout.specs.Address as Address
use Rattle.layout.specs.Address.{local, address, prefix, secondary, no_prefix_route}
use Rattle.prefix.specs.Mask.{broadcast}
use Rattle.layout.specs.Route.{table}
use Rattle.layout.specs.Event.{new_addr4}
use Rattle.layout.specs.Request.{replace_asked}
use Rattle.definition.specs.State.{State, Out, sizes, becomes, stays, also, through, with_addresses}
use Rattle.definition.specs.Words.{within, address_count, route_count, table_count}
use Rattle.definition.specs.Reference.Lookup.{broadcast_kind}
use Rattle.definition.specs.Reference.Insert as Insert
use Rattle.definition.specs.Reference.Insert.{add_table, list_table, create4, insert4, inserted, kernel_add4, kernel_del4}
use Rattle.definition.specs.Reference.Addresses.{Outcome, out_of, only, kernel_route, local_route, prefix_route, up_routes, candidates, primary_of, install, place4, new_address, changed_to, reroutes, moved, change_v4, added_over, add_v4, same_address, loopback, up, names_broadcast, own_network}
use Rattle.definition.specs.Preservation.Growing.{Grows, insert_grows, no-replacing, length-place4}
use Rattle.definition.proofs.Preservation.Peaks.{kernel_add4_rises, new_address_rises, up_rises, rises_within, kernel_del4-under}
use Rattle.definition.proofs.Preservation.Step.{covered}
use Rattle.definition.specs.Step.{roomy}
use Rattle.step_events.specs.Comes.{within-also}
use Rattle.step_add_v4.specs.Every.{iteration, every}
use Rattle.row_candidates.specs.Rows.{subnet_route}

-- ---- tables: each of 254 and 255 is listed once
abbrev missing : ℕ → List ℕ → ℕ
missing t l = cond (among t l) 0 1

abbrev with_both : List ℕ → ℕ
with_both l = length l + (missing 254 l + missing 255 l)

missing_le : (t : ℕ) (l : List ℕ) → missing t l ≤ 1
missing_le t l = cond-case (λ (n : ℕ). n ≤ 1) (among t l) (λ e. omega arith) (λ e. omega arith)

add_main : (l : List ℕ) → with_both (add_table 254 l) ≡ with_both l
add_main l =
    test-case (among 254 l)
    (λ e. ap with_both (cond-true (among 254 l) l (l ++ (254 ∷ [])) e))
    (λ e.
    let long : length (l ++ (254 ∷ [])) ≡ length l + 1 = length-append l (254 ∷ []) in
    let one : among 254 (l ++ (254 ∷ [])) ≡ true = rw (among-more 254 254 l, e) in
    let other : among 255 (l ++ (254 ∷ [])) ≡ among 255 l = among-more 255 254 l ∙ or-false (among 255 l) in
    let now : missing 254 (l ++ (254 ∷ [])) ≡ 0 = ap (λ (b : Bool). cond {A = ℕ} b 0 1) one in
    let before : missing 254 l ≡ 1 = ap (λ (b : Bool). cond {A = ℕ} b 0 1) e in
    let same : missing 255 (l ++ (254 ∷ [])) ≡ missing 255 l = ap (λ (b : Bool). cond {A = ℕ} b 0 1) other in
    ap with_both (cond-false (among 254 l) l (l ++ (254 ∷ [])) e) ∙ omega (arith, long, now, before, same))

add_local : (l : List ℕ) → with_both (add_table 255 l) ≡ with_both l
add_local l =
    test-case (among 255 l)
    (λ e. ap with_both (cond-true (among 255 l) l (l ++ (255 ∷ [])) e))
    (λ e.
    let long : length (l ++ (255 ∷ [])) ≡ length l + 1 = length-append l (255 ∷ []) in
    let one : among 255 (l ++ (255 ∷ [])) ≡ true = rw (among-more 255 255 l, e) in
    let other : among 254 (l ++ (255 ∷ [])) ≡ among 254 l = among-more 254 255 l ∙ or-false (among 254 l) in
    let now : missing 255 (l ++ (255 ∷ [])) ≡ 0 = ap (λ (b : Bool). cond {A = ℕ} b 0 1) one in
    let before : missing 255 l ≡ 1 = ap (λ (b : Bool). cond {A = ℕ} b 0 1) e in
    let same : missing 254 (l ++ (255 ∷ [])) ≡ missing 254 l = ap (λ (b : Bool). cond {A = ℕ} b 0 1) other in
    ap with_both (cond-false (among 255 l) l (l ++ (255 ∷ [])) e) ∙ omega (arith, long, now, before, same))

list-local : (l : List ℕ) → with_both (list_table 255 l) ≡ with_both l
unfolding list_table
list-local l = add_local (add_table 254 l) ∙ add_main l

-- ---- the most that a step adds: n addresses, k routes, and the two tables
pub record Most (n k : ℕ) (st : State) (o : Out) : Type 0 where
  pub of_addresses : length o.state.addresses ≤ length st.addresses + n
  pub of_routes : length o.state.routes ≤ length st.routes + k
  pub of_tables : with_both o.state.tables ≡ with_both st.tables

most-also : (n m k j : ℕ) (st : State) (o : Out) (g : State → Out) → Most n k st o → Most m j o.state (g o.state) → Most (n + m) (k + j) st (also o g)
unfolding also
most-also n m k j st o g a b =
    record {
      of_addresses = omega (arith, a.of_addresses, b.of_addresses);
      of_routes = omega (arith, a.of_routes, b.of_routes);
      of_tables = b.of_tables ∙ a.of_tables;
    }

most-stays : (n k : ℕ) (st : State) → Most n k st (stays st)
most-stays n k st = record { of_addresses = omega arith; of_routes = omega arith; of_tables = refl }

add_most : (new : Row) → table new ≡ 255 → (st : State) → Most 0 1 st (kernel_add4 new st)
unfolding kernel_add4 create4
add_most new t st =
    go (insert4 new 0xc00 st.routes) (insert_grows new 0xc00 st.routes no-replacing)
  where
    tables : with_both (list_table (table new) st.tables) ≡ with_both st.tables
    tables = rw t (list-local st.tables)

    go : (i : Insert.Inserted) → Grows st.routes i → Most 0 1 st (inserted new i (create4 (table new) st))
    go (Insert.placed rows emitted) h = record { of_addresses = omega arith; of_routes = omega (arith, h); of_tables = tables }
    go Insert.nothing h = record { of_addresses = omega arith; of_routes = omega arith; of_tables = tables }
    go (Insert.unplaced n) h = record { of_addresses = omega arith; of_routes = omega arith; of_tables = tables }

most_le : {n k : ℕ} (m j : ℕ) {st : State} {o : Out} → n ≤ m → k ≤ j → Most n k st o → Most m j st o
most_le m j a b h =
    record { of_addresses = omega (arith, h.of_addresses); of_routes = omega (arith, h.of_routes); of_tables = h.of_tables }

-- ---- an address's routes: at most four, all in the local table
abbrev in_local : Row → Bool
in_local r = eqb (table r) 255

only-local : (b : Bool) (r : Row) → in_local r ≡ true → all in_local (only b r) ≡ true
only-local true r h = rw h
only-local false r h = refl

only_one : (b : Bool) (r : Row) → length (only b r) ≤ 1
only_one true r = omega arith
only_one false r = omega arith

pub candidates-local : (l : List Row) (up : Bool) (a : Row) → all in_local (candidates l up a) ≡ true
unfolding candidates up_routes local_route prefix_route kernel_route
candidates-local l up a =
    cond-case (λ (m : List Row). all in_local m ≡ true) up
    (λ e. all_append in_local (only (names_broadcast a) _) _ (only-local (names_broadcast a) _ refl)
    (all_append in_local (only (own_network a && not (secondary a) && not (no_prefix_route a)) _) _ (only-local (own_network a && not (secondary a) && not (no_prefix_route a)) _ refl)
    (only-local (own_network a && not (secondary a) && ltb (prefix a) 31) _ refl)))
    (λ e. refl)

pub candidates-four : (l : List Row) (up : Bool) (a : Row) → length (candidates l up a) ≤ 4
unfolding candidates up_routes
candidates-four l up a =
    let source = primary_of l a in
    let x = kernel_route (Address.broadcast a) 32 0 broadcast_kind source in
    let y = prefix_route source a in
    let z = kernel_route (broadcast (address a) (prefix a)) 32 0 broadcast_kind source in
    let b = names_broadcast a in
    let c = own_network a && not (secondary a) && not (no_prefix_route a) in
    let d = own_network a && not (secondary a) && ltb (prefix a) 31 in
    let three : length (only b x ++ (only c y ++ only d z)) ≤ 3 =
    omega (arith, length-append (only b x) (only c y ++ only d z), length-append (only c y) (only d z), only_one b x, only_one c y, only_one d z)
    in
    cond-case (λ (m : List Row). suc (length m) ≤ 4) up (λ e. omega (arith, three)) (λ e. omega arith)

install-most : (rows : List Row) → all in_local rows ≡ true → (st : State) → Most 0 (length rows) st (install rows st)
unfolding install through
install-most [] h st = most-stays 0 0 st
install-most (r ∷ rows) h st =
    most_le 0 (suc (length rows)) (omega arith) (omega arith)
    (most-also 0 0 1 (length rows) st (kernel_add4 r st) (through kernel_add4 rows)
    (add_most r (eqb-true (table r) 255 (all_head in_local r rows h)) st) (install-most rows (all_tail in_local r rows h) (kernel_add4 r st).state))

iteration-most : (l : List Row) (up : Bool) (a : Row) (st : State) → Most 0 4 st (install (candidates l up a) st)
iteration-most l up a st =
    most_le 0 4 (omega arith) (candidates-four l up a) (install-most (candidates l up a) (candidates-local l up a) st)

new_most : (new : Row) (up : Bool) (st : State) → Most 1 4 st (new_address new up st)
unfolding new_address
new_most new up st =
    let placed = with_addresses (place4 new st.addresses) st in
    most_le 1 4 (omega arith) (omega arith)
    (most-also 1 0 0 4 st (becomes placed (new_addr4 new ∷ [])) (install (candidates placed.addresses up new))
    (record { of_addresses = omega (arith, length-place4 new st.addresses); of_routes = omega arith; of_tables = refl })
    (iteration-most placed.addresses up new placed))

turns-most : (l m : List Row) (st : State) → Most 0 (4 * length m) st (through (iteration l) m st)
unfolding through
turns-most l [] st = most-stays 0 0 st
turns-most l (a ∷ m) st =
    most_le 0 (4 * length (a ∷ m)) (omega arith) (omega arith)
    (most-also 0 0 4 (4 * length m) st (iteration l a st) (through (iteration l) m) (iteration-most l true a st) (turns-most l m (iteration l a st).state))

loopback-most : (clock : ℕ) (o : Option Row) (st : State) → Most 1 4 st (out_of (added_over loopback clock o st))
loopback-most clock (some old) st = most-stays 1 4 st
loopback-most clock none st = new_most _ _ st

up-most : (clock : ℕ) (st : State) → Most 1 (4 + 4 * (length st.addresses + 1)) st (up clock st)
unfolding up add_v4
up-most clock st =
    let o = out_of (added_over loopback clock (first (same_address loopback) st.addresses) st) in
    let a = loopback-most clock (first (same_address loopback) st.addresses) st in
    most_le 1 (4 + 4 * (length st.addresses + 1)) (omega arith) (omega (arith, a.of_addresses))
    (most-also 1 0 4 (4 * length o.state.addresses) st o every a (turns-most o.state.addresses o.state.addresses o.state))

-- ---- within the limits
module _ {n k : ℕ} {st : State} {o : Out} (h : Most n k st o) where
  pub most-within : length st.addresses + n ≤ 64 → length st.routes + k ≤ 256 → length st.tables ≤ 30 → within (sizes o.state) ≡ true
  most-within a r t =
      let tables : length o.state.tables ≤ 32 = omega (arith, h.of_tables, missing_le 254 st.tables, missing_le 255 st.tables) in
      simp and_iff ((le-leb (length o.state.addresses) 64 (omega (arith, h.of_addresses)), le-leb (length o.state.routes) 256 (omega (arith, h.of_routes))), le-leb (length o.state.tables) 32 tables)

pub new_room : (new : Row) (up : Bool) (st : State) → length st.addresses < 64 → length st.routes + 4 ≤ 256 → length st.tables ≤ 30 → within (new_address new up st).peak ≡ true
new_room new up st a r t =
    rises_within st (new_address new up st) (new_address_rises new up st) (most-within (new_most new up st) (omega arith) r t)

pub up_room : (clock : ℕ) (st : State) → length st.addresses < 64 → length st.routes + 4 * (length st.addresses + 2) ≤ 256 → length st.tables ≤ 30 → within (up clock st).peak ≡ true
up_room clock st a r t =
    rises_within st (up clock st) (up_rises clock st) (most-within (up-most clock st) (omega arith) (omega arith) t)

module _ (q old : Row) (st : State) (a : length st.addresses ≤ 64) (r : length st.routes + 4 ≤ 256) (t : length st.tables ≤ 30) where
  here : within (sizes st) ≡ true
  here = most-within (most-stays 0 0 st) (omega arith) (omega arith) t

  moved-room : (within (moved q old st).peak ≡ true) × (within (sizes (moved q old st).state) ≡ true)
  unfolding moved also
  moved-room =
      cond-case (λ (o : Out). (within o.peak ≡ true) × (within (sizes o.state) ≡ true)) (reroutes q old)
      (λ e.
      let new = subnet_route (Address.priority q) (local old) old in
      let gone = prefix_route (local old) old in
      let made = kernel_add4 new st in
      let after : within (sizes made.state) ≡ true = most-within (add_most new (unfold kernel_route in refl) st) (omega arith) (omega arith) t in
      let u = kernel_del4-under gone made.state in (
        within-also made (kernel_del4 gone) ∙ and_both (within made.peak) (within (kernel_del4 gone made.state).peak)
            (rises_within st made (kernel_add4_rises new st) after) (covered (kernel_del4 gone made.state).peak (sizes made.state) u.ever after),
        covered (sizes (kernel_del4 gone made.state).state) (sizes made.state) u.at_end after,
      ))
      (λ e. (here, here))

  pub change-room : (clock : ℕ) → within (change_v4 q old clock st).peak ≡ true
  unfolding change_v4
  change-room clock =
      let row = changed_to q old clock in
      let later = (moved q old st).state in
      let g : State → Out = λ s. becomes (with_addresses (replace_first (same_address q) row s.addresses) s) (new_addr4 row ∷ []) in
      let last : within (sizes (with_addresses (replace_first (same_address q) row later.addresses) later)) ≡ true = rw (length-replace_first (same_address q) row later.addresses) moved-room.1 in
      within-also (moved q old st) g ∙ and_both (within (moved q old st).peak) (within (g later).peak) moved-room.0 last

added-room : (q : Row) (clock : ℕ) (o : Option Row) (st : State) → length st.addresses < 64 → length st.routes + 4 ≤ 256 → length st.tables ≤ 30 → roomy (added_over q clock o st) ≡ true
added-room q clock (some old) st a r t =
    cond-case (λ (u : Outcome). roomy u ≡ true) (eqb (replace_asked q) 1)
    (λ e. change-room q old st (omega arith) r t clock) (λ e. here q old st (omega arith) r t)
added-room q clock none st a r t = new_room _ _ st a r t

pub add_room : (q : Row) (clock : ℕ) (st : State) → length st.addresses < 64 → length st.routes + 4 ≤ 256 → length st.tables ≤ 30 → roomy (add_v4 q clock st) ≡ true
unfolding add_v4
add_room q clock st a r t = added-room q clock (first (same_address q) st.addresses) st a r t

-- ---- as the words say it
abbrev pub has_room : List ℕ → ℕ → Bool
has_room w rows = ltb (address_count w) 64 && leb (route_count w + rows) 256 && leb (table_count w) 30

module _ {w : List ℕ} (rows : ℕ) (b : Bool) (e : b ≡ has_room w rows) (y : b ≡ true) (st : State) (h : Represents w st) where
  facts : ((length st.addresses < 64) × (length st.routes + rows ≤ 256)) × (length st.tables ≤ 30)
  facts =
      let k = simp and_iff at (sym e ∙ y) in
      let n : address_count w < 64 = ltb-true (address_count w) 64 k.0.0 in
      let r : route_count w + rows ≤ 256 = leb-true (route_count w + rows) 256 k.0.1 in
      let t : table_count w ≤ 30 = leb-true (table_count w) 30 k.1 in
      ((omega (arith, count-addresses h), omega (arith, count-routes h)), omega (arith, count-tables h))

  pub add_certain : rows ≡ 4 → (q : Row) (clock : ℕ) → roomy (add_v4 q clock st) ≡ true
  add_certain four q clock = add_room q clock st facts.0.0 (omega (arith, facts.0.1, four)) facts.1

  pub up_certain : rows ≡ 4 * (address_count w + 2) → (clock : ℕ) → within (up clock st).peak ≡ true
  up_certain four clock = up_room clock st facts.0.0 (omega (arith, facts.0.1, four, count-addresses h)) facts.1
