-- The numbers with which the reference refuses: never 0, and none above Linux's errno list.
-- Assumes nothing.
use Rattle.std.specs.Prelude.{ℕ, ◌≤◌, ◌<◌, ◌≡◌, Bool, true, false, cond, not, ◌&&◌, ◌||◌, List, ◌≢◌, eqb, leb, ltb}
use Rattle.std.proofs.Math.Option.{Option, none, some}
use Rattle.std.proofs.Common.{arith, leb-true}
use Rattle.std.proofs.lemmas.Bool.{eqb-false, not-true, lt-leb}
use Rattle.lists.specs.Lists.{Row, any, first, eq_row}
use Rattle.lists.specs.Bools.{and_iff, cond-case}
use Rattle.kind.specs.Kind.{is_kind, error_of, least_scope}
use Rattle.layout.specs.Route.{alike, kind, scope, gateway, gateway_present, prefsrc_present}
use Rattle.layout.specs.Request.{fit_add_route4, metrics_error, oif, up_at_add_route4, nlm_flags, replace_asked}
use Rattle.definition.specs.State.{State}
use Rattle.definition.specs.Step.{unfit}
use Rattle.definition.specs.Reference.Lookup.{Flow, Found, answer, together, lookup_in, ruling, settled, rejects, listed, addr_type4, default_table, main_table, local_table, unicast_kind, local_kind}
use Rattle.definition.specs.Reference.Insert.{create4, Insertion, insert4, Inserted, placed, nothing, is_row, excl_flag, replace_flag, create_flag, append_flag}
use Rattle.definition.specs.Reference.Addresses.{Outcome, goes, refused, added_over, add_v4, same_address, link_scope, host_scope}
use Rattle.definition.specs.Reference.Removal.{deletes, deleted_at, del_v4}
use Rattle.definition.specs.Reference.Routes.{Reached, then, refuse, bad_prefix, dead_flags, unsupported, onlink_flag, form_check, onlink_check, to_gateway, usable, found_or, gateway_route, reached_by, gateway4, reach_check, asked_route, valid_prefsrc4, inserted_as, routed, added_by, table_named, selects, deleted_route, del_route4_request}

-- a number of the errno list
pub record Errno (n : ℕ) : Type 0 where
  pub positive : 0 < n
  pub most : n ≤ 133

abbrev errno : (n : ℕ) → 0 < n → n ≤ 133 → Errno n
errno n h k = record { positive = h; most = k }

-- ---- numbers put together
then-most : (a b : ℕ) → a ≤ 133 → b ≤ 133 → then a b ≤ 133
then-most a b h k = cond-case (λ (n : ℕ). n ≤ 133) (eqb a 0) (λ e. k) (λ e. h)

refuse-most : (b : Bool) (n : ℕ) → n ≤ 133 → refuse b n ≤ 133
refuse-most b n h = cond-case (λ (m : ℕ). m ≤ 133) b (λ e. h) (λ e. omega arith)

not-zero : (n : ℕ) → eqb n 0 ≡ false → 0 < n
not-zero n e = let f : n ≢ 0 = eqb-false n 0 e in omega arith

-- ---- lookups
pick-most : (b : Bool) (m n : ℕ) → m ≤ 133 → n ≤ 133 → cond b m n ≤ 133
pick-most true m n h k = h
pick-most false m n h k = k

error_most : (k : ℕ) → error_of k ≤ 133
unfolding error_of
error_most k =
    pick-most (eqb k 6) 22 _ (omega arith) (pick-most (eqb k 7) 113 _ (omega arith) (pick-most (eqb k 8) 13 _ (omega arith) (pick-most (eqb k 9) 11 0 (omega arith) (omega arith))))

abbrev pub OfFound : Found → Type 0
OfFound (Found.route r) = Unit
OfFound (Found.no_route n) = Errno n

ruling-number : (o : Option Row) → OfFound (ruling o)
ruling-number none = errno 101 (omega arith) (omega arith)
ruling-number (some r) =
    cond-case OfFound (rejects r) (λ e. errno (error_of (kind r)) (not-zero (error_of (kind r)) (not-true (eqb (error_of (kind r)) 0) e)) (error_most (kind r))) (λ e. tt)

pub lookup-number : (st : State) (f : Flow) → OfFound (lookup_in st f)
unfolding lookup_in
lookup-number st f =
    let upper : Option Row = answer (together main_table) f st.routes in
    let lower : Option Row = answer (together default_table) f st.routes in
    cond-case OfFound (settled upper) (λ e. ruling-number upper)
    (λ e. cond-case OfFound (listed default_table st && settled lower) (λ d. ruling-number lower) (λ d. errno 101 (omega arith) (omega arith)))

-- ---- the gateway
abbrev OfReached : Reached → Type 0
OfReached (Reached.by b) = Unit
OfReached (Reached.unreached n) = Errno n

plain-number : (b : Bool) (n : ℕ) → n ≤ 133 → OfReached (cond (eqb n 0) (Reached.by b) (Reached.unreached n))
plain-number b n h = cond-case OfReached (eqb n 0) (λ e. tt) (λ e. errno n (not-zero n e) h)

onlink-number : (q : Row) (st : State) → OfReached (onlink_check q st)
unfolding onlink_check
onlink-number q st =
    plain-number true _
    (then-most (refuse (leb link_scope (scope q)) 22) _ (refuse-most (leb link_scope (scope q)) 22 (omega arith))
    (then-most (refuse (not (eqb (oif q) 1)) 19) _ (refuse-most (not (eqb (oif q) 1)) 19 (omega arith))
    (then-most (refuse (eqb (up_at_add_route4 q) 0) 100) _ (refuse-most (eqb (up_at_add_route4 q) 0) 100 (omega arith))
    (refuse-most (not (eqb (addr_type4 st (gateway q) local_table) unicast_kind)) 22 (omega arith)))))

found_or-number : (o : Option Row) (f : Found) → OfFound f → OfFound (found_or o f)
found_or-number none f h = h
found_or-number (some r) f h = tt

gateway_route-number : (q : Row) (st : State) → OfFound (gateway_route q st)
unfolding gateway_route
gateway_route-number q st =
    let own : Option Row = answer (together (table_named q)) (to_gateway q) st.routes in
    cond-case OfFound (usable own) (λ e. found_or-number own (lookup_in st (to_gateway q)) (lookup-number st (to_gateway q))) (λ e. lookup-number st (to_gateway q))

reached_by-number : (q : Row) (f : Found) → OfFound f → OfReached (reached_by q f)
reached_by-number q (Found.no_route n) h = h
reached_by-number q (Found.route r) h =
    cond-case OfReached (eqb (kind r) unicast_kind || eqb (kind r) local_kind)
    (λ e. cond-case OfReached (eqb (up_at_add_route4 q) 0) (λ d. errno 100 (omega arith) (omega arith)) (λ d. tt))
    (λ e. errno 22 (omega arith) (omega arith))

reach-number : (q : Row) (st : State) → OfReached (reach_check q st)
unfolding reach_check gateway4
reach-number q st =
    let gatewayed : Bool = eqb (gateway_present q) 1 in
    cond-case OfReached (not (eqb (error_of (kind q)) 0))
    (λ e. plain-number false _ (refuse-most (gatewayed || not (eqb (oif q) 0)) 22 (omega arith)))
    (λ e. cond-case OfReached (ltb host_scope (scope q)) (λ d. errno 22 (omega arith) (omega arith))
    (λ d. cond-case OfReached (eqb (scope q) host_scope)
    (λ c. plain-number false _
    (then-most (refuse gatewayed 22) _ (refuse-most gatewayed 22 (omega arith)) (refuse-most (not (eqb (oif q) 1)) 19 (omega arith))))
    (λ c. cond-case OfReached gatewayed
    (λ b. cond-case OfReached (onlink_flag q) (λ a. onlink-number q st) (λ a. reached_by-number q (gateway_route q st) (gateway_route-number q st)))
    (λ b. plain-number false _
    (then-most (refuse (onlink_flag q) 22) _ (refuse-most (onlink_flag q) 22 (omega arith))
    (then-most (refuse (not (eqb (oif q) 1)) 19) _ (refuse-most (not (eqb (oif q) 1)) 19 (omega arith)) (refuse-most (eqb (up_at_add_route4 q) 0) 100 (omega arith))))))))

-- ---- the calls
-- a number of the reference: none that leaves every word whatever the call
pub record Referred (n : ℕ) : Type 0 where
  pub positive : 0 < n
  pub fit : unfit n ≡ false

abbrev pub Numbered : Outcome → Type 0
Numbered (goes o) = Unit
Numbered (refused n st) = Referred n

pub referred : (n : ℕ) → Errno n → Referred n
referred n e = record { positive = e.positive; fit = lt-leb 200 n (omega (arith, e.most)) }

abbrev refers : (n : ℕ) → 0 < n → n ≤ 133 → Referred n
refers n h k = referred n (errno n h k)

abbrev pub OfInserted : Inserted → Type 0
OfInserted (placed rows flags) = Unit
OfInserted nothing = Unit
OfInserted (Inserted.unplaced n) = Referred n

-- an insertion that refuses with numbers of the reference
abbrev pub Numbers : Insertion → Type 0
Numbers insert = (new : Row) (flags : ℕ) (l : List Row) → OfInserted (insert new flags l)

pub insert_number : (new : Row) (flags : ℕ) (l : List Row) → OfInserted (insert4 new flags l)
unfolding insert4
insert_number new flags l =
    let there : Referred 17 = refers 17 (omega arith) (omega arith) in
    let wanting : Referred 2 = refers 2 (omega arith) (omega arith) in
    cond-case OfInserted (any (alike new) l)
    (λ a. cond-case OfInserted (excl_flag flags) (λ b. there)
    (λ b. cond-case OfInserted (replace_flag flags)
    (λ c. cond-case OfInserted (is_row new (first (alike new) l)) (λ d. tt) (λ d. cond-case OfInserted (any (eq_row new) l) (λ e. there) (λ e. tt)))
    (λ c. cond-case OfInserted (any (eq_row new) l) (λ e. there)
    (λ e. cond-case OfInserted (create_flag flags) (λ g. cond-case OfInserted (append_flag flags) (λ h. tt) (λ h. tt)) (λ g. wanting)))))
    (λ a. cond-case OfInserted (create_flag flags) (λ g. tt) (λ g. wanting))

inserted_as-number : (new : Row) (i : Inserted) (st : State) → OfInserted i → Numbered (inserted_as new i st)
inserted_as-number new (placed rows flags) st h = tt
inserted_as-number new nothing st h = tt
inserted_as-number new (Inserted.unplaced n) st h = h

routed-number : (insert : Insertion) → Numbers insert → (q : Row) (r : Reached) (st : State) → OfReached r → Numbered (routed insert q r st)
routed-number insert i q (Reached.unreached n) st h = referred n h
routed-number insert i q (Reached.by linked) st h =
    cond-case Numbered (eqb (prefsrc_present q) 1 && not (valid_prefsrc4 q st)) (λ e. refers 22 (omega arith) (omega arith))
    (λ e. inserted_as-number (asked_route q linked) (insert (asked_route q linked) (nlm_flags q) st.routes) st (i (asked_route q linked) (nlm_flags q) st.routes))

metrics-most : (q : Row) → fit_add_route4 q ≡ true → metrics_error q ≤ 133
unfolding fit_add_route4
metrics-most q h = leb-true (metrics_error q) 133 (simp and_iff at h).0.1

form_most : (q : Row) → fit_add_route4 q ≡ true → form_check q ≤ 133
unfolding form_check
form_most q h =
    then-most (refuse (bad_prefix q) 22) _ (refuse-most (bad_prefix q) 22 (omega arith))
    (then-most (refuse (ltb (scope q) (least_scope (kind q)) || dead_flags q) 22) _ (refuse-most (ltb (scope q) (least_scope (kind q)) || dead_flags q) 22 (omega arith))
    (then-most (metrics_error q) _ (metrics-most q h)
    (refuse-most (not (is_kind (kind q))) (cond (unsupported (kind q)) 95 22) (cond-case (λ (n : ℕ). n ≤ 133) (unsupported (kind q)) (λ e. omega arith) (λ e. omega arith)))))

pub added-number : (insert : Insertion) → Numbers insert → (q : Row) (st : State) → fit_add_route4 q ≡ true → Numbered (added_by insert q st)
unfolding added_by
added-number insert i q st h =
    let made : State = create4 (table_named q) st in
    cond-case Numbered (eqb (form_check q) 0) (λ e. routed-number insert i q (reach_check q made) made (reach-number q made))
    (λ e. refers (form_check q) (not-zero (form_check q) e) (form_most q h))

deleted_route-number : (q : Row) (o : Option Row) (st : State) → Numbered (deleted_route q o st)
deleted_route-number q none st = refers 3 (omega arith) (omega arith)
deleted_route-number q (some r) st = tt

pub del_route4-number : (q : Row) (st : State) → Numbered (del_route4_request q st)
unfolding del_route4_request
del_route4-number q st =
    cond-case Numbered (listed (table_named q) st)
    (λ e. cond-case Numbered (bad_prefix q) (λ d. refers 22 (omega arith) (omega arith)) (λ d. deleted_route-number q (first (selects q) st.routes) st))
    (λ e. refers 3 (omega arith) (omega arith))

added_over-number : (q : Row) (now : ℕ) (o : Option Row) (st : State) → Numbered (added_over q now o st)
added_over-number q now (some old) st = cond-case Numbered (eqb (replace_asked q) 1) (λ e. tt) (λ e. refers 17 (omega arith) (omega arith))
added_over-number q now none st = tt

pub add_v4-number : (q : Row) (now : ℕ) (st : State) → Numbered (add_v4 q now st)
unfolding add_v4
add_v4-number q now st = added_over-number q now (first (same_address q) st.addresses) st

deleted_at-number : (o : Option Row) (st : State) → Numbered (deleted_at o st)
deleted_at-number none st = refers 99 (omega arith) (omega arith)
deleted_at-number (some a) st = tt

pub del_v4-number : (q : Row) (st : State) → Numbered (del_v4 q st)
unfolding del_v4
del_v4-number q st = deleted_at-number (first (deletes q) st.addresses) st
