-- Every step tells of the route rows that it takes away.
-- Assumes nothing.
use Rattle.std.specs.Prelude.{ℕ, zero, suc, ◌≡◌, refl, Bool, true, false, cond, not, ◌&&◌, ◌||◌, List, [], ◌∷◌, ◌++◌, eqb, length}
use Rattle.std.proofs.Common.{sym, ap, ◌∙◌}
use Rattle.std.proofs.lemmas.Bool.{false≢true}
use Rattle.std.proofs.Math.Option.{Option, none, some}
use Rattle.lists.specs.Lists.{Row, any, keep, first, remove_first, replace_first, eq_row}
use Rattle.lists.specs.Bools.{and_left, and_right, and_both, or_case, or_left, or_right, cond-case, cond-true, cond-false, test-case}
use Rattle.lists.specs.All.{eq_row-true, eq_row-refl, eq_eq_row}
use Rattle.lists.specs.Count.{any-back}
use Rattle.lists.specs.Split.{any-joined}
use Rattle.layout.specs.Address.{local}
use Rattle.layout.specs.Route as Route
use Rattle.layout.specs.Route.{table, alike, before}
use Rattle.layout.specs.Event.{new_addr4, del_addr4, new_route4, del_route4, link_down, ip_disabled}
use Rattle.layout.specs.Request.{replace_asked, nlm_flags}
use Rattle.definition.specs.State.{State, Out, becomes, stays, also, through, with_addresses, with_routes}
use Rattle.definition.specs.Reference.Lookup.{local_kind, main_table, listed, local4}
use Rattle.definition.specs.Reference.Insert.{Inserted, placed, nothing, unplaced, Insertion, excl_flag, replace_flag, create_flag, append_flag, is_row, ahead, behind, insert4, inserted, create4, kernel_flags, kernel_add4, matches, removed, kernel_del4}
use Rattle.definition.specs.Reference.Addresses.{Outcome, goes, refused, candidates, prefix_route, install, place4, new_address, moved, reroutes, change_v4, added_over, add_v4, same_address, loopback, out_of, up, down, host_scope}
use Rattle.definition.specs.Reference.Removal.{of_kind, unwanted, dependent_on, fall, disable, remove_one, gone_with, remove_v4, deletes, deleted_at, del_v4, due, deprecate_due, passes, expire}
use Rattle.definition.specs.Reference.Routes.{Reached, form_check, reach_check, table_named, bad_prefix, asked_route, valid_prefsrc4, inserted_as, routed, selects, deleted_route, del_route4_request, added_by}
use Rattle.definition.specs.Preservation.Removal.{option_case}
use Rattle.definition.specs.Events.{of_row, of_device, is_in, told}

-- ---- rows of a list with one taken out, in another's place, or put in
removed_or : (p : Row → Bool) (l : List Row) (r x : Row) → first p l ≡ some x → is_in r l ≡ true → is_in r (remove_first p l) || eq_row r x ≡ true
removed_or p [] r x e h = absurd (false≢true h)
removed_or p (y ∷ l) r x e h =
    test-case (p y)
    (λ t.
    let same : y ≡ x = some_same (sym (cond-true (p y) (some y) (first p l) t) ∙ e) in
    rw t (or_case (eq_row r y) (is_in r l) h (λ q. or_right (is_in r l) (eq_row r x) (ap (eq_row r) (sym same) ∙ q)) (λ q. or_left (is_in r l) (eq_row r x) q)))
    (λ t.
    let later : first p l ≡ some x = sym (cond-false (p y) (some y) (first p l) t) ∙ e in
    let rest = is_in r (remove_first p l) in
    rw t
    (or_case (eq_row r y) (is_in r l) h (λ q. or_left (eq_row r y || rest) (eq_row r x) (or_left (eq_row r y) rest q))
    (λ q. or_case rest (eq_row r x) (removed_or p l r x later q) (λ z. or_left (eq_row r y || rest) (eq_row r x) (or_right (eq_row r y) rest z)) (λ z. or_right (eq_row r y || rest) (eq_row r x) z))))
  where
    some_same : {x y : Row} → some x ≡ some y → x ≡ y
    some_same e = cc

replaced_or : (p : Row → Bool) (new : Row) (l : List Row) (r : Row) → is_in r l ≡ true → is_in r (replace_first p new l) || p r ≡ true
replaced_or p new [] r h = absurd (false≢true h)
replaced_or p new (y ∷ l) r h =
    test-case (p y)
    (λ t.
    let after = eq_row r new || is_in r l in
    rw t (or_case (eq_row r y) (is_in r l) h (λ q. or_right after (p r) (ap p (eq_row-true r y q) ∙ t)) (λ q. or_left after (p r) (or_right (eq_row r new) (is_in r l) q))))
    (λ t.
    let rest = is_in r (replace_first p new l) in
    rw t
    (or_case (eq_row r y) (is_in r l) h (λ q. or_left (eq_row r y || rest) (p r) (or_left (eq_row r y) rest q))
    (λ q. or_case rest (p r) (replaced_or p new l r q) (λ z. or_left (eq_row r y || rest) (p r) (or_right (eq_row r y) rest z)) (λ z. or_right (eq_row r y || rest) (p r) z))))

kept_in : (p : Row → Bool) (l : List Row) (r : Row) → p r ≡ true → is_in r l ≡ true → is_in r (keep p l) ≡ true
kept_in p [] r e h = h
kept_in p (y ∷ l) r e h =
    test-case (p y)
    (λ t. rw t (or_case (eq_row r y) (is_in r l) h (λ q. or_left (eq_row r y) (is_in r (keep p l)) q) (λ q. or_right (eq_row r y) (is_in r (keep p l)) (kept_in p l r e q))))
    (λ t. rw t (or_case (eq_row r y) (is_in r l) h (λ q. absurd (false≢true (sym t ∙ ap p (sym (eq_row-true r y q)) ∙ e))) (λ q. kept_in p l r e q)))

around_in : (p : Row → Bool) (new : Row) (l : List Row) (r : Row) → is_in r l ≡ true → is_in r (keep p l ++ (new ∷ keep (λ x. not (p x)) l)) ≡ true
around_in p new l r h =
    let front = keep p l in
    let back = keep (λ x. not (p x)) l in
    test-case (p r)
    (λ e. any-joined (eq_row r) front (new ∷ back) ∙ or_left (is_in r front) (is_in r (new ∷ back)) (kept_in p l r e h))
    (λ e. any-back (eq_row r) front (new ∷ back) (or_right (eq_row r new) (is_in r back) (kept_in (λ x. not (p x)) l r (ap not e) h)))

-- ---- steps
pub record Told (st : State) (o : Out) : Type 0 where
  pub each : (r : Row) → is_in r st.routes ≡ true → told o.emitted o.state.routes r ≡ true

-- of an outcome: a refusal leaves every row
abbrev pub ToldOutcome : State → Outcome → Type 0
ToldOutcome st (goes o) = Told st o
ToldOutcome st (refused n later) = later.routes ≡ st.routes

abbrev ends : Row → Row → Bool
ends r e = of_row r e || of_device r e

-- the routes are the same
same-told : (st later : State) (rows : List Row) → later.routes ≡ st.routes → Told st (becomes later rows)
same-told st later rows e = record { each = λ r h. or_left (is_in r later.routes) (any (ends r) rows) (ap (is_in r) e ∙ h) }

stays-told : (st : State) → Told st (stays st)
stays-told st = same-told st st [] refl

also-told : (st : State) (o : Out) (g : State → Out) → Told st o → ((s : State) → Told s (g s)) → Told st (also o g)
unfolding also
also-told st o g h k =
    let p = g o.state in
    record {
      each = λ r i.
          let after = is_in r p.state.routes in
          or_case (is_in r o.state.routes) (any (ends r) o.emitted) (h.each r i)
          (λ m. or_case after (any (ends r) p.emitted) ((k o.state).each r m) (λ q. or_left after (any (ends r) (o.emitted ++ p.emitted)) q)
          (λ q. or_right after (any (ends r) (o.emitted ++ p.emitted)) (any-back (ends r) o.emitted p.emitted q)))
          (λ q. or_right after (any (ends r) (o.emitted ++ p.emitted)) (any-joined (ends r) o.emitted p.emitted ∙ or_left (any (ends r) o.emitted) (any (ends r) p.emitted) q));
    }

through-told : {A : Type 0} (f : A → State → Out) → ((x : A) (s : State) → Told s (f x s)) → (l : List A) (st : State) → Told st (through f l st)
unfolding through
through-told f g [] st = stays-told st
through-told f g (x ∷ l) st = also-told st (f x st) (through f l) (g x st) (λ s. through-told f g l s)

-- one event, which ends the row where it isn't there any more
one_told : (after : List Row) (e r : Row) (p : Bool) → is_in r after || p ≡ true → (p ≡ true → ends r e ≡ true) → told (e ∷ []) after r ≡ true
one_told after e r p h k =
    or_case (is_in r after) p h (λ q. or_left (is_in r after) (any (ends r) (e ∷ [])) q) (λ q. or_right (is_in r after) (any (ends r) (e ∷ [])) (or_left (ends r e) false (k q)))

-- ---- a route taken out, put in, or put in another's place
deleted_ends : (r x : Row) → eq_row r x ≡ true → ends r (del_route4 x) ≡ true
deleted_ends r x e =
    or_left (of_row r (del_route4 x)) (of_device r (del_route4 x))
    (or_left (eq_row (del_route4 x) (del_route4 r)) _ (eq_eq_row (del_route4 x) (del_route4 r) (ap del_route4 (sym (eq_row-true r x e)))))

taken-told : (p : Row → Bool) (x : Row) (st : State) → first p st.routes ≡ some x → Told st (becomes (with_routes (remove_first p st.routes) st) (del_route4 x ∷ []))
taken-told p x st e =
    record { each = λ r h. one_told (remove_first p st.routes) (del_route4 x) r (eq_row r x) (removed_or p st.routes r x e h) (deleted_ends r x) }

removed-told : (p : Row → Bool) (o : Option Row) (st : State) → first p st.routes ≡ o → Told st (removed p o st)
removed-told p none st e = stays-told st
removed-told p (some x) st e = taken-told p x st e

kernel_del4-told : (p : Row) (st : State) → Told st (kernel_del4 p st)
unfolding kernel_del4
kernel_del4-told p st = removed-told (matches p) (first (matches p) st.routes) st refl

replaced_ends : (new r : Row) → alike new r ≡ true → ends r (new_route4 new 0x100) ≡ true
unfolding new_route4
replaced_ends new r e = or_left (of_row r (3 ∷ 0x100 ∷ new)) (of_device r (3 ∷ 0x100 ∷ new)) (or_right (eq_row (3 ∷ 0x100 ∷ new) (del_route4 r)) (alike new r) e)

abbrev Placed : List Row → Row → Inserted → Type 0
Placed rows new (placed later flags) = (r : Row) → is_in r rows ≡ true → told (new_route4 new flags ∷ []) later r ≡ true
Placed rows new nothing = Unit
Placed rows new (unplaced n) = Unit

-- an insertion keeps every row, but one that it replaces
pub record Inserts (insert : Insertion) : Type 0 where
  pub places : (new : Row) (flags : ℕ) (rows : List Row) → Placed rows new (insert new flags rows)

put-told : (rows later : List Row) (new : Row) (flags : ℕ) → ((r : Row) → is_in r rows ≡ true → is_in r later ≡ true) → Placed rows new (placed later flags)
put-told rows later new flags k r h = or_left (is_in r later) (any (ends r) (new_route4 new flags ∷ [])) (k r h)

ahead-told : (rows : List Row) (new : Row) (flags : ℕ) → Placed rows new (placed (ahead new rows) flags)
unfolding ahead
ahead-told rows new flags = put-told rows (ahead new rows) new flags (around_in (λ x. before x new) new rows)

behind-told : (rows : List Row) (new : Row) (flags : ℕ) → Placed rows new (placed (behind new rows) flags)
unfolding behind
behind-told rows new flags =
    put-told rows (behind new rows) new flags (λ r h. ap (λ (back : List Row). is_in r (keep (λ x. not (before new x)) rows ++ (new ∷ back))) (sym (twice rows)) ∙ around_in (λ x. not (before new x)) new rows r h)
  where
    twice : (l : List Row) → keep (λ x. not (not (before new x))) l ≡ keep (λ x. before new x) l
    twice [] = refl
    twice (x ∷ l) = test-case (before new x) (λ e. rw e (ap (λ (m : List Row). x ∷ m) (twice l))) (λ e. rw e (twice l))

pub insert4-told : Inserts insert4
unfolding insert4
insert4-told =
    record {
      places = λ new flags rows.
          let here = any (eq_row new) rows in
          cond-case (Placed rows new) (any (alike new) rows)
          (λ a. cond-case (Placed rows new) (excl_flag flags) (λ b. tt)
          (λ b. cond-case (Placed rows new) (replace_flag flags)
          (λ c. cond-case (Placed rows new) (is_row new (first (alike new) rows)) (λ d. tt)
          (λ d. cond-case (Placed rows new) here (λ e. tt)
          (λ e r h. one_told (replace_first (alike new) new rows) (new_route4 new 0x100) r (alike new r) (replaced_or (alike new) new rows r h) (replaced_ends new r))))
          (λ c. cond-case (Placed rows new) here (λ d. tt)
          (λ d. cond-case (Placed rows new) (create_flag flags)
          (λ e. cond-case (Placed rows new) (append_flag flags) (λ g. behind-told rows new _) (λ g. ahead-told rows new _))
          (λ e. tt)))))
          (λ a. cond-case (Placed rows new) (create_flag flags) (λ b. ahead-told rows new _) (λ b. tt));
    }

-- on a state whose routes are those of st
inserted-told : (st made : State) (new : Row) (i : Inserted) → made.routes ≡ st.routes → Placed made.routes new i → Told st (inserted new i made)
inserted-told st made new (placed rows flags) e k = record { each = λ r h. k r (ap (is_in r) e ∙ h) }
inserted-told st made new nothing e k = same-told st made [] e
inserted-told st made new (unplaced n) e k = same-told st made [] e

kernel_add4-told : (new : Row) (st : State) → Told st (kernel_add4 new st)
unfolding kernel_add4 create4
kernel_add4-told new st =
    let made = create4 (table new) st in
    inserted-told st made new (insert4 new kernel_flags made.routes) refl (insert4-told.places new kernel_flags made.routes)

-- ---- addresses put in
install-told : (l : List Row) (st : State) → Told st (install l st)
unfolding install
install-told l st = through-told kernel_add4 kernel_add4-told l st

new_address-told : (new : Row) (up : Bool) (st : State) → Told st (new_address new up st)
unfolding new_address
new_address-told new up st =
    let placed = with_addresses (place4 new st.addresses) st in
    also-told st (becomes placed (new_addr4 new ∷ [])) (install (candidates placed.addresses up new)) (same-told st placed (new_addr4 new ∷ []) refl) (install-told (candidates placed.addresses up new))

moved_told : (q old : Row) (st : State) → Told st (moved q old st)
unfolding moved
moved_told q old st =
    cond-case (Told st) (reroutes q old)
    (λ e. also-told st _ (kernel_del4 (prefix_route (local old) old)) (kernel_add4-told _ st) (kernel_del4-told (prefix_route (local old) old)))
    (λ e. stays-told st)

change_v4-told : (q old : Row) (now : ℕ) (st : State) → Told st (change_v4 q old now st)
unfolding change_v4
change_v4-told q old now st = also-told st (moved q old st) _ (moved_told q old st) (λ s. same-told s _ _ refl)

added_over-told : (q : Row) (now : ℕ) (o : Option Row) (st : State) → ToldOutcome st (added_over q now o st)
added_over-told q now (some old) st = cond-case (ToldOutcome st) (eqb (replace_asked q) 1) (λ e. change_v4-told q old now st) (λ e. refl)
added_over-told q now none st = new_address-told _ _ st

pub add_v4-told : (q : Row) (now : ℕ) (st : State) → ToldOutcome st (add_v4 q now st)
unfolding add_v4
add_v4-told q now st = added_over-told q now (first (same_address q) st.addresses) st

out_told : (st : State) (o : Outcome) → ToldOutcome st o → Told st (out_of o)
out_told st (goes o) h = h
out_told st (refused n later) h = same-told st later [] h

pub up-told : (now : ℕ) (st : State) → Told st (up now st)
unfolding up
up-told now st =
    also-told st (out_of (add_v4 loopback now st)) (λ later. through (λ a. install (candidates later.addresses true a)) later.addresses later)
    (out_told st (add_v4 loopback now st) (add_v4-told loopback now st))
    (λ s. through-told (λ a. install (candidates s.addresses true a)) (λ a t. install-told (candidates s.addresses true a) t) s.addresses s)

-- ---- routes by request
inserted_as-told : (st made : State) (new : Row) (i : Inserted) → made.routes ≡ st.routes → Placed made.routes new i → ToldOutcome st (inserted_as new i made)
inserted_as-told st made new (placed rows flags) e k = inserted-told st made new (placed rows flags) e k
inserted_as-told st made new nothing e k = same-told st made [] e
inserted_as-told st made new (unplaced n) e k = e

routed-told : {insert : Insertion} → Inserts insert → (q : Row) (r : Reached) (st made : State) → made.routes ≡ st.routes → ToldOutcome st (routed insert q r made)
routed-told i q (Reached.unreached n) st made e = e
routed-told {insert} i q (Reached.by linked) st made e =
    cond-case (ToldOutcome st) (eqb (Route.prefsrc_present q) 1 && not (valid_prefsrc4 q made)) (λ h. e)
    (λ h. inserted_as-told st made (asked_route q linked) (insert (asked_route q linked) (nlm_flags q) made.routes) e (i.places (asked_route q linked) (nlm_flags q) made.routes))

pub added-told : {insert : Insertion} → Inserts insert → (q : Row) (st : State) → ToldOutcome st (added_by insert q st)
unfolding added_by create4
added-told i q st =
    let made = create4 (table_named q) st in
    cond-case (ToldOutcome st) (eqb (form_check q) 0) (λ e. routed-told i q (reach_check q made) st made refl) (λ e. refl)

deleted_route-told : (q : Row) (o : Option Row) (st : State) → first (selects q) st.routes ≡ o → ToldOutcome st (deleted_route q o st)
deleted_route-told q none st e = refl
deleted_route-told q (some r) st e = taken-told (selects q) r st e

pub del_route4-told : (q : Row) (st : State) → ToldOutcome st (del_route4_request q st)
unfolding del_route4_request
del_route4-told q st =
    cond-case (ToldOutcome st) (listed (table_named q) st)
    (λ e. cond-case (ToldOutcome st) (bad_prefix q) (λ d. refl) (λ d. deleted_route-told q (first (selects q) st.routes) st refl)) (λ e. refl)

-- ---- rows that one event is of
swept_told : (falls : Row → Bool) (e : Row) (st : State) → ((r : Row) → falls r ≡ true → of_device r e ≡ true)
    → Told st (becomes (with_routes (keep (λ r. not (falls r)) st.routes) st) (e ∷ []))
swept_told falls e st k =
    let stays : Row → Bool = λ r. not (falls r) in
    let after = keep stays st.routes in
    record {
      each = λ r h.
          test-case (falls r)
          (λ g. or_right (is_in r after) (any (ends r) (e ∷ [])) (or_left (ends r e) false (or_right (of_row r e) (of_device r e) (k r g))))
          (λ g. or_left (is_in r after) (any (ends r) (e ∷ [])) (kept_in stays st.routes r (ap not g) h));
    }

pub down-told : (st : State) → Told st (down st)
unfolding down
down-told st =
    swept_told (λ r. eqb (Route.device r) 1 && not (eqb (Route.scope r) host_scope)) link_down st
    (λ r h.
    let d = eqb (Route.device r) 1 in
    let s = not (eqb (Route.scope r) 254) in
    let five = eq_row link_down link_down && s in
    and_both d (five || eq_row link_down ip_disabled) (and_left d s h)
    (or_left five (eq_row link_down ip_disabled) (and_both (eq_row link_down link_down) s (eq_row-refl link_down) (and_right d s h))))

disable-told : (st : State) → Told st (disable st)
unfolding disable
disable-told st =
    cond-case (Told st) (eqb (length st.addresses) 0)
    (λ e. swept_told (λ r. eqb (Route.device r) 1) ip_disabled st
    (λ r h.
    let five = eq_row ip_disabled link_down && not (eqb (Route.scope r) 254) in
    and_both (eqb (Route.device r) 1) (five || eq_row ip_disabled ip_disabled) h (or_right five (eq_row ip_disabled ip_disabled) (eq_row-refl ip_disabled))))
    (λ e. stays-told st)

-- ---- addresses taken out
-- the main rows that fall by their preferred source have each its DelRoute4: the paper's added deletions have no place to stand
fall-told : (a : Row) (routes : List Row) (st : State) → Told st (fall a routes st)
unfolding fall
fall-told a routes st =
    cond-case (Told st) (any (λ r. of_kind local_kind r && eqb (Route.len r) 32) routes && not (local4 st (local a)))
    (λ e. through-told kernel_del4 kernel_del4-told (cond (listed main_table st) (keep (dependent_on (local a)) st.routes) []) st)
    (λ e. stays-told st)

remove_one-told : (a : Row) (st : State) → Told st (remove_one a st)
unfolding remove_one
remove_one-told a st =
    let remaining : List Row = remove_first (eq_row a) st.addresses in
    let routes : List Row = unwanted st.addresses remaining a in
    also-told st _ disable
    (also-told st _ (fall a routes)
    (also-told st (becomes (with_addresses remaining st) (del_addr4 a ∷ [])) (through kernel_del4 routes) (same-told st _ _ refl) (through-told kernel_del4 kernel_del4-told routes))
    (fall-told a routes))
    disable-told

remove_v4-told : (a : Row) (st : State) → Told st (remove_v4 a st)
unfolding remove_v4
remove_v4-told a st = through-told remove_one remove_one-told (gone_with st.addresses a) st

deleted_at-told : (o : Option Row) (st : State) → ToldOutcome st (deleted_at o st)
deleted_at-told none st = refl
deleted_at-told (some a) st = remove_v4-told a st

pub del_v4-told : (q : Row) (st : State) → ToldOutcome st (del_v4 q st)
unfolding del_v4
del_v4-told q st = deleted_at-told (first (deletes q) st.addresses) st

deprecate_due-told : (allowance now : ℕ) (st : State) → Told st (deprecate_due allowance now st)
unfolding deprecate_due
deprecate_due-told allowance now st = same-told st _ _ refl

passes-told : (n allowance now : ℕ) (st : State) → Told st (passes n allowance now st)
unfolding passes
passes-told zero allowance now st = deprecate_due-told allowance now st
passes-told (suc n) allowance now st =
    option_case (Told st) (first (due allowance now) st.addresses) (deprecate_due allowance now st)
    (λ a. also (also (deprecate_due allowance now st) (remove_v4 a)) (passes n allowance now))
    (deprecate_due-told allowance now st)
    (λ a e. also-told st (also (deprecate_due allowance now st) (remove_v4 a)) (passes n allowance now)
    (also-told st (deprecate_due allowance now st) (remove_v4 a) (deprecate_due-told allowance now st) (remove_v4-told a)) (passes-told n allowance now))

pub expire-told : (allowance now : ℕ) (st : State) → Told st (expire allowance now st)
unfolding expire
expire-told allowance now st = passes-told (length st.addresses) allowance now st
