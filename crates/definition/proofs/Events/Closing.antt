-- Where events 5 and 6 stand among those of a step.
-- Assumes nothing.
use Rattle.std.specs.Prelude.{ℕ, zero, suc, ◌+◌, ◌≤◌, ◌≡◌, refl, Bool, true, cond, not, ◌&&◌, List, [], ◌∷◌, ◌++◌, map, eqb, length}
use Rattle.std.proofs.Common.{sym, ap, ◌∙◌, append_assoc, append-nil, arith, length-append, eqb-true}
use Rattle.std.proofs.Math.Option.{Option, none, some}
use Rattle.std.proofs.lemmas.List.{length-map}
use Rattle.std.proofs.lemmas.Bool.{eqb-false}
use Rattle.lists.specs.Lists.{Row, all, any, keep, first, until, onward, remove_first, replace_first, eq_row}
use Rattle.lists.specs.Bools.{cond-case, test-case}
use Rattle.lists.specs.All.{all_append}
use Rattle.lists.specs.Count.{any-back, until-onward, onward-first, first-there, length-remove_first, Within, within_first, within-rest}
use Rattle.layout.specs.Address.{local}
use Rattle.layout.specs.Route as Route
use Rattle.layout.specs.Route.{table}
use Rattle.layout.specs.Event.{new_addr4, del_addr4, new_route4, del_route4, ip_disabled}
use Rattle.layout.specs.Request.{replace_asked, nlm_flags}
use Rattle.definition.specs.State.{State, Out, becomes, stays, also, through, with_addresses}
use Rattle.definition.specs.Reference.Lookup.{local_kind, main_table, listed, local4}
use Rattle.definition.specs.Reference.Insert.{Inserted, placed, nothing, unplaced, Insertion, insert4, inserted, create4, kernel_flags, kernel_add4, matches, removed, kernel_del4}
use Rattle.definition.specs.Reference.Addresses.{Outcome, goes, refused, candidates, prefix_route, install, place4, new_address, changed_to, moved, reroutes, change_v4, added_over, add_v4, same_address, loopback, out_of, up}
use Rattle.definition.specs.Reference.Removal.{of_kind, unwanted, dependent_on, fall, disable, remove_one, gone_with, remove_v4, deletes, deleted_at, del_v4, due, deprecates, deprecate, marked, deprecate_due, passes, expire}
use Rattle.definition.specs.Reference.Routes.{Reached, form_check, reach_check, table_named, bad_prefix, asked_route, valid_prefsrc4, inserted_as, routed, selects, deleted_route, del_route4_request, added_by}
use Rattle.definition.specs.Preservation.Removal.{option_case}
use Rattle.definition.specs.Preservation.Growing.{length-place4}
use Rattle.definition.specs.Preservation.Shrinking.{through_away, kernel_del4_away, fall_away, remove_one_removes, gone_with-within}
use Rattle.definition.specs.Events.{plain, Closes}

-- ---- steps with document 01's events alone, which leave as many addresses or more
pub record Plain (st : State) (o : Out) : Type 0 where
  pub events : all plain o.emitted ≡ true
  pub addresses : length st.addresses ≤ length o.state.addresses

abbrev pub PlainOutcome : State → Outcome → Type 0
PlainOutcome st (goes o) = Plain st o
PlainOutcome st (refused n later) = length st.addresses ≤ length later.addresses

stays_plain : (st : State) → Plain st (stays st)
stays_plain st = record { events = refl; addresses = omega arith }

also-plain : (st : State) (o : Out) (g : State → Out) → Plain st o → ((s : State) → Plain s (g s)) → Plain st (also o g)
unfolding also
also-plain st o g h k =
    let later = k o.state in
    record { events = all_append plain o.emitted (g o.state).emitted h.events later.events; addresses = omega (arith, h.addresses, later.addresses) }

through_plain : {A : Type 0} (f : A → State → Out) → ((x : A) (s : State) → Plain s (f x s)) → (l : List A) (st : State) → Plain st (through f l st)
unfolding through
through_plain f g [] st = stays_plain st
through_plain f g (x ∷ l) st = also-plain st (f x st) (through f l) (g x st) (λ s. through_plain f g l s)

-- an insertion leaves the addresses
inserted-plain : (st made : State) (new : Row) (i : Inserted) → made.addresses ≡ st.addresses → Plain st (inserted new i made)
unfolding new_route4
inserted-plain st made new (placed rows flags) e = record { events = refl; addresses = omega (arith, ap length e) }
inserted-plain st made new nothing e = record { events = refl; addresses = omega (arith, ap length e) }
inserted-plain st made new (unplaced n) e = record { events = refl; addresses = omega (arith, ap length e) }

kernel_add4-plain : (new : Row) (st : State) → Plain st (kernel_add4 new st)
unfolding kernel_add4 create4
kernel_add4-plain new st =
    let made = create4 (table new) st in
    inserted-plain st made new (insert4 new kernel_flags made.routes) refl

removed-plain : (p : Row → Bool) (o : Option Row) (st : State) → Plain st (removed p o st)
unfolding del_route4
removed-plain p none st = stays_plain st
removed-plain p (some r) st = record { events = refl; addresses = omega arith }

kernel_del4-plain : (p : Row) (st : State) → Plain st (kernel_del4 p st)
unfolding kernel_del4
kernel_del4-plain p st = removed-plain (matches p) (first (matches p) st.routes) st

install-plain : (l : List Row) (st : State) → Plain st (install l st)
unfolding install
install-plain l st = through_plain kernel_add4 kernel_add4-plain l st

new_address-plain : (new : Row) (up : Bool) (st : State) → Plain st (new_address new up st)
unfolding new_address new_addr4
new_address-plain new up st =
    let placed = with_addresses (place4 new st.addresses) st in
    also-plain st (becomes placed (new_addr4 new ∷ [])) (install (candidates placed.addresses up new))
    (record { events = refl; addresses = omega (arith, length-place4 new st.addresses) })
    (install-plain (candidates placed.addresses up new))

moved_plain : (q old : Row) (st : State) → Plain st (moved q old st)
unfolding moved
moved_plain q old st =
    cond-case (Plain st) (reroutes q old)
    (λ e. also-plain st _ (kernel_del4 (prefix_route (local old) old)) (kernel_add4-plain _ st) (kernel_del4-plain (prefix_route (local old) old)))
    (λ e. stays_plain st)

length-replace_first : (p : Row → Bool) (y : Row) (l : List Row) → length (replace_first p y l) ≡ length l
length-replace_first p y [] = refl
length-replace_first p y (x ∷ l) = cond-case (λ (m : List Row). length m ≡ suc (length l)) (p x) (λ e. refl) (λ e. ap suc (length-replace_first p y l))

change_v4-plain : (q old : Row) (now : ℕ) (st : State) → Plain st (change_v4 q old now st)
unfolding change_v4 new_addr4
change_v4-plain q old now st =
    also-plain st (moved q old st) _ (moved_plain q old st) (λ s. record { events = refl; addresses = omega (arith, length-replace_first (same_address q) (changed_to q old now) s.addresses) })

added_over-plain : (q : Row) (now : ℕ) (o : Option Row) (st : State) → PlainOutcome st (added_over q now o st)
added_over-plain q now (some old) st = cond-case (PlainOutcome st) (eqb (replace_asked q) 1) (λ e. change_v4-plain q old now st) (λ e. omega arith)
added_over-plain q now none st = new_address-plain _ _ st

pub add_v4-plain : (q : Row) (now : ℕ) (st : State) → PlainOutcome st (add_v4 q now st)
unfolding add_v4
add_v4-plain q now st = added_over-plain q now (first (same_address q) st.addresses) st

out_plain : (st : State) (o : Outcome) → PlainOutcome st o → Plain st (out_of o)
out_plain st (goes o) h = h
out_plain st (refused n later) h = record { events = refl; addresses = h }

pub up-plain : (now : ℕ) (st : State) → Plain st (up now st)
unfolding up
up-plain now st =
    also-plain st (out_of (add_v4 loopback now st)) (λ later. through (λ a. install (candidates later.addresses true a)) later.addresses later)
    (out_plain st (add_v4 loopback now st) (add_v4-plain loopback now st))
    (λ s. through_plain (λ a. install (candidates s.addresses true a)) (λ a t. install-plain (candidates s.addresses true a) t) s.addresses s)

inserted_as-plain : (st made : State) (new : Row) (i : Inserted) → made.addresses ≡ st.addresses → PlainOutcome st (inserted_as new i made)
inserted_as-plain st made new (placed rows flags) e = inserted-plain st made new (placed rows flags) e
inserted_as-plain st made new nothing e = inserted-plain st made new nothing e
inserted_as-plain st made new (unplaced n) e = omega (arith, ap length e)

routed-plain : (insert : Insertion) (q : Row) (r : Reached) (st made : State) → made.addresses ≡ st.addresses → PlainOutcome st (routed insert q r made)
routed-plain insert q (Reached.unreached n) st made e = omega (arith, ap length e)
routed-plain insert q (Reached.by linked) st made e =
    cond-case (PlainOutcome st) (eqb (Route.prefsrc_present q) 1 && not (valid_prefsrc4 q made)) (λ h. omega (arith, ap length e))
    (λ h. inserted_as-plain st made (asked_route q linked) (insert (asked_route q linked) (nlm_flags q) made.routes) e)

pub added-plain : (insert : Insertion) (q : Row) (st : State) → PlainOutcome st (added_by insert q st)
unfolding added_by create4
added-plain insert q st =
    let made = create4 (table_named q) st in
    cond-case (PlainOutcome st) (eqb (form_check q) 0) (λ e. routed-plain insert q (reach_check q made) st made refl) (λ e. omega arith)

deleted_route-plain : (q : Row) (o : Option Row) (st : State) → PlainOutcome st (deleted_route q o st)
deleted_route-plain q none st = omega arith
deleted_route-plain q (some r) st = removed-plain (selects q) (some r) st

pub del_route4-plain : (q : Row) (st : State) → PlainOutcome st (del_route4_request q st)
unfolding del_route4_request
del_route4-plain q st =
    cond-case (PlainOutcome st) (listed (table_named q) st)
    (λ e. cond-case (PlainOutcome st) (bad_prefix q) (λ d. omega arith) (λ d. deleted_route-plain q (first (selects q) st.routes) st)) (λ e. omega arith)

-- ---- steps that take addresses away: event 6 behind the others where none is left, and nothing once there is none
pub record Ends (st : State) (o : Out) : Type 0 where
  pub fewer : length o.state.addresses ≤ length st.addresses
  pub some_left : 1 ≤ length o.state.addresses → all plain o.emitted ≡ true
  pub none_before : length st.addresses ≡ 0 → o.emitted ≡ []
  pub none_left : 1 ≤ length st.addresses → length o.state.addresses ≡ 0 → Closes o.emitted (ip_disabled ∷ [])

abbrev pub EndsOutcome : State → Outcome → Type 0
EndsOutcome st (goes o) = Ends st o
EndsOutcome st (refused n later) = length later.addresses ≡ length st.addresses

also-ends : (st : State) (o : Out) (g : State → Out) → Ends st o → Ends o.state (g o.state) → Ends st (also o g)
unfolding also
also-ends st o g h k =
    let p = g o.state in
    let mid = length o.state.addresses in
    record {
      fewer = omega (arith, h.fewer, k.fewer);
      some_left = λ n. all_append plain o.emitted p.emitted (h.some_left (omega (arith, k.fewer))) (k.some_left n);
      none_before = λ z.
          let a : o.emitted ≡ [] = h.none_before z in
          let b : p.emitted ≡ [] = k.none_before (omega (arith, h.fewer)) in
          ap (λ (l : List Row). l ++ p.emitted) a ∙ b;
      none_left = λ s z.
          test-case (eqb mid 0)
          (λ e.
          let gone : mid ≡ 0 = eqb-true mid 0 e in
          let c = h.none_left s gone in
          record {
            front = c.front;
            rows_are = ap (λ (l : List Row). o.emitted ++ l) (k.none_before gone) ∙ append-nil o.emitted ∙ c.rows_are;
            front-plain = c.front-plain;
          })
          (λ e.
          let there : 1 ≤ mid = omega (arith, eqb-false mid 0 e) in
          let c = k.none_left there z in
          record {
            front = o.emitted ++ c.front;
            rows_are = ap (λ (l : List Row). o.emitted ++ l) c.rows_are ∙ sym (append_assoc o.emitted c.front (ip_disabled ∷ []));
            front-plain = all_append plain o.emitted c.front (h.some_left there) c.front-plain;
          });
    }

-- the last step of a removal
disabled-ends : (a : Row) (st : State) (o : Out) → any (eq_row a) st.addresses ≡ true → o.state.addresses ≡ remove_first (eq_row a) st.addresses
    → all plain o.emitted ≡ true → Ends st (also o disable)
unfolding also disable
disabled-ends a st o h e p =
    let one = length-remove_first (eq_row a) st.addresses h in
    let rest = ap length e in
    let n = length o.state.addresses in
    test-case (eqb n 0)
    (λ z. rw z
    (record {
      fewer = omega (arith, one, rest);
      some_left = λ s. absurd (omega (arith, eqb-true n 0 z));
      none_before = λ b. absurd (omega (arith, one));
      none_left = λ s q. record { front = o.emitted; rows_are = refl; front-plain = p };
    }))
    (λ z. rw z
    (record {
      fewer = omega (arith, one, rest);
      some_left = λ s. all_append plain o.emitted [] p refl;
      none_before = λ b. absurd (omega (arith, one));
      none_left = λ s q. absurd (eqb-false n 0 z q);
    }))

fall-plain : (a : Row) (routes : List Row) (st : State) → Plain st (fall a routes st)
unfolding fall
fall-plain a routes st =
    cond-case (Plain st) (any (λ r. of_kind local_kind r && eqb (Route.len r) 32) routes && not (local4 st (local a)))
    (λ e. through_plain kernel_del4 kernel_del4-plain (cond (listed main_table st) (keep (dependent_on (local a)) st.routes) []) st)
    (λ e. stays_plain st)

own-addresses : (a : Row) (routes : List Row) (gone : State)
    → (also (also (becomes gone (del_addr4 a ∷ [])) (through kernel_del4 routes)) (fall a routes)).state.addresses ≡ gone.addresses
unfolding also
own-addresses a routes gone =
    (fall_away a routes (through kernel_del4 routes gone).state).same_addresses ∙ (through_away kernel_del4 routes kernel_del4_away gone).same_addresses

remove_one-ends : (a : Row) (st : State) → any (eq_row a) st.addresses ≡ true → Ends st (remove_one a st)
unfolding remove_one del_addr4
remove_one-ends a st h =
    let remaining : List Row = remove_first (eq_row a) st.addresses in
    let routes : List Row = unwanted st.addresses remaining a in
    let gone : State = with_addresses remaining st in
    let first : Out = becomes gone (del_addr4 a ∷ []) in
    let own : Out = also first (through kernel_del4 routes) in
    let quiet : Plain gone (also own (fall a routes)) =
    also-plain gone own (fall a routes)
    (also-plain gone first (through kernel_del4 routes) (record { events = refl; addresses = omega arith }) (through_plain kernel_del4 kernel_del4-plain routes))
    (fall-plain a routes)
    in
    disabled-ends a st (also own (fall a routes)) h (own-addresses a routes gone) quiet.events

-- several that are there
gone-ends : (gone : List Row) (st : State) → Within gone st.addresses → Ends st (through remove_one gone st)
unfolding through
gone-ends [] st w =
    record { fewer = omega arith; some_left = λ n. refl; none_before = λ z. refl; none_left = λ s z. absurd (omega arith) }
gone-ends (a ∷ gone) st w =
    also-ends st (remove_one a st) (through remove_one gone) (remove_one-ends a st (within_first a gone st.addresses w))
    (gone-ends gone (remove_one a st).state (rw (remove_one_removes a st).rest (within-rest a gone st.addresses w)))

remove_v4-ends : (a : Row) (st : State) → any (eq_row a) st.addresses ≡ true → Ends st (remove_v4 a st)
unfolding remove_v4
remove_v4-ends a st h = gone-ends (gone_with st.addresses a) st (gone_with-within st.addresses a h)

deleted_at-ends : (o : Option Row) (st : State) → ((a : Row) → o ≡ some a → any (eq_row a) st.addresses ≡ true) → EndsOutcome st (deleted_at o st)
deleted_at-ends none st h = refl
deleted_at-ends (some a) st h = remove_v4-ends a st (h a refl)

pub del_v4-ends : (q : Row) (st : State) → EndsOutcome st (del_v4 q st)
unfolding del_v4
del_v4-ends q st = deleted_at-ends (first (deletes q) st.addresses) st (λ a e. first-there (deletes q) st.addresses a e)

-- ---- expire
marks-plain : (l : List Row) → all plain (map (λ a. new_addr4 (deprecate a)) l) ≡ true
unfolding new_addr4
marks-plain [] = refl
marks-plain (a ∷ l) = marks-plain l

deprecate_due-ends : (allowance now : ℕ) (st : State) → Ends st (deprecate_due allowance now st)
unfolding deprecate_due
deprecate_due-ends allowance now st =
    let spared : List Row = until (due allowance now) st.addresses in
    let behind : List Row = onward (due allowance now) st.addresses in
    let events : List Row = map (λ a. new_addr4 (deprecate a)) (keep (deprecates allowance now) spared) in
    let split : length spared + length behind ≡ length st.addresses = sym (length-append spared behind) ∙ ap length (until-onward (due allowance now) st.addresses) in
    let long : length (map (marked allowance now) spared ++ behind) ≡ length st.addresses =
    omega (arith, length-append (map (marked allowance now) spared) behind, length-map spared (marked allowance now))
    in
    record {
      fewer = omega arith;
      some_left = λ n. marks-plain (keep (deprecates allowance now) spared);
      none_before = λ z.
          let none : spared ≡ [] = no_rows spared (omega arith) in
          ap (λ (l : List Row). map (λ a. new_addr4 (deprecate a)) (keep (deprecates allowance now) l)) none;
      none_left = λ s z. absurd (omega arith);
    }
  where
    no_rows : (l : List Row) → length l ≡ 0 → l ≡ []
    no_rows [] e = refl
    no_rows (x ∷ l) e = absurd (omega arith)

-- the first address that is due is still there when those before it are marked
due-there : (allowance now : ℕ) (a : Row) (st : State) → first (due allowance now) st.addresses ≡ some a
    → any (eq_row a) (deprecate_due allowance now st).state.addresses ≡ true
unfolding deprecate_due
due-there allowance now a st e =
    any-back (eq_row a) (map (marked allowance now) (until (due allowance now) st.addresses)) (onward (due allowance now) st.addresses) (onward-first (due allowance now) st.addresses a e)

passes-ends : (n allowance now : ℕ) (st : State) → Ends st (passes n allowance now st)
unfolding passes
passes-ends zero allowance now st = deprecate_due-ends allowance now st
passes-ends (suc n) allowance now st =
    let marks = deprecate_due allowance now st in
    option_case (Ends st) (first (due allowance now) st.addresses) marks
    (λ a. also (also marks (remove_v4 a)) (passes n allowance now))
    (deprecate_due-ends allowance now st)
    (λ a e. also-ends st (also marks (remove_v4 a)) (passes n allowance now)
    (also-ends st marks (remove_v4 a) (deprecate_due-ends allowance now st) (remove_v4-ends a marks.state (due-there allowance now a st e)))
    (passes-ends n allowance now (also marks (remove_v4 a)).state))

pub expire-ends : (allowance now : ℕ) (st : State) → Ends st (expire allowance now st)
unfolding expire
expire-ends allowance now st = passes-ends (length st.addresses) allowance now st
