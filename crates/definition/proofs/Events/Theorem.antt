-- The claims of specs/Events, proved.
-- Assumes nothing.
use Rattle.std.specs.Prelude.{ℕ, ◌≤◌, ◌≡◌, refl, Bool, true, false, cond, not, ◌&&◌, ◌||◌, List, [], ◌∷◌, ◌++◌, eqb, ltb, leb, length}
use Rattle.std.proofs.Common.{sym, ap, ◌∙◌, append-nil, arith, eqb-true, ltb-true, ltb-false}
use Rattle.std.proofs.Math.Bool.{and-true, and-false}
use Rattle.std.proofs.lemmas.Bool.{false≢true, eqb-false}
use Rattle.lists.specs.Lists.{Row, all, any, eq_row}
use Rattle.lists.specs.Bools.{and_left, and_right, and_both, or_case, or_left, or_right, cond-case, test-case, true-false, fails}
use Rattle.lists.specs.All.{all_mono, all_head, all_tail, eq_row-true, eq_row-refl}
use Rattle.layout.specs.Route.{device, scope}
use Rattle.layout.specs.Event.{bare, link_down, ip_disabled}
use Rattle.definition.specs.State.{State}
use Rattle.definition.specs.Words.{state_of}
use Rattle.definition.specs.Call.{Call}
use Rattle.definition.specs.Reference.Addresses.{Outcome, goes, refused, up, down, add_v4}
use Rattle.definition.specs.Reference.Removal.{del_v4, expire}
use Rattle.definition.specs.Reference.Insert.{insert4}
use Rattle.definition.specs.Reference.Routes.{add_route4, del_route4_request}
use Rattle.definition.specs.Step.{Result, refuses, Checks, Action, changes, replies, lists, alters, checked, answered, result, roomy, outcome, semantics, step}
use Rattle.definition.specs.Preservation.Keeps.{KeptOutcome}
use Rattle.definition.proofs.Preservation.Change.{Acts, lawful}
use Rattle.definition.proofs.Preservation.Step.{Held}
use Rattle.definition.proofs.Preservation.Step.{good-held, decode-leaves, good-result, checked-held, checked-passes, acted, perform-case}
use Rattle.definition.specs.Events.{of_row, of_device, is_in, named, told, is_down, last_goes, left, RowsTold, NoneSilent, plain, Closes, EventsClose}
use Rattle.definition.proofs.Events.Gone.{ToldOutcome, up-told, down-told, add_v4-told, del_v4-told, expire-told, insert4-told, added-told, del_route4-told}
use Rattle.definition.proofs.Events.Closing.{PlainOutcome, EndsOutcome, up-plain, add_v4-plain, added-plain, del_route4-plain, del_v4-ends, expire-ends}

-- ---- what each call tells
abbrev ActsTold : Action → Type 0
ActsTold (changes listed f) = (st : State) → ToldOutcome st (f st)
ActsTold (replies f) = Unit
ActsTold (lists f) = Unit

tells : (c : Call) → ActsTold (semantics c).action
tells (Call.up events now) = up-told now
tells (Call.down events) = down-told
tells (Call.add_v4 q events now) = add_v4-told q now
tells (Call.del_v4 q events) = del_v4-told q
tells (Call.expire events now allowance) = expire-told allowance now
tells (Call.add_route4 q events) = added-told insert4-told q
tells (Call.del_route4 q events) = del_route4-told q
tells (Call.dump4 room) = tt
tells (Call.lookup4 rowRoom ip) = tt
tells (Call.lookup4_flow rowRoom ip tos oif) = tt
tells (Call.local4 ip) = tt
tells (Call.source4 row ip) = tt
tells (Call.source ip) = tt
tells (Call.select4 dstPresent dst scope) = tt

all_of : (p : Row → Bool) (l : List Row) → ((r : Row) → is_in r l ≡ true → p r ≡ true) → all p l ≡ true
all_of p [] h = refl
all_of p (x ∷ l) h =
    and_both (p x) (all p l) (h x (or_left (eq_row x x) (is_in x l) (eq_row-refl x))) (all_of p l (λ r e. h r (or_right (eq_row r x) (is_in r l) e)))

abbrev AllTold : List ℕ → Result → Type 0
AllTold w r = all (told r.reply.rows (state_of r.words).routes) (state_of w).routes ≡ true

-- every row is still there
same-told : (rows l : List Row) → all (told rows l) l ≡ true
same-told rows l = all_of (told rows l) l (λ r h. or_left (is_in r l) (any (λ e. of_row r e || of_device r e) rows) h)

outcome-told : (o : Outcome) (w : List ℕ) → Held w → KeptOutcome o → ToldOutcome (state_of w) o → AllTold w (outcome o w)
outcome-told o w h k t =
    cond-case (AllTold w) (roomy o)
    (λ e. rw (decode-leaves w (result o) (good-result o k e)) (go o t)) (λ e. same-told [] (state_of w).routes)
  where
    go : (o : Outcome) → ToldOutcome (state_of w) o → all (told (answered o).rows (result o).routes) (state_of w).routes ≡ true
    go (goes o) t = all_of (told o.emitted o.state.routes) (state_of w).routes t.each
    go (refused n later) e = rw e (same-told [] (state_of w).routes)

pub rows_told : RowsTold
rows_told c w t =
    let s = semantics c in
    perform-case (AllTold w) w s (λ z. go s.checks s.action t (lawful c).acts (tells c) z) (λ n e z. same-told [] (state_of w).routes)
  where
    go : (k : Checks) (a : Action) → alters a ≡ true → Acts k a → ActsTold a → checked k w ≡ 0 → AllTold w (acted a w)
    go k (changes listed f) t l m z =
        let h = checked-held k w z in
        outcome-told (f (state_of w)) w h (l.sound (state_of w) (good-held w h) (checked-passes k w z)).kept (m (state_of w))
    go k (replies f) t l m z = absurd (false≢true t)
    go k (lists f) t l m z = absurd (false≢true t)

-- ---- where events 5 and 6 stand
abbrev end : Bool → State → State → List Row
end is_down st later = cond is_down (link_down ∷ []) (cond (last_goes st later) (ip_disabled ∷ []) [])

abbrev ClosedOutcome : Bool → State → Outcome → Type 0
ClosedOutcome d st (goes o) = Closes o.emitted (end d st o.state)
ClosedOutcome d st (refused n later) = (d ≡ false) × (last_goes st later ≡ false)

-- the last address doesn't go where as many are left
not_last : (st later : State) → length st.addresses ≤ length later.addresses → last_goes st later ≡ false
not_last st later h =
    fails (last_goes st later)
    (λ e.
    let some = ltb 0 (length st.addresses) in
    let none = eqb (length later.addresses) 0 in
    omega (arith, ltb-true 0 (length st.addresses) (and_left some none e), eqb-true (length later.addresses) 0 (and_right some none e)))

whole : (rows : List Row) → all plain rows ≡ true → Closes rows []
whole rows h = record { front = rows; rows_are = sym (append-nil rows); front-plain = h }

plain_closed : (st : State) (o : Outcome) → PlainOutcome st o → ClosedOutcome false st o
plain_closed st (goes o) p = rw (not_last st o.state p.addresses) (whole o.emitted p.events)
plain_closed st (refused n later) h = (refl, not_last st later h)

ends_closed : (st : State) (o : Outcome) → EndsOutcome st o → ClosedOutcome false st o
ends_closed st (goes o) h =
    let a = length st.addresses in
    let b = length o.state.addresses in
    test-case (eqb b 0)
    (λ z.
    test-case (ltb 0 a)
    (λ s. rw (s, z) (h.none_left (omega (arith, ltb-true 0 a s)) (eqb-true b 0 z)))
    (λ s. rw s (subst-none (h.none_before (omega (arith, ltb-false 0 a s))))))
    (λ z.
    let left : last_goes st o.state ≡ false = ap (λ (x : Bool). ltb 0 a && x) z ∙ and-false (ltb 0 a) in
    rw left (whole o.emitted (h.some_left (omega (arith, eqb-false b 0 z)))))
  where
    subst-none : o.emitted ≡ [] → Closes o.emitted []
    subst-none e = record { front = []; rows_are = e; front-plain = refl }
ends_closed st (refused n later) e = (refl, not_last st later (omega (arith, e)))

abbrev ActsClosed : Bool → Action → Type 0
ActsClosed d (changes listed f) = (st : State) → ClosedOutcome d st (f st)
ActsClosed d (replies f) = Unit
ActsClosed d (lists f) = Unit

down_closed : (st : State) → ClosedOutcome true st (goes (down st))
unfolding down
down_closed st = record { front = []; rows_are = refl; front-plain = refl }

closes : (c : Call) → ActsClosed (is_down c) (semantics c).action
closes (Call.up events now) = λ st. plain_closed st (goes (up now st)) (up-plain now st)
closes (Call.down events) = down_closed
closes (Call.add_v4 q events now) = λ st. plain_closed st (add_v4 q now st) (add_v4-plain q now st)
closes (Call.del_v4 q events) = λ st. ends_closed st (del_v4 q st) (del_v4-ends q st)
closes (Call.expire events now allowance) = λ st. ends_closed st (goes (expire allowance now st)) (expire-ends allowance now st)
closes (Call.add_route4 q events) = λ st. plain_closed st (add_route4 q st) (added-plain insert4 q st)
closes (Call.del_route4 q events) = λ st. plain_closed st (del_route4_request q st) (del_route4-plain q st)
closes (Call.dump4 room) = tt
closes (Call.lookup4 rowRoom ip) = tt
closes (Call.lookup4_flow rowRoom ip tos oif) = tt
closes (Call.local4 ip) = tt
closes (Call.source4 row ip) = tt
closes (Call.source ip) = tt
closes (Call.select4 dstPresent dst scope) = tt

abbrev AllClosed : Bool → List ℕ → Result → Type 0
AllClosed d w r = Closes r.reply.rows (end (d && eqb r.reply.number 0) (state_of w) (state_of r.words))

refused_closed : (d : Bool) (n : ℕ) (w : List ℕ) → eqb n 0 ≡ false → AllClosed d w (refuses n w)
refused_closed d n w e =
    let none : (d && eqb n 0) ≡ false = ap (λ (x : Bool). d && x) e ∙ and-false d in
    rw (none, not_last (state_of w) (state_of w) (omega arith)) (whole [] refl)

outcome_closed : (d : Bool) (o : Outcome) (w : List ℕ) → Held w → KeptOutcome o → ClosedOutcome d (state_of w) o → AllClosed d w (outcome o w)
outcome_closed d o w h k t =
    cond-case (AllClosed d w) (roomy o)
    (λ e. rw (decode-leaves w (result o) (good-result o k e)) (go o t)) (λ e. refused_closed d 203 w refl)
  where
    go : (o : Outcome) → ClosedOutcome d (state_of w) o → Closes (answered o).rows (end (d && eqb (answered o).number 0) (state_of w) (result o))
    go (goes o) t = rw (and-true d) t
    go (refused n later) t = rw (t.0, t.1) (whole [] refl)

pub events_close : EventsClose
events_close c w t =
    let s = semantics c in
    perform-case (AllClosed (is_down c) w) w s (λ z. go s.checks s.action t (lawful c).acts (closes c) z) (λ n e z. refused_closed (is_down c) n w z)
  where
    go : (k : Checks) (a : Action) → alters a ≡ true → Acts k a → ActsClosed (is_down c) a → checked k w ≡ 0 → AllClosed (is_down c) w (acted a w)
    go k (changes listed f) t l m z =
        let h = checked-held k w z in
        outcome_closed (is_down c) (f (state_of w)) w h (l.sound (state_of w) (good-held w h) (checked-passes k w z)).kept (m (state_of w))
    go k (replies f) t l m z = absurd (false≢true t)
    go k (lists f) t l m z = absurd (false≢true t)

-- ---- so no row goes without an event of it
-- an event of document 01 is none of the whole device
plain-own : (r : Row) (events : List Row) → all plain events ≡ true → any (λ e. of_row r e || of_device r e) events ≡ true → any (of_row r) events ≡ true
unfolding bare
plain-own r [] p h = h
plain-own r (e ∷ events) p h =
    or_case (of_row r e || of_device r e) (any (λ e. of_row r e || of_device r e) events) h
    (λ q. or_case (of_row r e) (of_device r e) q (λ a. or_left (of_row r e) (any (of_row r) events) a) (λ d. absurd (not-device (all_head plain e events p) d)))
    (λ q. or_right (of_row r e) (any (of_row r) events) (plain-own r events (all_tail plain e events p) q))
  where
    is-bare : (kind : ℕ) → leb kind 4 ≡ false → plain e ≡ true → eq_row e (bare kind) ≡ true → ⊥
    is-bare kind big small q = true-false (leb kind 4) (sym (ap plain (eq_row-true e (bare kind) q)) ∙ small) big

    not-device : plain e ≡ true → of_device r e ≡ true → ⊥
    not-device small d =
        let five = eq_row e link_down && not (eqb (scope r) 254) in
        or_case five (eq_row e ip_disabled) (and_right (eqb (device r) 1) (five || eq_row e ip_disabled) d)
        (λ q. is-bare 5 refl small (and_left (eq_row e link_down) (not (eqb (scope r) 254)) q))
        (λ q. is-bare 6 refl small q)

pub none_silent : NoneSilent
none_silent c w t notDown notLast =
    let r = step c w in
    let rows = r.reply.rows in
    let after = (left c w).routes in
    let c' = events_close c w t in
    let none : end (is_down c && eqb r.reply.number 0) (state_of w) (left c w) ≡ [] = rw (notDown, notLast) in
    let plainly : all plain rows ≡ true =
    ap (all plain) (c'.rows_are ∙ ap (λ (l : List Row). c'.front ++ l) none ∙ append-nil c'.front) ∙ c'.front-plain
    in
    all_mono (told rows after) (named rows after) (state_of w).routes
    (λ x h. or_case (is_in x after) (any (λ e. of_row x e || of_device x e) rows) h (λ q. or_left (is_in x after) (any (of_row x) rows) q)
    (λ q. or_right (is_in x after) (any (of_row x) rows) (plain-own x rows plainly q)))
    (rows_told c w t)
