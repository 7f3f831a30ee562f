-- The order in which `add_route4` refuses (document 01: "table listed, length and host bits, scope and dead flags, metrics, kind,
-- device and gateway, prefsrc, insertion"): the table is listed whatever comes of the request, and then the first cause of the
-- list that holds gives the number. And where `add_v4` refuses lifetimes (document 02, Paper 2: "after 202 and before 203").
-- Assumes nothing.
use Rattle.std.specs.Prelude.{ℕ, ◌≤◌, ◌≡◌, refl, Bool, true, false, cond, not, ◌&&◌, ◌||◌, List, [], ◌∷◌, ◌++◌, eqb, ltb, length}
use Rattle.std.proofs.Common.{sym, ap, ap₂, ◌∙◌, eq-eqb, le-leb}
use Rattle.std.proofs.lemmas.Bool.{false≢true}
use Rattle.std.proofs.Math.Option.{Option, none, some}
use Rattle.lists.specs.Lists.{Row}
use Rattle.lists.specs.Bools.{and_both, test-case, cond-case, cond-true, cond-false}
use Rattle.kind.specs.Kind.{is_kind, error_of, least_scope}
use Rattle.layout.specs.Route.{kind, scope, prefsrc_present, gateway_present}
use Rattle.layout.specs.Request.{add_v4_size, fit_add_v4, valid_lifetimes, oif, nlm_flags, metrics_error, up_at_add_route4}
use Rattle.definition.specs.State.{State}
use Rattle.definition.specs.Words.{state_size, state_of, formed}
use Rattle.definition.specs.Call.{Call}
use Rattle.definition.specs.Step.{Result, refuses, checks, unless, invalid, event_room, events_fit, request_is, result, outcome, changing, step}
use Rattle.definition.specs.Reference.Insert.{Inserted, list_table, create4, insert4}
use Rattle.definition.specs.Reference.Addresses.{Outcome, host_scope, add_v4}
use Rattle.definition.specs.Reference.Routes.{Reached, table_named, bad_prefix, dead_flags, onlink_flag, unsupported, then, refuse, form_check, plain, gateway4, reach_check, valid_prefsrc4, asked_route, inserted_as, routed, added_by, add_route4}

-- ---- causes
-- a cause, and the number that it gives
pub record Cause : Type 0 where
  pub holds : Bool
  pub number : ℕ

abbrev pub cause : Bool → ℕ → Cause
cause b n = record { holds = b; number = n }

-- the number of the first that holds, none where none does
abbrev pub first_of : List Cause → Option ℕ
first_of [] = none
first_of (c ∷ l) = cond c.holds (some c.number) (first_of l)

-- the number with which a request, a gateway or an insertion is refused, none where it isn't
abbrev pub of_outcome : Outcome → Option ℕ
of_outcome (Outcome.goes o) = none
of_outcome (Outcome.refused n st) = some n

abbrev pub of_reached : Reached → Option ℕ
of_reached (Reached.by linked) = none
of_reached (Reached.unreached n) = some n

abbrev pub of_inserted : Inserted → Option ℕ
of_inserted (Inserted.placed rows flags) = none
of_inserted Inserted.nothing = none
of_inserted (Inserted.unplaced n) = some n

-- as a cause: it holds where there is a number
abbrev pub cause_of : Option ℕ → Cause
cause_of none = cause false 0
cause_of (some n) = cause true n

-- ---- the causes, in order
-- length and host bits; scope and dead flags; metrics; kind
abbrev pub of_form : Row → List Cause
of_form q =
    cause (bad_prefix q) 22
    ∷ cause (ltb (scope q) (least_scope (kind q)) || dead_flags q) 22
    ∷ cause (not (eqb (metrics_error q) 0)) (metrics_error q)
    ∷ cause (not (is_kind (kind q)) && unsupported (kind q)) 95
    ∷ cause (not (is_kind (kind q))) 22
    ∷ []

-- device and gateway: a kind that rejects has neither; no scope is narrower than host; host scope has the device and no gateway; a
-- wider one has a gateway that passes its own checks, or the device, while up
abbrev pub of_device : Row → State → List Cause
of_device q made =
    let rejecting = not (eqb (error_of (kind q)) 0) in
    let narrower = ltb host_scope (scope q) in
    let atHost = eqb (scope q) host_scope in
    let wider = not rejecting && not narrower && not atHost in
    let gatewayed = eqb (gateway_present q) 1 in
    cause (rejecting && (gatewayed || not (eqb (oif q) 0))) 22
    ∷ cause (not rejecting && narrower) 22
    ∷ cause (not rejecting && atHost && gatewayed) 22
    ∷ cause (not rejecting && atHost && not (eqb (oif q) 1)) 19
    ∷ cause_of (cond (wider && gatewayed) (of_reached (gateway4 q made)) none)
    ∷ cause (wider && not gatewayed && onlink_flag q) 22
    ∷ cause (wider && not gatewayed && not (eqb (oif q) 1)) 19
    ∷ cause (wider && not gatewayed && eqb (up_at_add_route4 q) 0) 100
    ∷ []

-- the row that goes in: whether a route of link scope reaches its gateway is known by then
abbrev pub linked_by : Reached → Bool
linked_by (Reached.by linked) = linked
linked_by (Reached.unreached n) = false

abbrev pub new_row : Row → State → Row
new_row q made = asked_route q (linked_by (reach_check q made))

-- prefsrc; insertion
abbrev pub of_row : Row → Row → State → List Cause
of_row q new made =
    cause (eqb (prefsrc_present q) 1 && not (valid_prefsrc4 q made)) 22
    ∷ cause_of (of_inserted (insert4 new (nlm_flags q) made.routes))
    ∷ []

abbrev pub causes : Row → State → List Cause
causes q made = of_form q ++ (of_device q made ++ of_row q (new_row q made) made)

-- ---- part by part
abbrev or_number : Option ℕ → Option ℕ → Option ℕ
or_number none o = o
or_number (some n) o = some n

first_append : (k l : List Cause) → first_of (k ++ l) ≡ or_number (first_of k) (first_of l)
first_append [] l = refl
first_append (c ∷ k) l = test-case c.holds (λ e. rw e) (λ e. rw e (first_append k l))

-- a number is 0 where no cause holds
abbrev numbered : ℕ → Option ℕ
numbered n = cond (eqb n 0) none (some n)

form_turn : (a b c u : Bool) (m : ℕ) → numbered (then (refuse a 22) (then (refuse b 22) (then m (refuse c (cond u 95 22)))))
    ≡ first_of (cause a 22 ∷ cause b 22 ∷ cause (not (eqb m 0)) m ∷ cause (c && u) 95 ∷ cause c 22 ∷ [])
form_turn true b c u m = refl
form_turn false true c u m = refl
form_turn false false c u m = test-case (eqb m 0) (λ e. rw e (last c u)) (λ e. rw (e, e))
  where
    last : (c u : Bool) → numbered (refuse c (cond u 95 22)) ≡ first_of (cause (c && u) 95 ∷ cause c 22 ∷ [])
    last true true = refl
    last true false = refl
    last false u = refl

pub form_order : (q : Row) → numbered (form_check q) ≡ first_of (of_form q)
unfolding form_check
form_order q = form_turn (bad_prefix q) (ltb (scope q) (least_scope (kind q)) || dead_flags q) (not (is_kind (kind q))) (unsupported (kind q)) (metrics_error q)

device-turn : (a b c g o d l u : Bool) (y : Reached)
    → of_reached (cond a (plain (refuse (g || o) 22)) (cond b (Reached.unreached 22) (cond c (plain (then (refuse g 22) (refuse d 19))) (cond g y (plain (then (refuse l 22) (then (refuse d 19) (refuse u 100))))))))
    ≡ first_of
    (cause (a && (g || o)) 22
    ∷ cause (not a && b) 22
    ∷ cause (not a && c && g) 22
    ∷ cause (not a && c && d) 19
    ∷ cause_of (cond (not a && not b && not c && g) (of_reached y) none)
    ∷ cause (not a && not b && not c && not g && l) 22
    ∷ cause (not a && not b && not c && not g && d) 19
    ∷ cause (not a && not b && not c && not g && u) 100
    ∷ [])
device-turn true b c true o d l u y = refl
device-turn true b c false true d l u y = refl
device-turn true b c false false d l u y = refl
device-turn false true c g o d l u y = refl
device-turn false false true true o d l u y = refl
device-turn false false true false o true l u y = refl
device-turn false false true false o false l u y = refl
device-turn false false false true o d l u (Reached.by linked) = refl
device-turn false false false true o d l u (Reached.unreached n) = refl
device-turn false false false false o d true u y = refl
device-turn false false false false o true false u y = refl
device-turn false false false false o false false true y = refl
device-turn false false false false o false false false y = refl

pub device-order : (q : Row) (made : State) → of_reached (reach_check q made) ≡ first_of (of_device q made)
unfolding reach_check
device-order q made =
    device-turn (not (eqb (error_of (kind q)) 0)) (ltb host_scope (scope q)) (eqb (scope q) host_scope) (eqb (gateway_present q) 1) (not (eqb (oif q) 0)) (not (eqb (oif q) 1))
    (onlink_flag q) (eqb (up_at_add_route4 q) 0) (gateway4 q made)

row-turn : (p : Bool) (new : Row) (i : Inserted) (made : State)
    → of_outcome (cond p (Outcome.refused 22 made) (inserted_as new i made)) ≡ first_of (cause p 22 ∷ cause_of (of_inserted i) ∷ [])
row-turn true new i made = refl
row-turn false new (Inserted.placed rows flags) made = refl
row-turn false new Inserted.nothing made = refl
row-turn false new (Inserted.unplaced n) made = refl

row-order : (q : Row) (r : Reached) (made : State)
    → of_outcome (routed insert4 q r made) ≡ or_number (of_reached r) (first_of (of_row q (asked_route q (linked_by r)) made))
row-order q (Reached.unreached n) made = refl
row-order q (Reached.by linked) made =
    row-turn (eqb (prefsrc_present q) 1 && not (valid_prefsrc4 q made)) (asked_route q linked) (insert4 (asked_route q linked) (nlm_flags q) made.routes) made

checked-turn : (n : ℕ) (b : Bool) (o : Outcome) (made : State)
    → of_outcome (cond b o (Outcome.refused n made)) ≡ or_number (cond b none (some n)) (of_outcome o)
checked-turn n true o made = refl
checked-turn n false o made = refl

-- ---- the whole order
pub order : (q : Row) (st : State) → of_outcome (add_route4 q st) ≡ first_of (causes q (create4 (table_named q) st))
unfolding added_by
order q st =
    let made = create4 (table_named q) st in
    let last = of_row q (new_row q made) made in
    checked-turn (form_check q) (eqb (form_check q) 0) (routed insert4 q (reach_check q made) made) made
    ∙ ap₂ or_number (form_order q) (row-order q (reach_check q made) made ∙ ap (λ (o : Option ℕ). or_number o (first_of last)) (device-order q made) ∙ sym (first_append (of_device q made) last))
    ∙ sym (first_append (of_form q) (of_device q made ++ last))

-- "table listed": first of all, whatever comes of the request
inserted-tables : (new : Row) (i : Inserted) (made : State) → (result (inserted_as new i made)).tables ≡ made.tables
inserted-tables new (Inserted.placed rows flags) made = refl
inserted-tables new Inserted.nothing made = refl
inserted-tables new (Inserted.unplaced n) made = refl

routed-tables : (q : Row) (r : Reached) (made : State) → (result (routed insert4 q r made)).tables ≡ made.tables
routed-tables q (Reached.unreached n) made = refl
routed-tables q (Reached.by linked) made =
    cond-case (λ (o : Outcome). (result o).tables ≡ made.tables) (eqb (prefsrc_present q) 1 && not (valid_prefsrc4 q made)) (λ e. refl)
    (λ e. inserted-tables (asked_route q linked) (insert4 (asked_route q linked) (nlm_flags q) made.routes) made)

pub table-listed : (q : Row) (st : State) → (result (add_route4 q st)).tables ≡ list_table (table_named q) st.tables
unfolding added_by create4
table-listed q st =
    let made = create4 (table_named q) st in
    cond-case (λ (o : Outcome). (result o).tables ≡ made.tables) (eqb (form_check q) 0) (λ e. routed-tables q (reach_check q made) made) (λ e. refl)

-- ---- add_v4's lifetimes
lifetimes-turn : (buffers state fits lasts : Bool) (r : Result) (w : List ℕ) → buffers ≡ true → state ≡ true
    → cond (eqb (checks buffers state (cond fits (unless lasts invalid) 202)) 0) r (refuses (checks buffers state (cond fits (unless lasts invalid) 202)) w)
    ≡ cond fits (cond lasts r (refuses 22 w)) (refuses 202 w)
lifetimes-turn true true true true r w h i = refl
lifetimes-turn true true true false r w h i = refl
lifetimes-turn true true false lasts r w h i = refl
lifetimes-turn true false fits lasts r w h i = absurd (false≢true i)
lifetimes-turn false state fits lasts r w h i = absurd (false≢true h)

-- on well-formed words, with buffers that suffice: 202, then 22, then what `outcome` says, 203 and the reference's own
pub lifetimes-order : (q : Row) (events now : ℕ) (w : List ℕ)
    → length w ≡ state_size → formed w ≡ true → length q ≡ add_v4_size → event_room ≤ events
    → step (Call.add_v4 q events now) w
    ≡ cond (fit_add_v4 q) (cond (valid_lifetimes q) (outcome (add_v4 q now (state_of w)) w) (refuses 22 w)) (refuses 202 w)
unfolding changing
lifetimes-order q events now w long made sized room =
    let buffers = and_both (request_is add_v4_size q) (events_fit events) (eq-eqb (length q) add_v4_size sized) (le-leb event_room events room) in
    lifetimes-turn (eqb (length w) state_size && (request_is add_v4_size q && events_fit events)) (formed w && true) (fit_add_v4 q) (valid_lifetimes q)
    (outcome (add_v4 q now (state_of w)) w) w
    (and_both (eqb (length w) state_size) (request_is add_v4_size q && events_fit events) (eq-eqb (length w) state_size long) buffers)
    (and_both (formed w) true made refl)

-- so lifetimes that Linux turns down are 22 and leave every word, whatever the state holds and whether the request replaces or not
pub lifetimes-refused : (q : Row) (events now : ℕ) (w : List ℕ)
    → length w ≡ state_size → formed w ≡ true → length q ≡ add_v4_size → event_room ≤ events
    → fit_add_v4 q ≡ true → valid_lifetimes q ≡ false → step (Call.add_v4 q events now) w ≡ refuses 22 w
lifetimes-refused q events now w long made sized room fits lasts =
    let o = outcome (add_v4 q now (state_of w)) w in
    lifetimes-order q events now w long made sized room
    ∙ cond-true (fit_add_v4 q) (cond (valid_lifetimes q) o (refuses 22 w)) (refuses 202 w) fits
    ∙ cond-false (valid_lifetimes q) o (refuses 22 w) lasts
