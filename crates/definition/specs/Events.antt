-- Document 02, Paper 9: which route rows go, and by which events.
--
-- The paper has a DelRoute4 added "where a removed address makes main rows fall by their prefsrc and the Rust writes no event". There is
-- no such place: no route row goes without an event of it but by `down` and with the last address (`NoneSilent`), where event 5 and
-- event 6 stand for the rows that go (`RowsTold`). And these two stand nowhere else, 6 behind all other events (`EventsClose`). Each is
-- said of every call on any words, well-formed or not; proofs/Events/Theorem has the proofs.
use Rattle.std.specs.Prelude.{ℕ, ◌≡◌, Bool, true, false, cond, not, ◌&&◌, ◌||◌, List, [], ◌∷◌, ◌++◌, eqb, leb, ltb, length, get_or, drop}
use Rattle.lists.specs.Lists.{Row, all, any, eq_row}
use Rattle.layout.specs.Event.{del_route4, link_down, ip_disabled}
use Rattle.layout.specs.Route.{alike, device, scope}
use Rattle.definition.specs.State.{State}
use Rattle.definition.specs.Words.{state_of}
use Rattle.definition.specs.Call.{Call}
use Rattle.definition.specs.Step.{Result, alters, semantics, step}

-- ---- what an event says of a route row
-- it is an event of it: its DelRoute4, or the NewRoute4 with flags 0x100 whose row takes its place, alike in dst, len, table, tos and
-- priority
abbrev pub of_row : Row → Row → Bool
of_row r e = eq_row e (del_route4 r) || (eqb (get_or e 0 0) 3 && eqb (get_or e 1 0) 0x100 && alike (drop 2 e) r)

-- it is one of all rows of the device: 5 of those with a scope other than 254, 6 of all
abbrev pub of_device : Row → Row → Bool
of_device r e = eqb (device r) 1 && ((eq_row e link_down && not (eqb (scope r) 254)) || eq_row e ip_disabled)

-- a row is still there; it is, or its event is among the events; or an event that it shares
abbrev pub is_in : Row → List Row → Bool
is_in r rows = any (eq_row r) rows

abbrev pub named : List Row → List Row → Row → Bool
named events after r = is_in r after || any (of_row r) events

abbrev pub told : List Row → List Row → Row → Bool
told events after r = is_in r after || any (λ e. of_row r e || of_device r e) events

-- ---- calls
abbrev pub is_down : Call → Bool
is_down (Call.up events now) = false
is_down (Call.down events) = true
is_down (Call.add_v4 q events now) = false
is_down (Call.del_v4 q events) = false
is_down (Call.expire events now allowance) = false
is_down (Call.add_route4 q events) = false
is_down (Call.del_route4 q events) = false
is_down (Call.dump4 room) = false
is_down (Call.lookup4 rowRoom ip) = false
is_down (Call.lookup4_flow rowRoom ip tos oif) = false
is_down (Call.local4 ip) = false
is_down (Call.source4 row ip) = false
is_down (Call.source ip) = false
is_down (Call.select4 dstPresent dst scope) = false

-- the last address goes between two states
abbrev pub last_goes : State → State → Bool
last_goes st later = ltb 0 (length st.addresses) && eqb (length later.addresses) 0

-- the state that a call leaves of the words w
abbrev pub left : Call → List ℕ → State
left c w = state_of (step c w).words

-- ---- the claims
-- every route row that was there still is, or an event says that it went
abbrev pub RowsTold : Type 0
RowsTold =
    (c : Call) (w : List ℕ) → alters (semantics c).action ≡ true
    → all (told (step c w).reply.rows (left c w).routes) (state_of w).routes ≡ true

-- no route row goes without an event of it but by `down` and with the last address
abbrev pub NoneSilent : Type 0
NoneSilent =
    (c : Call) (w : List ℕ) → alters (semantics c).action ≡ true → is_down c ≡ false → last_goes (state_of w) (left c w) ≡ false
    → all (named (step c w).reply.rows (left c w).routes) (state_of w).routes ≡ true

-- the events of document 01
abbrev pub plain : Row → Bool
plain e = leb (get_or e 0 0) 4

-- behind them: event 5 on every `down` that isn't refused, event 6 when the last address goes
abbrev pub closing : Call → State → State → Result → List Row
closing c st later r =
    cond (is_down c && eqb r.reply.number 0) (link_down ∷ []) (cond (last_goes st later) (ip_disabled ∷ []) [])

pub record Closes (rows end : List Row) : Type 0 where
  pub front : List Row
  pub rows_are : rows ≡ front ++ end
  pub front-plain : all plain front ≡ true

abbrev pub EventsClose : Type 0
EventsClose =
    (c : Call) (w : List ℕ) → alters (semantics c).action ≡ true
    → Closes (step c w).reply.rows (closing c (state_of w) (left c w) (step c w))
