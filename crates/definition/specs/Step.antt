-- The calls on any words at all: 200, 201, the request's own number, 203 in that order, then the reference (document 01, "When a
-- call says no").
use Rattle.std.specs.Prelude.{ℕ, ◌+◌, ◌*◌, Bool, true, false, cond, ◌&&◌, List, [], ◌∷◌, eqb, leb, ltb, length}
use Rattle.lists.specs.Lists.{Row}
use Rattle.layout.specs.Address.{optional, fit_address}
use Rattle.layout.specs.Event as Event
use Rattle.layout.specs.Route as Route
use Rattle.layout.specs.Route.{fit_route, table}
use Rattle.layout.specs.Request.{add_v4_size, fit_add_v4, valid_lifetimes, del_v4_size, fit_del_v4, add_route4_size, fit_add_route4, del_route4_size, fit_del_route4}
use Rattle.definition.specs.State.{State, Sizes, Out, sizes}
use Rattle.definition.specs.Words.{within, routes_size, state_size, leaves, state_of, formed}
use Rattle.definition.specs.Call.{Call, Reply, refusal, valued, written, optionally, found_row}
use Rattle.definition.specs.Reference.Lookup.{Found, lookup4, lookup4_flow, local4}
use Rattle.definition.specs.Reference.Insert.{create4}
use Rattle.definition.specs.Reference.Addresses.{Outcome, goes, refused, add_v4, up, down}
use Rattle.definition.specs.Reference.Removal.{del_v4, expire}
use Rattle.definition.specs.Reference.Routes.{add_route4, table_named, del_route4_request}
use Rattle.definition.specs.Reference.Source.{dump4, select4, source4, source, present, left}

-- what a call comes to: its reply and the state's words
pub record Result : Type 0 where
  pub reply : Reply
  pub words : List ℕ

-- a refusal that leaves every word
abbrev pub refuses : ℕ → List ℕ → Result
refuses n w = record { reply = refusal n; words = w }

-- ---- what a call is
-- its checks: of the buffers that it is lent (200), of a row handed over, which counts with the state (201), and the number with
-- which its request is refused, 0 if it isn't
pub record Checks : Type 0 where
  pub buffers : Bool
  pub row : Bool
  pub request : ℕ

-- what it then does: it changes the state, and `listed` is what a refusal by the reference leaves of it; it replies; it lists rows
pub data Action : Type 0 where
  changes : (listed : State → State) → (State → Outcome) → Action
  replies : (State → Reply) → Action
  lists : (State → List Row) → Action

abbrev pub alters : Action → Bool
alters (changes listed f) = true
alters (replies f) = false
alters (lists f) = false

-- the buffer that it is lent, by the words that this has room for: none, or one for events, a listing, a lookup's one row
pub data Buffer : Type 0 where
  unlent : Buffer
  for_events : (room : ℕ) → Buffer
  for_listing : (room : ℕ) → Buffer
  for_row : (room : ℕ) → Buffer

-- and the tables that its arguments name
pub record Semantics : Type 0 where
  pub checks : Checks
  pub lent : Buffer
  pub names : List ℕ
  pub action : Action

-- ---- the refusals, in order
-- event rows that suffice for every call (Preservation/Step: emitted-bound), and the words of the buffers
abbrev pub event_limit : ℕ
event_limit = 385

abbrev pub event_room : ℕ
event_room = event_limit * Event.size

abbrev pub listing_room : ℕ
listing_room = routes_size

-- Linux's EINVAL
abbrev pub invalid : ℕ
invalid = 22

-- the greatest allowance that expire takes, a second; and what a clock and its allowance come to at most, the largest of 64 bits
-- (document 02, Paper 7)
abbrev pub allowance_limit : ℕ
allowance_limit = 1000000000

abbrev pub clock_largest : ℕ
clock_largest = 18446744073709551615

abbrev pub fit_expire : ℕ → ℕ → Bool
fit_expire now allowance = leb allowance allowance_limit && leb (now + allowance) clock_largest

-- a number where a check fails, 0 where it passes
abbrev pub unless : Bool → ℕ → ℕ
unless passes n = cond passes 0 n

-- the first check that fails gives its number, 0 if none does: buffers, state, request
abbrev pub checks : Bool → Bool → ℕ → ℕ
checks buffers state request = cond buffers (cond state request 201) 200

abbrev pub checked : Checks → List ℕ → ℕ
checked k w = checks (eqb (length w) state_size && k.buffers) (formed w && k.row) k.request

-- the numbers of checks and of limits alone: whatever the call, it has left every word
abbrev pub unfit : ℕ → Bool
unfit n = leb 200 n

-- what an outcome replies, the state that it leaves, and the greatest length that each list had after a change
abbrev pub answered : Outcome → Reply
answered (goes o) = written o.emitted
answered (refused n st) = refusal n

abbrev pub result : Outcome → State
result (goes o) = o.state
result (refused n st) = st

abbrev pub reaches : Outcome → Sizes
reaches (goes o) = o.peak
reaches (refused n st) = sizes st

-- every list kept to its limit after every change
abbrev pub roomy : Outcome → Bool
roomy o = within (reaches o)

-- 203: a list would at some moment pass its limit
abbrev pub outcome : Outcome → List ℕ → Result
outcome o w = cond (roomy o) (record { reply = answered o; words = leaves w (result o) }) (refuses 203 w)

-- a call that changes the state, and one that reads it
unfoldable pub changing : Checks → (State → Outcome) → List ℕ → Result
changing k f w =
    let n = checked k w in
    cond (eqb n 0) (outcome (f (state_of w)) w) (refuses n w)

unfoldable pub reading : Checks → (State → Reply) → List ℕ → Result
reading k f w =
    let n = checked k w in
    record { reply = cond (eqb n 0) (f (state_of w)) (refusal n); words = w }

abbrev pub act : Action → Checks → List ℕ → Result
act (changes listed f) k w = changing k f w
act (replies f) k w = reading k f w
act (lists f) k w = reading k (λ st. written (f st)) w

abbrev pub perform : Semantics → List ℕ → Result
perform s w = act s.action s.checks w

-- ---- the calls
-- an event buffer of that length suffices
abbrev pub events_fit : ℕ → Bool
events_fit n = leb event_room n

-- a request of those words
abbrev pub request_is : ℕ → Row → Bool
request_is n q = eqb (length q) n

-- a change; one that always goes on; one by a request of so many words; one by a request for a route, which names a table
abbrev pub change : ℕ → Bool → ℕ → (State → Outcome) → Semantics
change events buffers request f =
    record {
      checks = record { buffers = buffers; row = true; request = request };
      lent = for_events events;
      names = [];
      action = changes (λ st. st) f;
    }

abbrev pub going : ℕ → ℕ → (State → Out) → Semantics
going events request f = change events (events_fit events) request (λ st. goes (f st))

abbrev pub asked : ℕ → Row → ℕ → ℕ → (State → Outcome) → Semantics
asked size q events request f = change events (request_is size q && events_fit events) request f

abbrev pub routed : ℕ → Row → ℕ → ℕ → (State → State) → (State → Outcome) → Semantics
routed size q events request listed f =
    record {
      checks = record { buffers = request_is size q && events_fit events; row = true; request = request };
      lent = for_events events;
      names = table q ∷ [];
      action = changes listed f;
    }

-- a reply, a row counting with the state; a row that is found
abbrev pub query : Bool → ℕ → (State → Reply) → Semantics
query row request f =
    record {
      checks = record { buffers = true; row = row; request = request };
      lent = unlent;
      names = [];
      action = replies f;
    }

abbrev pub finding : ℕ → ℕ → (State → Found) → Semantics
finding room request f =
    record {
      checks = record { buffers = leb Route.size room; row = true; request = request };
      lent = for_row room;
      names = [];
      action = replies (λ st. found_row (f st));
    }

abbrev pub listing : ℕ → (State → List Row) → Semantics
listing room f =
    record {
      checks = record { buffers = leb listing_room room; row = true; request = 0 };
      lent = for_listing room;
      names = [];
      action = lists f;
    }

-- the number that refuses a request for an address: its fields first, then lifetimes that Linux turns down
abbrev pub add_v4_refusal : Row → ℕ
add_v4_refusal q = cond (fit_add_v4 q) (unless (valid_lifetimes q) invalid) 202

abbrev pub semantics : Call → Semantics
semantics (Call.up events now) = going events 0 (up now)
semantics (Call.down events) = going events 0 down
semantics (Call.add_v4 q events now) = asked add_v4_size q events (add_v4_refusal q) (add_v4 q now)
semantics (Call.del_v4 q events) = asked del_v4_size q events (unless (fit_del_v4 q) 202) (del_v4 q)
semantics (Call.expire events now allowance) = going events (unless (fit_expire now allowance) 202) (expire allowance now)
semantics (Call.add_route4 q events) =
    routed add_route4_size q events (unless (fit_add_route4 q) 202) (create4 (table_named q)) (add_route4 q)
semantics (Call.del_route4 q events) =
    routed del_route4_size q events (unless (fit_del_route4 q) 202) (λ st. st) (del_route4_request q)
semantics (Call.dump4 room) = listing room dump4
semantics (Call.lookup4 rowRoom ip) = finding rowRoom 0 (λ st. lookup4 st ip)
semantics (Call.lookup4_flow rowRoom ip tos oif) =
    finding rowRoom (unless (ltb tos 256) 202) (λ st. lookup4_flow st ip tos oif)
semantics (Call.local4 ip) = query true 0 (λ st. valued (cond (local4 st ip) 1 0))
semantics (Call.source4 row ip) = query (fit_route row) 0 (λ st. optionally (source4 st.addresses row ip))
semantics (Call.source ip) = query true 0 (λ st. valued (source st ip))
semantics (Call.select4 dstPresent dst scope) =
    query true (unless (optional dstPresent dst && ltb scope 256) 202)
    (λ st. optionally (select4 st.addresses (present dstPresent dst) scope))

abbrev pub step : Call → List ℕ → Result
step c w = perform (semantics c) w

-- ---- the names by which the code's contracts cite them
unfoldable pub up_call : ℕ → ℕ → List ℕ → Result
up_call events now w = step (Call.up events now) w

unfoldable pub down_call : ℕ → List ℕ → Result
down_call events w = step (Call.down events) w

unfoldable pub add_v4_call : Row → ℕ → ℕ → List ℕ → Result
add_v4_call q events now w = step (Call.add_v4 q events now) w

unfoldable pub del_v4_call : Row → ℕ → List ℕ → Result
del_v4_call q events w = step (Call.del_v4 q events) w

unfoldable pub expire_call : ℕ → ℕ → ℕ → List ℕ → Result
expire_call events now allowance w = step (Call.expire events now allowance) w

unfoldable pub add_route4_call : Row → ℕ → List ℕ → Result
add_route4_call q events w = step (Call.add_route4 q events) w

unfoldable pub del_route4_call : Row → ℕ → List ℕ → Result
del_route4_call q events w = step (Call.del_route4 q events) w

unfoldable pub dump4_call : ℕ → List ℕ → Result
dump4_call room w = step (Call.dump4 room) w

unfoldable pub lookup4_call : ℕ → ℕ → List ℕ → Result
lookup4_call rowRoom ip w = step (Call.lookup4 rowRoom ip) w

unfoldable pub lookup4_flow_call : ℕ → ℕ → ℕ → ℕ → List ℕ → Result
lookup4_flow_call rowRoom ip tos oif w = step (Call.lookup4_flow rowRoom ip tos oif) w

unfoldable pub local4_call : ℕ → List ℕ → Result
local4_call ip w = step (Call.local4 ip) w

unfoldable pub source4_call : Row → ℕ → List ℕ → Result
source4_call row ip w = step (Call.source4 row ip) w

unfoldable pub source_call : ℕ → List ℕ → Result
source_call ip w = step (Call.source ip) w

unfoldable pub select4_call : ℕ → ℕ → ℕ → List ℕ → Result
select4_call dstPresent dst scope w = step (Call.select4 dstPresent dst scope) w

-- left sees no state: 201 for a row that could not stand in a well-formed one
unfoldable pub left_call : Row → ℕ → Reply
left_call row now =
    let l = left row now in
    cond (fit_address row) (record { number = 0; present = 0; value = l.preferred; second = l.valid; rows = [] })
    (refusal 201)
