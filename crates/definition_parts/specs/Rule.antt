-- Whether a call changes an address, a row or a table, from its reply and from the counts of routes and tables before and after: the rule
-- by which the code counts, without a copy of the state (document 02, Paper 6). That it is right: `Changed: step-counted`.
use Rattle.std.specs.Prelude.{ℕ, Bool, true, false, not, ◌&&◌, ◌||◌, List, ltb}
use Rattle.std.proofs.Math.Option.{Option, none, some}
use Rattle.lists.specs.Lists.{Row, eq_row, first}
use Rattle.definition.specs.Words.{state_of, route_count, table_count}
use Rattle.definition.specs.Call.{Call, Reply}
use Rattle.definition.specs.Reference.Addresses.{same_address, changed_to}

-- a call that wrote events; one that is refused has none
abbrev pub has_events : Reply → Bool
has_events r = ltb 0 r.value

-- from the words w to the words v
abbrev pub more_tables : List ℕ → List ℕ → Bool
more_tables w v = ltb (table_count w) (table_count v)

abbrev pub fewer_routes : List ℕ → List ℕ → Bool
fewer_routes w v = ltb (route_count v) (route_count w)

-- the address that an add_v4 finds there becomes another row; a new one always does
abbrev pub row_changes : Row → ℕ → Option Row → Bool
row_changes q now none = true
row_changes q now (some old) = not (eq_row (changed_to q old now) old)

-- what it is told by, for each call: a call that reads changes nothing; `down` tells its event whether or not it takes a route; an add_v4
-- that replaces an address by an equal one tells an event and changes nothing
pub data Rule : Type 0 where
  never : Rule
  by_routes : Rule
  by_events : Rule
  by_row : (request : Row) (now : ℕ) → Rule

abbrev pub rule_of : Call → Rule
rule_of (Call.up events now) = by_events
rule_of (Call.down events) = by_routes
rule_of (Call.add_v4 q events now) = by_row q now
rule_of (Call.del_v4 q events) = by_events
rule_of (Call.expire events now allowance) = by_events
rule_of (Call.add_route4 q events) = by_events
rule_of (Call.del_route4 q events) = by_events
rule_of (Call.dump4 room) = never
rule_of (Call.lookup4 rowRoom ip) = never
rule_of (Call.lookup4_flow rowRoom ip tos oif) = never
rule_of (Call.local4 ip) = never
rule_of (Call.source4 row ip) = never
rule_of (Call.source ip) = never
rule_of (Call.select4 dstPresent dst scope) = never

-- a call on the words w with the reply r that left the words v; a table may be listed without an event
abbrev pub tells : Rule → List ℕ → Reply → List ℕ → Bool
tells never w r v = false
tells by_routes w r v = fewer_routes w v
tells by_events w r v = has_events r || more_tables w v
tells (by_row q now) w r v = (has_events r && row_changes q now (first (same_address q) (state_of w).addresses)) || more_tables w v

abbrev pub altered : Call → List ℕ → Reply → List ℕ → Bool
altered c w r v = tells (rule_of c) w r v
