-- An event row as a message of rtnetlink, and what refuses it, sentence by sentence as document 02 has it ("Events back onto the
-- socket"). What a header, an attribute and its padding are stands in Written, for the reader in netlink/specs/Attributes.
use Rattle.std.specs.Prelude.{ℕ, ◌*◌, ◌-◌, ◌%◌, Bool, cond, not, ◌&&◌, ◌||◌, List, [], ◌∷◌, ◌++◌, map, eqb, leb, ltb, length, get_or}
use Rattle.std.specs.Prelude.{take, drop}
use Rattle.lists.specs.Lists.{Row, any, zeros}
use Rattle.endian.specs.Endian.{words_of, bytes_of}
use Rattle.layout.specs.Address as Address
use Rattle.layout.specs.Address.{fit_address}
use Rattle.layout.specs.Route as Route
use Rattle.layout.specs.Route.{fit_route}
use Rattle.layout.specs.Event as Event
use Rattle.definition.specs.Call.{Reply, refusal}
use Rattle.definition.specs.Reference.Source.{left}
use Rattle.netlink.specs.Codes.{rtm_new_addr, rtm_del_addr, rtm_new_route, rtm_del_route, inet}
use Rattle.netlink.specs.Codes.{ifa_address, ifa_local, ifa_label, ifa_broadcast, ifa_cacheinfo, ifa_flags, ifa_rt_priority}
use Rattle.netlink.specs.Codes.{ifa_proto}
use Rattle.netlink.specs.Codes.{rta_dst, rta_oif, rta_gateway, rta_priority, rta_prefsrc, rta_metrics, rta_table}
use Rattle.netlink.specs.Reader.{types}
use Rattle.netlink_event.specs.Written.{bytes4, address_bytes, Entry, when, always, written_all, message}

-- ---- an event row: its kind, the flags, and the address or route row
abbrev pub kind : Row → ℕ
kind e = get_or e 0 0

-- "Header flags are the event's flags."
abbrev pub flags : Row → ℕ
flags e = get_or e 1 0

abbrev pub address_row : Row → Row
address_row e = take Address.size (drop 2 e)

abbrev pub route_row : Row → Row
route_row e = take Route.size (drop 2 e)

abbrev pub of_address : Row → Bool
of_address e = eqb (kind e) 1 || eqb (kind e) 2

abbrev pub of_route : Row → Bool
of_route e = eqb (kind e) 3 || eqb (kind e) 4

-- "a message of type 20, 21, 24 or 25": by the kind, from 1 to 4
abbrev pub type_for : ℕ → ℕ
type_for k = get_or (rtm_new_addr ∷ rtm_del_addr ∷ rtm_new_route ∷ rtm_del_route ∷ []) (k - 1) 0

abbrev pub type_of : Row → ℕ
type_of e = type_for (kind e)

-- "the device index is 1"
abbrev pub index : ℕ
index = 1

abbrev pub nonzero : ℕ → Bool
nonzero n = not (eqb n 0)

-- ---- an address
-- ifaddrmsg: family, prefix, "the flags byte the flags' low byte", scope, four bytes of device
abbrev pub address_head : Row → List ℕ
address_head a = inet ∷ Address.prefix a ∷ Address.flags a % 256 ∷ Address.scope a ∷ bytes4 index

-- the label's own bytes
abbrev pub label_bytes : Row → List ℕ
label_bytes a = take (Address.label_length a) (bytes_of (take 4 (drop 9 a)))

-- "Lifetimes are what `left` says at a given clock, stamps zero.": preferred, valid, two stamps
abbrev pub cacheinfo : ℕ → Row → List ℕ
cacheinfo now a = bytes4 (left a now).preferred ++ (bytes4 (left a now).valid ++ zeros 8)

-- "Attributes stand in rising order of code, absent values give no attribute"; "A label, even an empty one, has its closing zero";
-- "and so is a priority or address proto of 0" left out
abbrev pub address_entries : ℕ → Row → List Entry
address_entries now a =
    always ifa_address (address_bytes (Address.address a))
    ∷ always ifa_local (address_bytes (Address.local a))
    ∷ always ifa_label (label_bytes a ++ (0 ∷ []))
    ∷ when (eqb (Address.broadcast_present a) 1) ifa_broadcast (address_bytes (Address.broadcast a))
    ∷ always ifa_cacheinfo (cacheinfo now a)
    ∷ always ifa_flags (bytes4 (Address.flags a))
    ∷ when (nonzero (Address.priority a)) ifa_rt_priority (bytes4 (Address.priority a))
    ∷ when (nonzero (Address.proto a)) ifa_proto (Address.proto a ∷ [])
    ∷ []

-- ---- a route
-- "The table byte is 252 for tables above 255" (RT_TABLE_COMPAT)
abbrev pub table_byte : ℕ → ℕ
table_byte t = cond (leb t 255) t 252

-- "route flags are 4 for onlink, else 0" (RTNH_F_ONLINK)
abbrev pub onlink_flag : ℕ → ℕ
onlink_flag onlink = cond (eqb onlink 1) 4 0

-- rtmsg: family, length, source length, tos, table, proto, scope, kind, four bytes of flags
abbrev pub route_head : Row → List ℕ
route_head r =
    inet ∷ Route.len r ∷ 0 ∷ Route.tos r ∷ table_byte (Route.table r) ∷ Route.proto r ∷ Route.scope r ∷ Route.kind r
    ∷ bytes4 (onlink_flag (Route.onlink r))

-- "Metrics that are 0 are left out"; type t is the metric of index t - 1
abbrev pub metric_entry : Row → ℕ → Entry
metric_entry l t = when (nonzero (get_or l (t - 1) 0)) t (bytes4 (get_or l (t - 1) 0))

abbrev pub metric_entries : Row → List Entry
metric_entries l = map (metric_entry l) types

-- "a destination of length 0 gives none"; the device index is "absent where a route's device is 0"; of metrics "the whole
-- attribute if all are" 0 is left out
abbrev pub route_entries : Row → List Entry
route_entries r =
    when (nonzero (Route.len r)) rta_dst (address_bytes (Route.dst r))
    ∷ when (eqb (Route.device r) 1) rta_oif (bytes4 index)
    ∷ when (eqb (Route.gateway_present r) 1) rta_gateway (address_bytes (Route.gateway r))
    ∷ when (nonzero (Route.priority r)) rta_priority (bytes4 (Route.priority r))
    ∷ when (eqb (Route.prefsrc_present r) 1) rta_prefsrc (address_bytes (Route.prefsrc r))
    ∷ when (any nonzero (Route.metrics r)) rta_metrics (written_all (metric_entries (Route.metrics r)))
    ∷ always rta_table (bytes4 (Route.table r))
    ∷ []

-- ---- the message of an event, "with sequence and port given by the caller", at a clock
unfoldable pub address_message : (sequence port now : ℕ) → Row → List ℕ
address_message sequence port now e =
    message (type_of e) (flags e) sequence port (address_head (address_row e)) (address_entries now (address_row e))

unfoldable pub route_message : (sequence port : ℕ) → Row → List ℕ
route_message sequence port e =
    message (type_of e) (flags e) sequence port (route_head (route_row e)) (route_entries (route_row e))

unfoldable pub event_message : (sequence port now : ℕ) → Row → List ℕ
event_message sequence port now e = cond (of_address e) (address_message sequence port now e) (route_message sequence port e)

-- ---- what is refused
-- "A message takes at most 216 bytes, and a shorter lent buffer is met by 200."
abbrev pub message_most : ℕ
message_most = 216

-- "An event row of a kind other than 1 to 4, with flags over 65,535, or whose address or route row could not stand in a well-formed
-- state, is met by 201." So is one of other than 34 words, which is no event row. Words behind an address row aren't looked at.
unfoldable pub writes : Row → Bool
writes e =
    eqb (length e) Event.size
    && ltb (flags e) 65536
    && ((of_address e && fit_address (address_row e)) || (of_route e && fit_route (route_row e)))

-- a reply with a message: how many bytes it has, and the bytes as the one row
abbrev pub sent : List ℕ → Reply
sent m = record { number = 0; present = 0; value = length m; second = 0; rows = m ∷ [] }

-- the call that writes an event, for any words, into a buffer of `room` bytes
unfoldable pub write_call : (room sequence port now : ℕ) (event : Row) → Reply
write_call room sequence port now event =
    cond (leb message_most room) (cond (writes event) (sent (event_message sequence port now event)) (refusal 201)) (refusal 200)

-- on bytes, each word as four: what isn't an event row's words whole is none
unfoldable pub write_on_bytes : (room sequence port now : ℕ) (event : List ℕ) → Reply
write_on_bytes room sequence port now event =
    cond (leb message_most room)
    (cond (eqb (length event) (4 * Event.size)) (write_call room sequence port now (words_of event)) (refusal 201))
    (refusal 200)
