-- Requests to add and to delete a route (document 01, port order 7; rtnetlink(7)).
use Rattle.std.specs.Prelude.{ℕ, ◌+◌, max, Bool, true, false, cond, not, ◌&&◌, ◌||◌, [], ◌∷◌, eqb, leb, ltb, get_or}
use Rattle.std.proofs.Math.Option.{Option, none, some}
use Rattle.lists.specs.Lists.{Row, all, first, remove_first}
use Rattle.prefix.specs.Mask.{host_bits}
use Rattle.kind.specs.Kind.{is_kind, error_of, least_scope}
use Rattle.layout.specs.Flags.{has_bit, dead_bit, onlink_bit, linkdown_bit}
use Rattle.layout.specs.Route.{table, dst, len, tos, priority, kind, proto, scope, prefsrc_present, prefsrc, gateway_present, gateway, device}
use Rattle.layout.specs.Event.{new_route4, del_route4}
use Rattle.layout.specs.Request.{oif, rtm_flags, nlm_flags, metrics_error, metrics_asked, up_at_add_route4, list_present, pairs, pair_index, pair_value}
use Rattle.definition.specs.State.{State, becomes, stays, with_routes}
use Rattle.definition.specs.Reference.Lookup.{Flow, Found, answer, together, lookup_in, addr_type4, listed, rejects, main_table, local_table, unicast_kind, local_kind}
use Rattle.definition.specs.Reference.Lookup.Found.{route}
use Rattle.definition.specs.Reference.Insert.{create4, Insertion, insert4, Inserted}
use Rattle.definition.specs.Reference.Addresses.{Outcome, link_scope, host_scope}

-- table 0 is 254 [`table` in add_route4 and del_route4]
abbrev pub table_named : Row → ℕ
table_named q = cond (eqb (table q) 0) main_table (table q)

-- a length over 32, or bits outside it
abbrev pub bad_prefix : Row → Bool
bad_prefix q = not (leb (len q) 32) || not (eqb (host_bits (dst q) (len q)) 0)

-- flags that no request may set [NEXTHOP_DEAD; RTNH_F_DEAD, RTNH_F_LINKDOWN]
abbrev pub dead_flags : Row → Bool
dead_flags q = has_bit dead_bit (rtm_flags q) || has_bit linkdown_bit (rtm_flags q)

-- the gateway is on link, whatever the routes say [`onlink` in add_route4; RTNH_F_ONLINK]
abbrev pub onlink_flag : Row → Bool
onlink_flag q = has_bit onlink_bit (rtm_flags q)

-- the kinds that rtnetlink has and the reference doesn't [EOPNOTSUPP in add_route4]
abbrev pub unsupported : ℕ → Bool
unsupported k = eqb k 4 || eqb k 5 || eqb k 10 || eqb k 11

-- ---- checks: each gives a number, 0 where it is passed
-- the first number that isn't 0
abbrev pub then : ℕ → ℕ → ℕ
then a b = cond (eqb a 0) b a

-- a number where the test holds
abbrev pub refuse : Bool → ℕ → ℕ
refuse b n = cond b n 0

-- length and host bits, scope and dead flags, metrics, kind [add_route4 up to Kind::of; fib_props, fib_create_info]
unfoldable pub form_check : Row → ℕ
form_check q =
    then (refuse (bad_prefix q) 22)
    (then (refuse (ltb (scope q) (least_scope (kind q)) || dead_flags q) 22)
    (then (metrics_error q)
    (refuse (not (is_kind (kind q))) (cond (unsupported (kind q)) 95 22))))

-- ---- the gateway
-- what a gateway's check comes to: whether a route of link scope reaches it, or a refusal's number [gateway4's Result]
pub data Reached : Type 0 where
  by : Bool → Reached
  unreached : ℕ → Reached

-- on link it must be unicast to the local table, while up, for a route wider than link scope [the first half of gateway4]
unfoldable pub onlink_check : Row → State → Reached
onlink_check q st =
    let number =
    then (refuse (leb link_scope (scope q)) 22)
    (then (refuse (not (eqb (oif q) 1)) 19)
    (then (refuse (eqb (up_at_add_route4 q) 0) 100)
    (refuse (not (eqb (addr_type4 st (gateway q) local_table) unicast_kind)) 22)))
    in
    cond (eqb number 0) (by true) (unreached number)

-- the flow to a gateway: one scope narrower than the route's, link scope at least [`scope` in gateway4]
abbrev pub to_gateway : Row → Flow
to_gateway q = record { ip = gateway q; tos = 0; scope = max (scope q + 1) link_scope; oif = oif q }

-- an answer that doesn't reject, and it in place of a lookup's
abbrev pub usable : Option Row → Bool
usable none = false
usable (some r) = not (rejects r)

abbrev pub found_or : Option Row → Found → Found
found_or none f = f
found_or (some r) f = route r

-- the route's own set of tables, where that has an answer that doesn't reject, else a lookup; a private table is not read
-- [`found` in gateway4]
unfoldable pub gateway_route : Row → State → Found
gateway_route q st =
    let own = answer (together (table_named q)) (to_gateway q) st.routes in
    cond (usable own) (found_or own (lookup_in st (to_gateway q))) (lookup_in st (to_gateway q))

-- by a unicast or local route, while up [the end of gateway4]
abbrev pub reached_by : Row → Found → Reached
reached_by q (Found.no_route n) = unreached n
reached_by q (route r) =
    cond (eqb (kind r) unicast_kind || eqb (kind r) local_kind)
    (cond (eqb (up_at_add_route4 q) 0) (unreached 100) (by (eqb (scope r) link_scope)))
    (unreached 22)

-- on link the gateway need not be reached; else a route must lead to it [gateway4; fib_check_nh_v4_gw]
unfoldable pub gateway4 : Row → State → Reached
gateway4 q st = cond (onlink_flag q) (onlink_check q st) (reached_by q (gateway_route q st))

-- a check that involves no gateway
abbrev pub plain : ℕ → Reached
plain n = cond (eqb n 0) (by false) (unreached n)

-- device and gateway [the middle of add_route4]
unfoldable pub reach_check : Row → State → Reached
reach_check q st =
    let gatewayed = eqb (gateway_present q) 1 in
    cond (not (eqb (error_of (kind q)) 0)) (plain (refuse (gatewayed || not (eqb (oif q) 0)) 22))
    (cond (ltb host_scope (scope q)) (unreached 22)
    (cond (eqb (scope q) host_scope) (plain (then (refuse gatewayed 22) (refuse (not (eqb (oif q) 1)) 19)))
    (cond gatewayed (gateway4 q st)
    (plain
    (then (refuse (onlink_flag q) 22)
    (then (refuse (not (eqb (oif q) 1)) 19) (refuse (eqb (up_at_add_route4 q) 0) 100)))))))

-- ---- the preferred source
-- a local route's own destination, or an address that is local in the route's table or the local one
-- [valid_prefsrc4; fib_valid_prefsrc]
unfoldable pub valid_prefsrc4 : Row → State → Bool
valid_prefsrc4 q st =
    let own = cond (eqb (table_named q) main_table) local_table (table_named q) in
    (eqb (kind q) local_kind && not (eqb (dst q) 0) && eqb (prefsrc q) (dst q))
    || eqb (addr_type4 st (prefsrc q) own) local_kind
    || eqb (addr_type4 st (prefsrc q) local_table) local_kind

-- ---- add_route4
abbrev pub mark : Bool → ℕ
mark b = cond b 1 0

-- the row that a request asks for; the kinds that reject have no device [`route` in add_route4, from Ask4; rtm_to_fib_config]
unfoldable pub asked_route : Row → Bool → Row
asked_route q linked =
    table_named q
    ∷ dst q
    ∷ len q
    ∷ tos q
    ∷ priority q
    ∷ kind q
    ∷ proto q
    ∷ scope q
    ∷ prefsrc_present q
    ∷ prefsrc q
    ∷ gateway_present q
    ∷ gateway q
    ∷ mark (eqb (error_of (kind q)) 0)
    ∷ mark (onlink_flag q)
    ∷ mark linked
    ∷ metrics_asked q

-- an insertion whose refusal is the request's
abbrev pub inserted_as : Row → Inserted → State → Outcome
inserted_as new (Inserted.placed rows flags) st =
    Outcome.goes (becomes (with_routes rows st) (new_route4 new flags ∷ []))
inserted_as new Inserted.nothing st = Outcome.goes (stays st)
inserted_as new (Inserted.unplaced n) st = Outcome.refused n st

-- preferred source, then insertion [the end of add_route4]
abbrev pub routed : Insertion → Row → Reached → State → Outcome
routed insert q (unreached n) st = Outcome.refused n st
routed insert q (by linked) st =
    let new = asked_route q linked in
    cond (eqb (prefsrc_present q) 1 && not (valid_prefsrc4 q st)) (Outcome.refused 22 st)
    (inserted_as new (insert new (nlm_flags q) st.routes) st)

-- the table is listed whatever comes of it [add_route4; inet_rtm_newroute]
unfoldable pub added_by : Insertion → Row → State → Outcome
added_by insert q st =
    let made = create4 (table_named q) st in
    cond (eqb (form_check q) 0) (routed insert q (reach_check q made) made) (Outcome.refused (form_check q) made)

abbrev pub add_route4 : Row → State → Outcome
add_route4 q st = added_by insert4 q st

-- ---- del_route4
-- the metrics that the request names, as index and value [Select4's metrics; fib_metrics_match]
abbrev pub has_metrics : Row → Row → Bool
has_metrics q r = eqb (list_present q) 1 && all (λ p. eqb (get_or r (15 + pair_index p) 0) (pair_value p)) (pairs q)

-- a row that the request names, each field matching any where it is 0 or absent (255 for the scope) [the tests of del_route4]
unfoldable pub selects : Row → Row → Bool
selects q r =
    eqb (table r) (table_named q)
    && eqb (dst r) (dst q)
    && eqb (len r) (len q)
    && eqb (tos r) (tos q)
    && leb (priority q) (priority r)
    && (eqb (kind q) 0 || eqb (kind r) (kind q))
    && (eqb (scope q) 255 || eqb (scope r) (scope q))
    && (eqb (prefsrc_present q) 0 || (eqb (prefsrc_present r) 1 && eqb (prefsrc r) (prefsrc q)))
    && (eqb (proto q) 0 || eqb (proto r) (proto q))
    && (eqb (oif q) 0 || (eqb (oif q) 1 && eqb (device r) 1))
    && (eqb (gateway_present q) 0 || (eqb (gateway_present r) 1 && eqb (gateway r) (gateway q)))
    && has_metrics q r

-- the first row that the request selects goes; 3 where there is none
abbrev pub deleted_route : Row → Option Row → State → Outcome
deleted_route q none st = Outcome.refused 3 st
deleted_route q (some r) st =
    Outcome.goes (becomes (with_routes (remove_first (selects q) st.routes) st) (del_route4 r ∷ []))

-- the first row of the table that the request names, from its priority on [del_route4; fib_table_delete]
unfoldable pub del_route4_request : Row → State → Outcome
del_route4_request q st =
    cond (listed (table_named q) st)
    (cond (bad_prefix q) (Outcome.refused 22 st) (deleted_route q (first (selects q) st.routes) st))
    (Outcome.refused 3 st)
