-- Addresses put in and changed, with the routes that they bring (document 01, port order 6; rtnetlink(7) for an address's flags).
use Rattle.std.specs.Prelude.{ℕ, Bool, cond, not, ◌&&◌, List, [], ◌∷◌, ◌++◌, eqb, leb, ltb, take}
use Rattle.std.proofs.Math.Option.{Option, none, some}
use Rattle.lists.specs.Lists.{Row, any, keep, first, replace_first, behind_last, zeros}
use Rattle.prefix.specs.Mask.{network, broadcast}
use Rattle.life.specs.Life.{forever, stored_seconds}
use Rattle.layout.specs.Flags.{clear_bit, set_bit}
use Rattle.layout.specs.Address as Address
use Rattle.layout.specs.Address.{local, address, prefix, broadcast_present, scope, flags, set_flags, set_proto, set_priority, set_valid, set_preferred, set_created, set_changed, secondary, secondary_bit, deprecated_bit, permanent_bit, no_prefix_route}
use Rattle.layout.specs.Route as Route
use Rattle.layout.specs.Event.{new_addr4, link_down}
use Rattle.layout.specs.Request.{valid_asked, preferred_asked, replace_asked, up_at_add_v4}
use Rattle.definition.specs.State.{State, Out, becomes, stays, also, through, with_addresses, with_routes}
use Rattle.definition.specs.Reference.Lookup.{local_table, local_kind, broadcast_kind}
use Rattle.definition.specs.Reference.Insert.{kernel_add4, kernel_del4}

-- ---- subnets
-- ip is in the address's subnet [V4::covers; inet_ifa_match]
unfoldable pub covers : Row → ℕ → Bool
covers a ip = eqb (network ip (prefix a)) (network (address a) (prefix a))

-- b is in the subnet of a [equal masks and V4::covers, in add_v4, primary_of and remove_v4]
unfoldable pub same_subnet : Row → Row → Bool
same_subnet a b = eqb (prefix a) (prefix b) && covers a (address b)

-- ---- the routes of an address
-- the scopes that the rules name [SCOPE_LINK, SCOPE_HOST; RT_SCOPE_*]
abbrev pub link_scope : ℕ
link_scope = 253

abbrev pub host_scope : ℕ
host_scope = 254

-- one of the kernel's routes, in the local table: proto 2, through the device, host scope or for a broadcast link scope
-- [Route4::kernel]
unfoldable pub kernel_route : ℕ → ℕ → ℕ → ℕ → ℕ → Row
kernel_route dst len priority kind source =
    local_table
    ∷ dst
    ∷ len
    ∷ 0
    ∷ priority
    ∷ kind
    ∷ 2
    ∷ cond (eqb kind broadcast_kind) link_scope host_scope
    ∷ 1
    ∷ source
    ∷ 0
    ∷ 0
    ∷ 1
    ∷ 0
    ∷ 0
    ∷ zeros 17

-- an address's local one, d where there is no address
abbrev pub local_or : ℕ → Option Row → ℕ
local_or d none = d
local_or d (some a) = local a

-- the local address of the first primary whose subnet it is in, for a secondary; else its own [primary_of]
unfoldable pub primary_of : List Row → Row → ℕ
primary_of addresses a =
    cond (secondary a)
    (local_or (local a) (first (λ b. not (secondary b) && same_subnet b a) addresses))
    (local a)

-- a list of one element where the test holds
abbrev pub only : {A : Type 0} → Bool → A → List A
only b x = cond b (x ∷ []) []

-- it names a broadcast address that is neither 0.0.0.0 nor 255.255.255.255 [`broadcast` in candidates]
abbrev pub names_broadcast : Row → Bool
names_broadcast a =
    eqb (broadcast_present a) 1
    && not (eqb (Address.broadcast a) 0)
    && not (eqb (Address.broadcast a) 0xffffffff)

-- its prefix is a network of its own: not the network 0, and no /32 of its own address [prefix_route4, candidates]
abbrev pub own_network : Row → Bool
own_network a =
    not (eqb (network (address a) (prefix a)) 0)
    && not (eqb (network (address a) (prefix a)) (local a) && eqb (prefix a) 32)

-- what an address brings at once: its local route [the first of candidates]
unfoldable pub local_route : ℕ → Row → Row
local_route source a = kernel_route (local a) 32 0 local_kind source

-- its prefix route, of its priority [prefix_route4, candidates]
unfoldable pub prefix_route : ℕ → Row → Row
prefix_route source a =
    kernel_route (network (address a) (prefix a)) (prefix a) (Address.priority a) local_kind source

-- and while the loopback is up: the broadcast route that it names, and, of a primary, its prefix route and its subnet's
-- broadcast route (none for prefix 31, RFC 3021, nor for 32) [prefix_route4, candidates; fib_add_ifaddr]
unfoldable pub up_routes : ℕ → Row → List Row
up_routes source a =
    only (names_broadcast a) (kernel_route (Address.broadcast a) 32 0 broadcast_kind source)
    ++ (only (own_network a && not (secondary a) && not (no_prefix_route a)) (prefix_route source a)
    ++ only (own_network a && not (secondary a) && ltb (prefix a) 31) (kernel_route (broadcast (address a) (prefix a)) 32 0 broadcast_kind source))

-- all of them, in order [candidates; fib_add_ifaddr]
unfoldable pub candidates : List Row → Bool → Row → List Row
candidates addresses up a =
    let source = primary_of addresses a in
    local_route source a ∷ cond up (up_routes source a) []

-- ---- lifetimes
-- IFA_F_PERMANENT for a valid lifetime that never ends, IFA_F_DEPRECATED for a preferred one of 0 [the flags in V4::set_life]
unfoldable pub life_flags : ℕ → ℕ → ℕ → ℕ
life_flags valid preferred f =
    let cleared = clear_bit deprecated_bit (clear_bit permanent_bit f) in
    let lasting = cond (eqb valid forever) (set_bit permanent_bit cleared) cleared in
    cond (eqb preferred 0) (set_bit deprecated_bit lasting) lasting

-- the row with the lifetimes asked for at a moment; one that never ends leaves the stored seconds [V4::set_life; set_ifa_lifetime]
unfoldable pub set_life : ℕ → ℕ → ℕ → Row → Row
set_life valid preferred now a =
    set_changed now
    (set_preferred (stored_seconds preferred (Address.preferred a))
    (set_valid (stored_seconds valid (Address.valid a))
    (set_flags (life_flags valid preferred (flags a)) a)))

-- the row that a request asks for: its 14 words and a life of zeros, as a primary, then its lifetimes; made at that moment
-- [V4::new, the first lines of add_v4]
unfoldable pub asked : Row → ℕ → Row
asked q now =
    let fresh = take 14 q ++ zeros 6 in
    set_created now (set_life (valid_asked q) (preferred_asked q) now (set_flags (clear_bit secondary_bit (flags fresh)) fresh))

-- the row as a secondary [new.flags |= SECONDARY; IFA_F_SECONDARY]
unfoldable pub as_secondary : Row → Row
as_secondary a = set_flags (set_bit secondary_bit (flags a)) a

-- ---- add_v4
-- what a changing call comes to: a step, or a refusal's number with the state that it leaves [Result<Vec<Event>, Errno>]
pub data Outcome : Type 0 where
  goes : Out → Outcome
  refused : ℕ → State → Outcome

-- an address there already: the same local address and subnet [the tests in add_v4's loop]
unfoldable pub same_address : Row → Row → Bool
same_address new old = eqb (local old) (local new) && same_subnet old new

-- a primary that a new one goes behind
abbrev pub yields : Row → Row → Bool
yields new old = not (secondary old) && leb (scope new) (scope old)

-- where a primary goes: behind the last primary of its own scope or a narrower one (a larger number is narrower)
-- [last_primary in add_v4; __inet_insert_ifa]
unfoldable pub place4 : Row → List Row → List Row
place4 new addresses =
    cond (secondary new) (addresses ++ (new ∷ [])) (behind_last (yields new) new addresses)

-- the routes are added in order, those that are there already left out [the loop over candidates in add_v4 and up]
unfoldable pub install : List Row → State → Out
install routes st = through kernel_add4 routes st

-- a new address: emitted, then the routes that it brings [the end of add_v4; __inet_insert_ifa, fib_add_ifaddr]
unfoldable pub new_address : Row → Bool → State → Out
new_address new up st =
    let placed = with_addresses (place4 new st.addresses) st in
    also (becomes placed (new_addr4 new ∷ [])) (install (candidates placed.addresses up new))

-- the address with another priority, proto and lifetimes [the end of change_v4]
unfoldable pub changed_to : Row → Row → ℕ → Row
changed_to q old now =
    set_life (valid_asked q) (preferred_asked q) now (set_proto (Address.proto q) (set_priority (Address.priority q) old))

-- the change moves its prefix route [the test in change_v4]
abbrev pub reroutes : Row → Row → Bool
reroutes q old =
    eqb (up_at_add_v4 q) 1
    && not (eqb (Address.priority old) (Address.priority q))
    && not (secondary old)
    && not (no_prefix_route old)
    && own_network old

-- its prefix route follows a change of priority while the loopback is up: the new one, then the old one gone
-- [the start of change_v4; fib_modify_prefix_metric]
unfoldable pub moved : Row → Row → State → Out
moved q old st =
    cond (reroutes q old)
    (also (kernel_add4 (kernel_route (network (address old) (prefix old)) (prefix old) (Address.priority q) local_kind (local old)) st)
    (kernel_del4 (prefix_route (local old) old)))
    (stays st)

-- an address that is there is replaced [change_v4; inet_rtm_newaddr]
unfoldable pub change_v4 : Row → Row → ℕ → State → Out
change_v4 q old now st =
    let row = changed_to q old now in
    also (moved q old st)
    (λ later. becomes (with_addresses (replace_first (same_address q) row later.addresses) later) (new_addr4 row ∷ []))

-- by the address that is there, if one is [what add_v4's loop comes to]
abbrev pub added_over : Row → ℕ → Option Row → State → Outcome
added_over q now (some old) st =
    cond (eqb (replace_asked q) 1) (goes (change_v4 q old now st)) (refused 17 st)
added_over q now none st =
    let fresh = asked q now in
    let new = cond (any (λ old. same_subnet old q) st.addresses) (as_secondary fresh) fresh in
    goes (new_address new (eqb (up_at_add_v4 q) 1) st)

-- an address that is there is changed where the request says so, else 17; another one is put in [add_v4; inet_rtm_newaddr]
unfoldable pub add_v4 : Row → ℕ → State → Outcome
add_v4 q now st = added_over q now (first (same_address q) st.addresses) st

-- ---- up and down
-- the request for 127.0.0.1/8 with the label lo, host scope, lifetimes that never end, not replacing, while up [`loopback` in up]
abbrev pub loopback : Row
loopback =
    0x7f000001
    ∷ 0x7f000001
    ∷ 8
    ∷ 0
    ∷ 0
    ∷ host_scope
    ∷ 0
    ∷ 0
    ∷ 2
    ∷ 0x6f6c
    ∷ 0
    ∷ 0
    ∷ 0
    ∷ 0
    ∷ forever
    ∷ forever
    ∷ 0
    ∷ 1
    ∷ []

-- a refusal leaves all as it was
abbrev pub out_of : Outcome → Out
out_of (goes o) = o
out_of (refused n st) = stays st

-- 127.0.0.1 if it isn't there, with its routes; then the routes that every address has, in the addresses' order
-- [up; inetdev_event, fib_netdev_event]
unfoldable pub up : ℕ → State → Out
up now st =
    also (out_of (add_v4 loopback now st))
    (λ later. through (λ a. install (candidates later.addresses Bool.true a)) later.addresses later)

-- the routes through the device go, but for those of host scope, with one event for all [down; fib_sync_down_dev]
unfoldable pub down : State → Out
down st =
    becomes (with_routes (keep (λ r. not (eqb (Route.device r) 1 && not (eqb (Route.scope r) host_scope))) st.routes) st)
    (link_down ∷ [])
