-- Addresses taken out, by request or at the end of their life, with the routes that go with them (document 01, port order 2 and 6).
use Rattle.std.specs.Prelude.{ℕ, zero, suc, Bool, true, cond, not, ◌&&◌, ◌||◌, List, [], ◌∷◌, ◌++◌, map, eqb, length}
use Rattle.std.proofs.Math.Option.{Option, none, some}
use Rattle.lists.specs.Lists.{Row, any, keep, first, until, onward, remove_first, eq_row}
use Rattle.life.specs.Life.{reached}
use Rattle.layout.specs.Flags.{set_bit}
use Rattle.layout.specs.Address.{local, prefix, flags, set_flags, secondary, permanent, deprecated, deprecated_bit, label_length, label, valid, preferred, changed}
use Rattle.layout.specs.Route as Route
use Rattle.layout.specs.Route.{table, dst, len, kind}
use Rattle.layout.specs.Event.{new_addr4, del_addr4, ip_disabled}
use Rattle.layout.specs.Request.{local_present, local_given, address_present, address_given, prefix_given, label_present, label_length_given, label_given}
use Rattle.definition.specs.State.{State, Out, becomes, stays, also, through, with_addresses, with_routes}
use Rattle.definition.specs.Reference.Lookup.{main_table, local_kind, broadcast_kind, listed, local4}
use Rattle.definition.specs.Reference.Insert.{kernel_del4}
use Rattle.definition.specs.Reference.Addresses.{covers, same_subnet, kernel_route, local_route, up_routes, primary_of, candidates, Outcome, goes, refused}

-- ---- the routes that go with an address
-- the same route, whatever its preferred source and priority [Route4::same]
abbrev pub same_route : Row → Row → Bool
same_route a b = eqb (dst a) (dst b) && eqb (len a) (len b) && eqb (kind a) (kind b)

-- some address wants the route [`wanted` in remove_v4]
unfoldable pub wanted : List Row → Row → Bool
wanted addresses r = any (λ a. any (same_route r) (candidates addresses true a)) addresses

-- the route with no priority named
abbrev pub any_priority : Row → Row
any_priority r = kernel_route (dst r) (len r) 0 (kind r) (Route.prefsrc r)

abbrev pub of_kind : ℕ → Row → Bool
of_kind k r = eqb (kind r) k

-- an address's routes in the order in which they go: the prefix route, the broadcast ones, the local one, each with no priority named
-- [`order` in remove_v4; fib_del_ifaddr]
unfoldable pub leaving : List Row → Row → List Row
leaving addresses a =
    let source = primary_of addresses a in
    map any_priority (keep (of_kind local_kind) (up_routes source a))
    ++ (keep (of_kind broadcast_kind) (up_routes source a) ++ (local_route source a ∷ []))

-- those of them that no remaining address wants
unfoldable pub unwanted : List Row → List Row → Row → List Row
unwanted addresses remaining a = keep (λ r. not (wanted remaining r)) (leaving addresses a)

-- main rows with the preferred source [`stray` in remove_v4]
abbrev pub dependent_on : ℕ → Row → Bool
dependent_on ip r = eqb (table r) main_table && eqb (Route.prefsrc_present r) 1 && eqb (Route.prefsrc r) ip

-- a /32 of a local route goes, and the address is local no more [`local_gone` in remove_v4]
abbrev pub dependents_fall : Row → List Row → State → Bool
dependents_fall a routes st = any (λ r. of_kind local_kind r && eqb (len r) 32) routes && not (local4 st (local a))

-- the main rows from it, in listed order
abbrev pub dependents : Row → State → List Row
dependents a st = cond (listed main_table st) (keep (dependent_on (local a)) st.routes) []

-- then these fall [`stray` in remove_v4; fib_sync_down_addr]
unfoldable pub fall : Row → List Row → State → Out
fall a routes st = cond (dependents_fall a routes st) (through kernel_del4 (dependents a st) st) (stays st)

-- the routes that go through no device
abbrev pub deviceless : State → State
deviceless st = with_routes (keep (λ r. not (eqb (Route.device r) 1)) st.routes) st

-- the last address takes every route through the device with it, with one event for all [the end of remove_v4; fib_disable_ip]
unfoldable pub disable : State → Out
disable st = cond (eqb (length st.addresses) 0) (becomes (deviceless st) (ip_disabled ∷ [])) (stays st)

-- one address goes: the first row equal to it, emitted; then its routes that none wants; then what falls with it [the loop of remove_v4]
unfoldable pub remove_one : Row → State → Out
remove_one a st =
    let remaining = remove_first (eq_row a) st.addresses in
    let routes = unwanted st.addresses remaining a in
    also (also (also (becomes (with_addresses remaining st) (del_addr4 a ∷ []))
    (through kernel_del4 routes))
    (fall a routes))
    disable

-- a primary takes its secondaries with it, which go first; the list is fixed at the start [`gone` in remove_v4]
unfoldable pub gone_with : List Row → Row → List Row
gone_with addresses a =
    cond (secondary a) (a ∷ []) (keep (λ b. secondary b && same_subnet a b) addresses ++ (a ∷ []))

-- [remove_v4; __inet_del_ifa]
unfoldable pub remove_v4 : Row → State → Out
remove_v4 a st = through remove_one (gone_with st.addresses a) st

-- ---- del_v4
-- each condition that the request makes [position in del_v4]
unfoldable pub deletes : Row → Row → Bool
deletes q a =
    (eqb (local_present q) 0 || eqb (local a) (local_given q))
    && (eqb (label_present q) 0 || (eqb (label_length a) (label_length_given q) && eqb (label a) (label_given q)))
    && (eqb (address_present q) 0 || (eqb (prefix a) (prefix_given q) && covers a (address_given q)))

-- an address goes; 99 where there is none
abbrev pub deleted_at : Option Row → State → Outcome
deleted_at none st = refused 99 st
deleted_at (some a) st = goes (remove_v4 a st)

-- the first address that meets the conditions goes [del_v4; inet_rtm_deladdr]
unfoldable pub del_v4 : Row → State → Outcome
del_v4 q st = deleted_at (first (deletes q) st.addresses) st

-- ---- expire
-- its valid lifetime is reached; a permanent address never runs out [Life::reached in expire; check_lifetime]
unfoldable pub due : ℕ → ℕ → Row → Bool
due allowance now a = not (permanent a) && reached allowance (valid a) (changed a) now

-- its preferred lifetime is reached, and that isn't marked yet [the second test of expire]
unfoldable pub deprecates : ℕ → ℕ → Row → Bool
deprecates allowance now a =
    not (permanent a) && not (deprecated a) && reached allowance (preferred a) (changed a) now

-- the address, marked [flags |= DEPRECATED; IFA_F_DEPRECATED]
unfoldable pub deprecate : Row → Row
deprecate a = set_flags (set_bit deprecated_bit (flags a)) a

-- the address, marked where it is due to be
abbrev pub marked : ℕ → ℕ → Row → Row
marked allowance now a = cond (deprecates allowance now a) (deprecate a) a

-- the addresses before the first that is due are marked, and those newly marked are emitted [expire between two removals]
unfoldable pub deprecate_due : ℕ → ℕ → State → Out
deprecate_due allowance now st =
    let spared = until (due allowance now) st.addresses in
    becomes (with_addresses (map (marked allowance now) spared ++ onward (due allowance now) st.addresses) st)
    (map (λ a. new_addr4 (deprecate a)) (keep (deprecates allowance now) spared))

-- a pass marks, removes the first address that is due, and then all begins again; each pass but the last removes an
-- address, so as many passes as there are addresses suffice
unfoldable pub passes : ℕ → ℕ → ℕ → State → Out
passes zero allowance now st = deprecate_due allowance now st
passes (suc n) allowance now st =
    elim (first (due allowance now) st.addresses) [ none ↦ deprecate_due allowance now st | some a ↦ also (also (deprecate_due allowance now st) (remove_v4 a)) (passes n allowance now) ]

-- [expire; check_lifetime]
unfoldable pub expire : ℕ → ℕ → State → Out
expire allowance now st = passes (length st.addresses) allowance now st
