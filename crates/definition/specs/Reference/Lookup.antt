-- Lookups (document 01, port order 5; RFC 1812, section 5.2.4.3: basic match, longest match, weak TOS).
use Rattle.std.specs.Prelude.{ℕ, Bool, false, cond, not, ◌&&◌, ◌||◌, List, [], ◌∷◌, eqb, leb, ltb}
use Rattle.std.proofs.Math.Option.{Option, none, some}
use Rattle.lists.specs.Lists.{Row, keep, among}
use Rattle.prefix.specs.Mask.{network, flow_tos}
use Rattle.kind.specs.Kind.{error_of}
use Rattle.layout.specs.Route.{table, dst, len, tos, kind, scope, device}
use Rattle.definition.specs.State.{State}

-- what a lookup asks for: a destination, and the tos, scope and device (0 for any) of the flow [arguments of table_lookup4]
pub record Flow : Type 0 where
  pub ip : ℕ
  pub tos : ℕ
  pub scope : ℕ
  pub oif : ℕ

-- the tables by name [TABLE_DEFAULT, TABLE_MAIN, TABLE_LOCAL; RT_TABLE_*]
abbrev pub default_table : ℕ
default_table = 253

abbrev pub main_table : ℕ
main_table = 254

abbrev pub local_table : ℕ
local_table = 255

-- the table is listed [has_table4; fib_get_table]
abbrev pub listed : ℕ → State → Bool
listed t st = among t st.tables

-- the kinds of routes that the rules name [Kind; RTN_*]
abbrev pub unicast_kind : ℕ
unicast_kind = 1

abbrev pub local_kind : ℕ
local_kind = 2

abbrev pub broadcast_kind : ℕ
broadcast_kind = 3

-- the number of a throw: the search goes on [EAGAIN]
abbrev pub again : ℕ
again = 11

-- no route leads there [ENETUNREACH]
abbrev pub net_unreachable : ℕ
net_unreachable = 101

-- the kind rejects: it has an error [Kind::error; fib_props]
abbrev pub rejects : Row → Bool
rejects r = not (eqb (error_of (kind r)) 0)

-- a row fits a flow (document 01, port order 5) [the tests of table_lookup4; fib_table_lookup, fib_dscp_masked_match]
unfoldable pub fits : Flow → Row → Bool
fits f r =
    eqb (dst r) (network f.ip (len r))
    && (eqb (tos r) 0 || eqb (tos r) (flow_tos f.tos))
    && leb f.scope (scope r)
    && (rejects r || eqb f.oif 0 || (eqb f.oif 1 && eqb (device r) 1))

-- of two answers the longer one, the first where they are as long
abbrev pub longer : Row → Option Row → Row
longer r none = r
longer r (some s) = cond (ltb (len r) (len s)) s r

-- the row of greatest len, the first in list order among equals
unfoldable pub longest : List Row → Option Row
longest [] = none
longest (r ∷ l) = some (longer r (longest l))

-- what a set of tables answers [table_lookup4; fib_table_lookup]
unfoldable pub answer : (ℕ → Bool) → Flow → List Row → Option Row
answer tables f rows = longest (keep (λ r. tables (table r) && fits f r) rows)

-- the set that a named table is read in: 255 and 254 together, 253 alone, of a private table nothing [trie]
unfoldable pub together : ℕ → ℕ → Bool
together t u =
    cond (eqb t local_table || eqb t main_table) (eqb u local_table || eqb u main_table)
    (eqb t default_table && eqb u default_table)

-- a lookup's answer: a row, or a refusal's number [Result<Route4, Errno>]
pub data Found : Type 0 where
  route : Row → Found
  no_route : ℕ → Found

-- a row as an answer: itself, or its kind's error
abbrev pub verdict : Row → Found
verdict r = cond (rejects r) (no_route (error_of (kind r))) (route r)

-- there is an answer, and it isn't a throw
abbrev pub settled : Option Row → Bool
settled none = false
settled (some r) = not (eqb (error_of (kind r)) again)

-- what an answer comes to, 101 where there is none [ENETUNREACH in lookup4_in]
abbrev pub ruling : Option Row → Found
ruling none = no_route net_unreachable
ruling (some r) = verdict r

-- 255 and 254 are read first; if they have none or a throw, 253 if listed; 101 if neither holds an answer that isn't a throw
-- [lookup4_in; fib_lookup]
unfoldable pub lookup_in : State → Flow → Found
lookup_in st f =
    let upper = answer (together main_table) f st.routes in
    let lower = answer (together default_table) f st.routes in
    cond (settled upper) (ruling upper)
    (cond (listed default_table st && settled lower) (ruling lower) (no_route net_unreachable))

-- the scope that every row reaches, and no tos or device asked for
abbrev pub flow_to : ℕ → Flow
flow_to ip = record { ip = ip; tos = 0; scope = 0; oif = 0 }

-- the call: no tos and no device asked for [lookup4]
unfoldable pub lookup4 : State → ℕ → Found
lookup4 st ip = lookup_in st (flow_to ip)

-- the call with both [lookup4_flow]
unfoldable pub lookup4_flow : State → ℕ → ℕ → ℕ → Found
lookup4_flow st ip tos oif = lookup_in st (record { ip = ip; tos = tos; scope = 0; oif = oif })

-- the kind of the row that answers; unicast where none does or it rejects
abbrev pub kind_found : Option Row → ℕ
kind_found none = unicast_kind
kind_found (some r) = cond (rejects r) unicast_kind (kind r)

-- a table that is named for an address's type is read with its set, a private one alone [tables in addr_type4]
unfoldable pub type_set : ℕ → ℕ → Bool
type_set t u =
    cond (eqb t local_table || eqb t main_table) (eqb u local_table || eqb u main_table) (eqb u t)

-- what an address is to a table: broadcast while the table isn't listed [addr_type4; inet_addr_type_table]
unfoldable pub addr_type4 : State → ℕ → ℕ → ℕ
addr_type4 st ip t =
    cond (listed t st) (kind_found (answer (type_set t) (flow_to ip) st.routes)) broadcast_kind

-- an address is the loopback's, as a local route gives it [local4]
unfoldable pub local4 : State → ℕ → Bool
local4 st ip = listed local_table st && eqb (addr_type4 st ip local_table) local_kind
