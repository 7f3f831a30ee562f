-- What the reader is to find in the message of an event: "the table, addresses, kind, scope, priority, lifetimes and metrics that
-- were put in, as far as a request of that type has the field" (document 02). One record for each type of message, one field for
-- each of its request. proofs/RoundTrip has it for every event that isn't refused.
use Rattle.std.specs.Prelude.{ℕ, suc, ◌≡◌, Bool, true, cond, not, ◌&&◌, List, [], ◌∷◌, eqb, take, drop}
use Rattle.lists.specs.Lists.{Row, all}
use Rattle.layout.specs.Flags.{has_bit}
use Rattle.layout.specs.Address as Address
use Rattle.layout.specs.Route as Route
use Rattle.layout.specs.Request as Request
use Rattle.definition.specs.Reference.Source.{left}
use Rattle.netlink.specs.Codes.{replace_bit, excl_bit}
use Rattle.netlink.specs.Reader.{Answer, asked, flag, label, label_words}
use Rattle.netlink_event.specs.Writer.{kind, flags, address_row, route_row, nonzero, label_bytes, onlink_flag}

-- a label is read up to its first zero byte; that of most rows has none
abbrev pub zeroless : Row → Bool
zeroless a = all (λ b. not (eqb 0 b)) (label_bytes a)

-- ---- what is found
-- in a request to add an address, of an address row at a clock
pub record AddressAdded (now flags : ℕ) (a q : Row) : Type 0 where
  pub local : Address.local q ≡ Address.local a
  pub address : Address.address q ≡ Address.address a
  pub prefix : Address.prefix q ≡ Address.prefix a
  pub broadcast_present : Address.broadcast_present q ≡ Address.broadcast_present a
  pub broadcast : Address.broadcast q ≡ Address.broadcast a
  pub scope : Address.scope q ≡ Address.scope a
  pub address_flags : Address.flags q ≡ Address.flags a
  pub proto : Address.proto q ≡ Address.proto a
  pub cut_label : take 5 (drop 8 q) ≡ label_words (label (label_bytes a))
  pub whole_label : zeroless a ≡ true → take 5 (drop 8 q) ≡ take 5 (drop 8 a)
  pub priority : Address.priority q ≡ Address.priority a
  pub valid : Request.valid_asked q ≡ (left a now).valid
  pub preferred : Request.preferred_asked q ≡ (left a now).preferred
  pub replace : Request.replace_asked q ≡ flag (has_bit replace_bit flags && not (has_bit excl_bit flags))

-- in a request to delete one
pub record AddressDeleted (a q : Row) : Type 0 where
  pub local_present : Request.local_present q ≡ 1
  pub local : Request.local_given q ≡ Address.local a
  pub address_present : Request.address_present q ≡ 1
  pub address : Request.address_given q ≡ Address.address a
  pub prefix : Request.prefix_given q ≡ Address.prefix a
  pub label_present : Request.label_present q ≡ 1
  pub cut_label : drop 6 q ≡ label_words (label (label_bytes a))
  pub whole_label : zeroless a ≡ true → drop 6 q ≡ take 5 (drop 8 a)

-- in both requests of a route, of a route row
pub record RouteNamed (r q : Row) : Type 0 where
  pub table : Route.table q ≡ Route.table r
  pub dst : Route.dst q ≡ Route.dst r
  pub len : Route.len q ≡ Route.len r
  pub tos : Route.tos q ≡ Route.tos r
  pub priority : Route.priority q ≡ Route.priority r
  pub route_kind : Route.kind q ≡ Route.kind r
  pub proto : Route.proto q ≡ Route.proto r
  pub scope : Route.scope q ≡ Route.scope r
  pub prefsrc_present : Route.prefsrc_present q ≡ Route.prefsrc_present r
  pub prefsrc : Route.prefsrc q ≡ Route.prefsrc r
  pub gateway_present : Route.gateway_present q ≡ Route.gateway_present r
  pub gateway : Route.gateway q ≡ Route.gateway r
  -- the loopback's index is 1, and none is 0, as the row's mark
  pub device : Request.oif q ≡ Route.device r

pub record RouteAdded (flags : ℕ) (r q : Row) : Type 0 where
  pub named : RouteNamed r q
  pub onlink : Request.rtm_flags q ≡ onlink_flag (Route.onlink r)
  pub nlm_flags : Request.nlm_flags q ≡ flags
  pub no_error : Request.metrics_error q ≡ 0
  pub metrics : Request.metrics_asked q ≡ Route.metrics r

-- the metrics that aren't 0, each with its index, from index i on
abbrev pub metric_pairs : ℕ → List ℕ → List Row
metric_pairs i [] = []
metric_pairs i (v ∷ l) = cond (nonzero v) ((i ∷ v ∷ []) ∷ metric_pairs (suc i) l) (metric_pairs (suc i) l)

pub record RouteDeleted (r q : Row) : Type 0 where
  pub named : RouteNamed r q
  pub list_present : Request.list_present q ≡ 1
  pub pairs : Request.pairs q ≡ metric_pairs 0 (Route.metrics r)

-- by the event's kind, and the type of its message
pub data Found (now : ℕ) (e : Row) (a : Answer) : Type 0 where
  address_added : (q : Row) → kind e ≡ 1 → a ≡ asked 20 q → AddressAdded now (flags e) (address_row e) q → Found now e a
  address_deleted : (q : Row) → kind e ≡ 2 → a ≡ asked 21 q → AddressDeleted (address_row e) q → Found now e a
  route_added : (q : Row) → kind e ≡ 3 → a ≡ asked 24 q → RouteAdded (flags e) (route_row e) q → Found now e a
  route_deleted : (q : Row) → kind e ≡ 4 → a ≡ asked 25 q → RouteDeleted (route_row e) q → Found now e a
