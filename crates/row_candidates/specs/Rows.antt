-- The routes of an address, each kind by itself.
-- Assumes nothing.
use Rattle.std.specs.Prelude.{ℕ, cond, List, [], ◌∷◌, Option, Some, None, eqb}
use Rattle.lists.specs.Lists.{Row}
use Rattle.prefix.specs.Mask.{network, broadcast}
use Rattle.layout.specs.Address as Address
use Rattle.layout.specs.Address.{address, prefix}
use Rattle.definition.specs.Reference.Lookup.{local_kind, broadcast_kind}
use Rattle.definition.specs.Reference.Addresses.{link_scope, host_scope, kernel_route, only, names_broadcast}
use Rattle.row_subnet.specs.OwnRoutes.{has_prefix_route, has_broadcast_routes}

-- the scope of a route of the kernel's
abbrev pub scope_of : ℕ → ℕ
scope_of kind = cond (eqb kind broadcast_kind) link_scope host_scope

-- the prefix route with a priority
abbrev pub subnet_route : ℕ → ℕ → Row → Row
subnet_route priority source a = kernel_route (network (address a) (prefix a)) (prefix a) priority local_kind source

abbrev pub named_routes : ℕ → Row → List Row
named_routes source a = only (names_broadcast a) (kernel_route (Address.broadcast a) 32 0 broadcast_kind source)

abbrev pub prefix_routes : ℕ → ℕ → Row → List Row
prefix_routes priority source a = only (has_prefix_route a) (subnet_route priority source a)

abbrev pub subnet_routes : ℕ → Row → List Row
subnet_routes source a = only (has_broadcast_routes a) (kernel_route (broadcast (address a) (prefix a)) 32 0 broadcast_kind source)

-- the route that there is, as a list
abbrev pub listed : Option Row → List Row
listed None = []
listed (Some r) = r ∷ []
