-- What an address wants, of a route's destination, length and kind.
-- Assumes nothing.
use Rattle.std.specs.Prelude.{ℕ, Bool, false, cond, ◌&&◌, ◌||◌, eqb}
use Rattle.lists.specs.Lists.{Row}
use Rattle.prefix.specs.Mask.{network, broadcast}
use Rattle.layout.specs.Address as Address
use Rattle.layout.specs.Address.{local, address, prefix}
use Rattle.layout.specs.Route.{dst, len, kind}
use Rattle.definition.specs.Reference.Lookup.{local_kind, broadcast_kind}
use Rattle.definition.specs.Reference.Addresses.{names_broadcast}
use Rattle.row_subnet.specs.OwnRoutes.{has_prefix_route, has_broadcast_routes}

abbrev pub wants_local : Row → ℕ → ℕ → Bool
wants_local a dst len =
    (eqb dst (local a) && eqb len 32)
    || (has_prefix_route a && (eqb dst (network (address a) (prefix a)) && eqb len (prefix a)))

abbrev pub wants_broadcast : Row → ℕ → ℕ → Bool
wants_broadcast a dst len =
    eqb len 32
    && ((names_broadcast a && eqb dst (Address.broadcast a)) || (has_broadcast_routes a && eqb dst (broadcast (address a) (prefix a))))

abbrev pub wants : Row → ℕ → ℕ → ℕ → Bool
wants a dst len kind =
    cond (eqb kind local_kind) (wants_local a dst len) (cond (eqb kind broadcast_kind) (wants_broadcast a dst len) false)

-- it wants the route r
abbrev pub wants_row : Row → Row → Bool
wants_row r a = wants a (dst r) (len r) (kind r)
