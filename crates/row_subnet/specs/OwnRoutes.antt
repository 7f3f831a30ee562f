-- Which routes an address brings, by name.
-- Assumes nothing.
use Rattle.std.specs.Prelude.{Bool, not, ◌&&◌, ltb}
use Rattle.lists.specs.Lists.{Row}
use Rattle.layout.specs.Address.{prefix, secondary, no_prefix_route}
use Rattle.definition.specs.Reference.Addresses.{same_subnet, own_network}

-- a prefix route
abbrev pub has_prefix_route : Row → Bool
has_prefix_route a = own_network a && not (secondary a) && not (no_prefix_route a)

-- its subnet's broadcast route
abbrev pub has_broadcast_routes : Row → Bool
has_broadcast_routes a = own_network a && not (secondary a) && ltb (prefix a) 31

-- b is a primary whose subnet a is in
abbrev pub primary_for : Row → Row → Bool
primary_for a b = not (secondary b) && same_subnet b a
