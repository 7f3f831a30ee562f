-- The routes that go with an address, in the order in which they go.
-- Assumes nothing.
use Rattle.std.specs.Prelude.{ℕ, ◌≡◌, refl, Bool, true, false, List, [], ◌∷◌, ◌++◌, map, length}
use Rattle.lists.specs.Lists.{Row, keep}
use Rattle.lists.specs.Rows.{length-zeros}
use Rattle.prefix.specs.Mask.{network, broadcast}
use Rattle.layout.specs.Address as Address
use Rattle.layout.specs.Address.{address, prefix}
use Rattle.definition.specs.Reference.Lookup.{local_kind, broadcast_kind}
use Rattle.definition.specs.Reference.Addresses.{kernel_route, local_route, prefix_route, up_routes, primary_of, only, names_broadcast}
use Rattle.definition.specs.Reference.Removal.{any_priority, of_kind, leaving}
use Rattle.row_subnet.specs.OwnRoutes.{has_prefix_route, has_broadcast_routes}
use Rattle.row_candidates.specs.Rows.{named_routes, prefix_routes, subnet_routes}

-- a row of 32 words
pub route-long : (dst len priority kind source : ℕ) → length (kernel_route dst len priority kind source) ≡ 32
unfolding kernel_route
route-long dst len priority kind source = rw (length-zeros 17)

going : (b c d : Bool) (named dst len priority subnet source : ℕ) (last : Row)
    → map any_priority (keep (of_kind local_kind) (only b (kernel_route named 32 0 broadcast_kind source) ++ (only c (kernel_route dst len priority local_kind source) ++ only d (kernel_route subnet 32 0 broadcast_kind source))))
    ++ (keep (of_kind broadcast_kind) (only b (kernel_route named 32 0 broadcast_kind source) ++ (only c (kernel_route dst len priority local_kind source) ++ only d (kernel_route subnet 32 0 broadcast_kind source))) ++ (last ∷ []))
    ≡ ((only c (kernel_route dst len 0 local_kind source) ++ only b (kernel_route named 32 0 broadcast_kind source)) ++ only d (kernel_route subnet 32 0 broadcast_kind source)) ++ (last ∷ [])
unfolding kernel_route
going true true true n s e p u o z = refl
going true true false n s e p u o z = refl
going true false true n s e p u o z = refl
going true false false n s e p u o z = refl
going false true true n s e p u o z = refl
going false true false n s e p u o z = refl
going false false true n s e p u o z = refl
going false false false n s e p u o z = refl

pub leaving_rows : (l : List Row) (a : Row) (source : ℕ) → source ≡ primary_of l a
    → leaving l a ≡ ((prefix_routes 0 source a ++ named_routes source a) ++ subnet_routes source a) ++ (local_route source a ∷ [])
unfolding leaving up_routes prefix_route
leaving_rows l a source given =
    rw (← given)
    (going (names_broadcast a) (has_prefix_route a) (has_broadcast_routes a) (Address.broadcast a) (network (address a) (prefix a)) (prefix a) (Address.priority a) (broadcast (address a) (prefix a)) source (local_route source a))
