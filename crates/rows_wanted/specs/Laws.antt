-- An address wants a route exactly where the route is one of its candidates, whatever its source and priority.
-- Assumes nothing.
use Rattle.std.specs.Prelude.{◌≡◌, refl, Bool, true, false, cond, ◌&&◌, ◌||◌, List, ◌∷◌, ◌++◌, eqb}
use Rattle.std.proofs.Common.{arith, sym, ap, ◌∙◌, eqb-true}
use Rattle.std.proofs.Math.Path.{fun_ext}
use Rattle.std.proofs.Math.Bool.{and-true, and-false, or-false}
use Rattle.lists.specs.Lists.{Row, any}
use Rattle.prefix.specs.Mask.{network, broadcast}
use Rattle.layout.specs.Address as Address
use Rattle.layout.specs.Address.{local, address, prefix}
use Rattle.layout.specs.Route.{dst, len, kind}
use Rattle.definition.specs.Reference.Lookup.{local_kind, broadcast_kind}
use Rattle.definition.specs.Reference.Addresses.{kernel_route, local_route, prefix_route, up_routes, candidates, primary_of, only, names_broadcast}
use Rattle.definition.specs.Reference.Removal.{same_route, wanted}
use Rattle.row_subnet.specs.OwnRoutes.{has_prefix_route, has_broadcast_routes}
use Rattle.rows_wanted.specs.Wants.{wants_row}

-- one of four rows, of which three may be missing
some_of : (f : Row → Bool) (a b c d : Row) (p q s : Bool)
    → any f (a ∷ (only p b ++ (only q c ++ only s d))) ≡ (f a || ((p && f b) || ((q && f c) || (s && f d))))
some_of f a b c d p q s = ap (λ (t : Bool). f a || t) (go p q s)
  where
    last : (s : Bool) → any f (only s d) ≡ (s && f d)
    last true = or-false (f d)
    last false = refl

    more : (q s : Bool) → any f (only q c ++ only s d) ≡ ((q && f c) || (s && f d))
    more true s = ap (λ (t : Bool). f c || t) (last s)
    more false s = last s

    go : (p q s : Bool) → any f (only p b ++ (only q c ++ only s d)) ≡ ((p && f b) || ((q && f c) || (s && f d)))
    go true q s = ap (λ (t : Bool). f b || t) (more q s)
    go false q s = more q s

-- w to z test a destination, h and m a length, j and k the kind, p to s say whether there is such a route
by_kind : (j k w x y z h m p q s : Bool) → (j ≡ true → k ≡ true → ⊥)
    → (((w && h) && j) || ((p && ((x && h) && k)) || ((q && ((y && m) && j)) || (s && ((z && h) && k)))))
    ≡ cond j ((w && h) || (q && (y && m))) (cond k (h && ((p && x) || (s && z))) false)
by_kind true true w x y z h m p q s apart = absurd (apart refl refl)
by_kind true false w x y z h m p q s apart = simp (and-true, and-false, or-false)
by_kind false true w x y z true m p q s apart = simp (and-true, and-false, or-false)
by_kind false true w x y z false m p q s apart = simp (and-true, and-false, or-false)
by_kind false false w x y z h m p q s apart = simp (and-true, and-false, or-false)

-- ---- one address
pub wants_candidate : (l : List Row) (r a : Row) → wants_row r a ≡ any (same_route r) (candidates l true a)
unfolding candidates up_routes local_route prefix_route kernel_route
wants_candidate l r a =
    sym (some_of (same_route r) (local_route (primary_of l a) a) (kernel_route (Address.broadcast a) 32 0 broadcast_kind (primary_of l a)) (prefix_route (primary_of l a) a) (kernel_route (broadcast (address a) (prefix a)) 32 0 broadcast_kind (primary_of l a)) (names_broadcast a) (has_prefix_route a) (has_broadcast_routes a)
    ∙ by_kind (eqb (kind r) local_kind) (eqb (kind r) broadcast_kind) (eqb (dst r) (local a)) (eqb (dst r) (Address.broadcast a)) (eqb (dst r) (network (address a) (prefix a))) (eqb (dst r) (broadcast (address a) (prefix a))) (eqb (len r) 32) (eqb (len r) (prefix a)) (names_broadcast a) (has_prefix_route a) (has_broadcast_routes a)
    (λ e f. omega (arith, eqb-true (kind r) local_kind e, eqb-true (kind r) broadcast_kind f)))

-- ---- all of them
pub wanted-rows : (l : List Row) (r : Row) → any (wants_row r) l ≡ wanted l r
unfolding wanted
wanted-rows l r = ap (λ (p : Row → Bool). any p l) (fun_ext (λ a. wants_candidate l r a))
