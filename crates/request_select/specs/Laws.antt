-- What the code's tests of a row come to.
use Rattle.std.specs.Prelude.{ℕ, zero, suc, ◌+◌, ◌≤◌, ◌≡◌, refl, Bool, true, ◌&&◌, ◌||◌, List, ◌∷◌, eqb, leb, get_or, take, drop}
use Rattle.std.proofs.Common.{ap, arith, leb-true}
use Rattle.std.proofs.Math.Bool.{and_assoc}
use Rattle.std.specs.Simd.{first_chunks}
use Rattle.lists.specs.Lists.{Row, chop}
use Rattle.lists.specs.Bools.{and_iff}
use Rattle.layout.specs.Route.{table, dst, len, tos, priority, kind, proto, scope, prefsrc_present, prefsrc, gateway_present, gateway, device}
use Rattle.layout.specs.Request.{oif, pair_count, pair_index, pair_value, fit_pairs, fit_del_route4}
use Rattle.definition.specs.Reference.Routes.{selects, has_metrics, table_named}

abbrev pub same_place : Row → ℕ → Row → Bool
same_place q t r =
    eqb (table r) t && eqb (dst r) (dst q) && eqb (len r) (len q) && eqb (tos r) (tos q) && leb (priority q) (priority r)

abbrev pub same_fields : Row → Row → Bool
same_fields q r =
    (eqb (kind q) 0 || eqb (kind r) (kind q))
    && (eqb (scope q) 255 || eqb (scope r) (scope q))
    && (eqb (prefsrc_present q) 0 || (eqb (prefsrc_present r) 1 && eqb (prefsrc r) (prefsrc q)))
    && (eqb (proto q) 0 || eqb (proto r) (proto q))
    && (eqb (oif q) 0 || (eqb (oif q) 1 && eqb (device r) 1))
    && (eqb (gateway_present q) 0 || (eqb (gateway_present r) 1 && eqb (gateway r) (gateway q)))

-- ---- the metrics, pair by pair
abbrev pub has_pair : Row → Row → Bool
has_pair r p = eqb (get_or r (15 + pair_index p) 0) (pair_value p)

pub count_fits : (q : Row) → fit_del_route4 q ≡ true → pair_count q ≤ 17
unfolding fit_del_route4
count_fits q h = leb-true (pair_count q) 17 (simp and_iff at h).0.1

pub pairs_fit : (q : Row) → fit_del_route4 q ≡ true → fit_pairs q ≡ true
unfolding fit_del_route4
pairs_fit q h = (simp and_iff at h).1

-- the first of the library's chunks
pub chunks_take : (k n m : ℕ) (w : List ℕ) → n ≤ m → take n (first_chunks k m w) ≡ chop k n w
unfolding chop
chunks_take k zero m w h = refl
chunks_take k (suc n) zero w h = absurd (omega arith)
chunks_take k (suc n) (suc m) w h = ap (λ (l : List Row). take k w ∷ l) (chunks_take k n m (drop k w) (omega arith))

-- the definition's tests, in three parts
pub selects_parts : (q : Row) (t : ℕ) (r : Row) → t ≡ table_named q → (same_place q t r && (same_fields q r && has_metrics q r)) ≡ selects q r
unfolding selects
selects_parts q t r named = rw named (simp and_assoc)
