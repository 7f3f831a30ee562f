-- How long event rows are.
-- Assumes nothing.
use Rattle.std.specs.Prelude.{ℕ, ◌-◌, ◌≡◌, refl, List, [], ◌∷◌, ◌++◌, length}
use Rattle.std.proofs.Common.{arith}
use Rattle.lists.specs.Lists.{zeros}
use Rattle.lists.specs.Rows.{length-zeros}
use Rattle.layout.specs.Event.{new_route4, del_route4, bare}

-- an event of a route has 34 words
pub new_route-long : (r : List ℕ) (flags : ℕ) → length r ≡ 32 → length (new_route4 r flags) ≡ 34
unfolding new_route4
new_route-long r flags h = omega arith

pub del_route-long : (r : List ℕ) → length r ≡ 32 → length (del_route4 r) ≡ 34
unfolding del_route4
del_route-long r h = omega arith

-- and one that has none
pub bare-long : (kind : ℕ) → length (bare kind) ≡ 34
unfolding bare
bare-long kind = omega (arith, length-zeros 33)

pub bare_row : (kind : ℕ) → kind ∷ 0 ∷ ([] ++ zeros (32 - 0)) ≡ bare kind
unfolding bare zeros
bare_row kind = refl
