-- Of rows read into records the definitions say what they say of the rows themselves, whatever words stand there.
-- Assumes nothing.
use Rattle.std.specs.Prelude.{ℕ, ◌≡◌, refl, Bool, not, cond, ◌&&◌, List, [], ◌∷◌, map}
use Rattle.std.proofs.Common.{ap, ap₂, ◌∙◌}
use Rattle.std.proofs.Math.Option.{Option, none, some}
use Rattle.lists.specs.Lists.{Row, first}
use Rattle.lists.specs.Bools.{test-case}
use Rattle.layout.specs.Address.{local, secondary}
use Rattle.definition.specs.Reference.Addresses.{covers, same_subnet, local_or, primary_of}
use Rattle.definition.specs.Reference.Source.{eligible, reaches, select4, local_of, or_else}
use Rattle.row_address.specs.V4.{v4_of}
use Rattle.row_address.specs.Words.{row_of}

-- a row that went through its record
abbrev again : Row → Row
again a = row_of (v4_of a)

abbrev through : Option Row → Option Row
through none = none
through (some a) = some (again a)

abbrev decoded : List Row → List Row
decoded l = map row_of (map v4_of l)

first-again : (p q : Row → Bool) → ((a : Row) → p (again a) ≡ q a) → (l : List Row) → first p (decoded l) ≡ through (first q l)
first-again p q h [] = refl
first-again p q h (a ∷ l) = test-case (q a) (λ e. rw (h a, e)) (λ e. rw (h a, e) (first-again p q h l))

local-through : (x y : Option Row) → local_of (or_else (through x) (through y)) ≡ local_of (or_else x y)
local-through (some a) y = refl
local-through none (some b) = refl
local-through none none = refl

eligible-again : (scope : ℕ) (a : Row) → eligible scope (again a) ≡ eligible scope a
unfolding eligible
eligible-again scope a = refl

reaches-again : (dst : Option ℕ) (a : Row) → reaches dst (again a) ≡ reaches dst a
unfolding covers
reaches-again none a = refl
reaches-again (some ip) a = refl

abbrev both : Option ℕ → ℕ → Row → Bool
both dst scope a = eligible scope a && reaches dst a

pub select_decoded : (l : List Row) (dst : Option ℕ) (scope : ℕ) → select4 (map row_of (map v4_of l)) dst scope ≡ select4 l dst scope
unfolding select4
select_decoded l dst scope =
    ap₂ (λ (x y : Option Row). local_of (or_else x y))
    (first-again (both dst scope) (both dst scope) (λ a. ap₂ (λ (x y : Bool). x && y) (eligible-again scope a) (reaches-again dst a)) l)
    (first-again (eligible scope) (eligible scope) (eligible-again scope) l)
    ∙ local-through (first (both dst scope) l) (first (eligible scope) l)

or_through : (d : ℕ) (x : Option Row) → local_or d (through x) ≡ local_or d x
or_through d none = refl
or_through d (some a) = refl

abbrev primary_for : Row → Row → Bool
primary_for a b = not (secondary b) && same_subnet b a

subnet_again : (a b : Row) → primary_for (again a) (again b) ≡ primary_for a b
unfolding same_subnet covers
subnet_again a b = refl

pub primary_decoded : (l : List Row) (a : Row) → primary_of (map row_of (map v4_of l)) (row_of (v4_of a)) ≡ primary_of l a
unfolding primary_of
primary_decoded l a =
    ap (λ (x : Option Row). cond (secondary a) (local_or (local a) x) (local a)) (first-again (primary_for (again a)) (primary_for a) (subnet_again a) l)
    ∙ ap (λ (n : ℕ). cond (secondary a) n (local a)) (or_through (local a) (first (primary_for a) l))
