-- `select4` with the Rust's second search, for the first primary address not of link scope and of the asked scope or a wider one:
-- it finds nothing that the first search did not, so that the definition leaves it out (docs/DECISIONS.md, 17).
-- Assumes nothing.
use Rattle.std.specs.Prelude.{ℕ, min, ◌≡◌, refl, Bool, true, not, ◌&&◌, List, [], ◌∷◌, eqb, leb}
use Rattle.std.proofs.Common.{ap, arith, le-leb, leb-true}
use Rattle.std.proofs.Math.Option.{Option}
use Rattle.lists.specs.Lists.{Row, first}
use Rattle.lists.specs.Bools.{and_iff, test-case, true-false}
use Rattle.layout.specs.Address as Address
use Rattle.layout.specs.Address.{secondary}
use Rattle.definition.specs.Reference.Addresses.{link_scope, host_scope}
use Rattle.definition.specs.Reference.Source.{eligible, local_of, or_else, reaches, select4}

abbrev pub second : ℕ → Row → Bool
second scope a = not (secondary a) && not (eqb (Address.scope a) link_scope) && leb (Address.scope a) scope

-- what the second search finds was eligible
second-eligible : (scope : ℕ) (a : Row) → second scope a ≡ true → eligible scope a ≡ true
unfolding eligible
second-eligible scope a h =
    let k = simp and_iff at h in
    simp and_iff (k.0.0, le-leb (min (Address.scope a) host_scope) scope (omega (arith, leb-true (Address.scope a) scope k.1)))

module _ (p q : Row → Bool) (within : (a : Row) → q a ≡ true → p a ≡ true) where
  -- behind the first that passes p, or where none does, the first that passes q adds nothing
  or_first : (l : List Row) → or_else (first p l) (first q l) ≡ first p l
  or_first [] = refl
  or_first (a ∷ l) =
      test-case (p a) (λ e. rw e)
      (λ e. test-case (q a) (λ d. absurd (true-false (p a) (within a d) e)) (λ d. rw (e, d) (or_first l)))

-- the Rust's three choices, of which the last never comes to count
pub second-finds-none : (addresses : List Row) (dst : Option ℕ) (scope : ℕ)
    → local_of (or_else (first (λ a. eligible scope a && reaches dst a) addresses) (or_else (first (eligible scope) addresses) (first (second scope) addresses))) ≡ select4 addresses dst scope
unfolding select4
second-finds-none addresses dst scope =
    ap (λ (o : Option Row). local_of (or_else (first (λ a. eligible scope a && reaches dst a) addresses) o)) (or_first (eligible scope) (second scope) (second-eligible scope) addresses)
