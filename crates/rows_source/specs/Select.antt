-- The two searches for an address, in rows or in what rows are read into, as the definition has them.
use Rattle.std.specs.Prelude.{ℕ, ◌≡◌, refl, Bool, true, false, cond, ◌&&◌, List, [], ◌∷◌, map, Option, Some, None, MatchOption}
use Rattle.std.proofs.Common.{ap, ◌∙◌}
use Rattle.std.proofs.Math.Option as Own
use Rattle.std.proofs.Math.Option.{none, some}
use Rattle.std.specs.List.{find}
use Rattle.std.specs.Option.{option_map}
use denote.Ref.{Bor}
use Rattle.lists.specs.Lists.{Row, first}
use Rattle.lists.specs.Library.{own, first_find}
use Rattle.layout.specs.Address.{local}
use Rattle.definition.specs.Reference.Source.{eligible, reaches, select4, local_of}
use Rattle.row_subnet.specs.Laws.{find_map}

module _ {A : Type 0} (row : A → Row) (scope : ℕ) where
  abbrev pub passes : Own.Option ℕ → A → Bool
  passes dst v = eligible scope (row v) && reaches dst (row v)

  rows-find : (dst : Own.Option ℕ) (l : List A) → first (λ a. eligible scope a && reaches dst a) (map row l) ≡ own (option_map row (find (passes dst) l))
  rows-find dst l =
      first_find (λ (a : Row). eligible scope a && reaches dst a) (map row l)
      ∙ ap (λ (o : Option Row). own o) (find_map row (λ (a : Row). eligible scope a && reaches dst a) l)

  -- every address reaches where there is no destination
  first-any : (l : List Row) → first (eligible scope) l ≡ first (λ a. eligible scope a && reaches none a) l
  first-any [] = refl
  first-any (a ∷ l) = go (eligible scope a) (first-any l)
    where
      go : (b : Bool) → first (eligible scope) l ≡ first (λ a. eligible scope a && reaches none a) l
          → cond b (some a) (first (eligible scope) l) ≡ cond (b && true) (some a) (first (λ a. eligible scope a && reaches none a) l)
      go true h = refl
      go false h = h

  local-found : (o : Option (Bor A)) → own (option_map (λ a. local (row a.now)) o) ≡ local_of (own (option_map row (option_map (λ a. a.now) o)))
  local-found None = refl
  local-found (Some a) = refl

  -- x is found in the destination's subnet, else o without one
  pub select-found : (dst : Own.Option ℕ) (l : List A) (x o : Option (Bor A)) (r : Option ℕ) → option_map (λ a. a.now) x ≡ find (passes dst) l
      → MatchOption x (option_map (λ a. a.now) o ≡ find (passes none) l) (λ a. o ≡ Some a)
      → r ≡ option_map (λ a. local (row a.now)) o → own r ≡ select4 (map row l) dst scope
  unfolding select4
  select-found dst l None o r e h f =
      rw (f, rows-find dst l, ← e, first-any (map row l), rows-find none l, ← h) (local-found o)
  select-found dst l (Some a) o r e h f = rw (f, rows-find dst l, ← e, h)
