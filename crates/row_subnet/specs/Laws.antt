-- What is found among addresses, in rows or in what rows are read into, is what the definitions find among their rows.
-- Assumes nothing.
use Rattle.std.specs.Prelude.{◌≡◌, refl, Bool, true, false, cond, List, [], ◌∷◌, map, Option, Some, None}
use Rattle.std.specs.List.{find}
use Rattle.std.specs.Option.{option_map, unwrap_or}
use denote.Ref.{Bor}
use Rattle.lists.specs.Lists.{Row}
use Rattle.lists.specs.Library.{first_find}
use Rattle.layout.specs.Address.{secondary, local}
use Rattle.definition.specs.Reference.Addresses.{primary_of}
use Rattle.row_subnet.specs.OwnRoutes.{primary_for}

-- the first of the rows is the row of the first that is found
pub find_map : {A B : Type 0} (f : A → B) (p : B → Bool) (l : List A) → find p (map f l) ≡ option_map f (find (λ a. p (f a)) l)
find_map f p [] = refl
find_map f p (a ∷ l) = go (p (f a)) (find_map f p l)
  where
    go : (b : Bool) → find p (map f l) ≡ option_map f (find (λ a. p (f a)) l) → cond b (Some (f a)) (find p (map f l)) ≡ option_map f (cond b (Some a) (find (λ a. p (f a)) l))
    go true h = refl
    go false h = h

-- of a secondary, by the one that is found, else itself
module _ {A : Type 0} (row : A → Row) (l : List A) (a : Bor A) where
  pub primary-found : (o : Option (Bor A)) {x : Bor A} → x ≡ unwrap_or o a → secondary (row a.now) ≡ true
      → option_map (λ b. b.now) o ≡ find (λ b. primary_for (row a.now) (row b)) l → local (row x.now) ≡ primary_of (map row l) (row a.now)
  unfolding primary_of
  primary-found None f e h = rw (f, e, first_find (primary_for (row a.now)) (map row l), find_map row (primary_for (row a.now)) l, ← h)
  primary-found (Some x) f e h = rw (f, e, first_find (primary_for (row a.now)) (map row l), find_map row (primary_for (row a.now)) l, ← h)
