-- What the definitions say of lists, in the library's words.
-- Assumes nothing.
use Rattle.std.specs.Prelude.{ℕ, ◌≡◌, ◌<◌, refl, Bool, true, false, cond, ◌||◌, ◌&&◌, List, [], ◌∷◌, filter, Option, Some, None, Result, Ok, Err, position, length, get_or, nat_lt}
use Rattle.std.proofs.Common.{ap, sym, ◌∙◌, one-add, arith}
use Rattle.std.proofs.lemmas.Bool.{ltb-true, ltb-false}
use Rattle.std.proofs.Math.Option as Own
use Rattle.std.proofs.Math.Option.{none, some}
use Rattle.std.proofs.Math.ListN.{get_elem?}
use Rattle.std.specs.List.{find, list_any, list_all, position_or_len}
use Rattle.std.proofs.lemmas.List.Recursion.{is_position_or_len}
use denote.Ref.{Bor}
use Rattle.lists.specs.Lists.{all, any, keep, first}
use Rattle.lists.specs.Place.{place_of, place_le, first-at, nothing-from, something_at}

-- the definitions' option of the library's
abbrev pub own : {A : Type 0} → Option A → Own.Option A
own None = none
own (Some x) = some x

-- the value behind the reference, if there is one
abbrev pub lent : {A : Type 0} → Option (Bor A) → Own.Option A
lent None = none
lent (Some x) = some x.now

-- an answer that lends a value, as one that has it
abbrev pub lent_ok : {A E : Type 0} → Result (Bor A) E → Result A E
lent_ok (Ok x) = Ok x.now
lent_ok (Err e) = Err e

module _ {A : Type 0} (p : A → Bool) where
  pub first_find : (l : List A) → first p l ≡ own (find p l)
  first_find [] = refl
  first_find (x ∷ l) = go (p x) (first_find l)
    where
      go : (b : Bool) → first p l ≡ own (find p l) → cond b (some x) (first p l) ≡ own (cond b (Some x) (find p l))
      go true h = refl
      go false h = h

  pub any_list : (l : List A) → any p l ≡ list_any p l
  any_list [] = refl
  any_list (x ∷ l) = ap (λ (b : Bool). p x || b) (any_list l)

  pub all_list : (l : List A) → all p l ≡ list_all p l
  all_list [] = refl
  all_list (x ∷ l) = ap (λ (b : Bool). p x && b) (all_list l)

  pub keep_filter : (l : List A) → keep p l ≡ filter p l
  keep_filter [] = refl
  keep_filter (x ∷ l) = ap (λ (m : List A). cond (p x) (x ∷ m) m) (keep_filter l)

  pub place_position : (l : List A) → place_of p l ≡ position_or_len p l
  place_position l =
      is_position_or_len (place_of p) p refl (λ x m. ap (λ (n : ℕ). cond (p x) 0 n) (sym (one-add (place_of p m)))) l

  -- the place that the library finds
  pub found-place : (l : List A) (i : ℕ) → position p l ≡ Some i → (i ≡ place_of p l) × (i < length l)
  found-place l i h = rw (place_position l) (go (position_or_len p l) (nat_lt (position_or_len p l) (length l)) refl h)
    where
      go : (n : ℕ) (b : Bool) → nat_lt n (length l) ≡ b → cond b (Some n) None ≡ Some i → (i ≡ n) × (i < length l)
      go n true t e = let same : n ≡ i = cc in (sym same, omega (arith, ltb-true n (length l) t))
      go n false t e = cc

  pub found-first : (l : List A) (i : ℕ) (d : A) → position p l ≡ Some i → first p l ≡ some (get_or l i d)
  found-first l i d h =
      let at = found-place l i h in
      first-at p l ∙ ap (get_elem? l) (sym at.0) ∙ something_at l i d at.1

  pub missing-place : (l : List A) → position p l ≡ None → place_of p l ≡ length l
  missing-place l h = go (position_or_len p l) (nat_lt (position_or_len p l) (length l)) refl h (place_position l)
    where
      go : (n : ℕ) (b : Bool) → nat_lt n (length l) ≡ b → cond b (Some n) None ≡ None → place_of p l ≡ n → place_of p l ≡ length l
      go n true t e f = cc
      go n false t e f = omega (arith, ltb-false n (length l) t, place_le p l)

  pub missing-first : (l : List A) → position p l ≡ None → first p l ≡ none
  missing-first l h = first-at p l ∙ nothing-from l (place_of p l) (omega (arith, missing-place l h))
