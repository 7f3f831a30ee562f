-- What the definitions say of lists: which elements pass a test, the first that does, a row taken out or put in.
-- Rows are lists of words, and words are numbers.
use Rattle.std.specs.Prelude.{ℕ, zero, suc, ◌+◌, ◌-◌, Bool, true, false, cond, ◌&&◌, ◌||◌, List, [], ◌∷◌, ◌++◌, eqb, length, take, drop}
use Rattle.std.proofs.Math.Option.{Option, none, some}

-- a row of an address, a route or an event: its words
abbrev pub Row : Type 0
Row = List ℕ

module _ {A : Type 0} where
  -- every element passes
  abbrev pub all : (A → Bool) → List A → Bool
  all p [] = true
  all p (x ∷ l) = p x && all p l

  -- some element passes
  abbrev pub any : (A → Bool) → List A → Bool
  any p [] = false
  any p (x ∷ l) = p x || any p l

  -- the elements that pass, in order
  abbrev pub keep : (A → Bool) → List A → List A
  keep p [] = []
  keep p (x ∷ l) = cond (p x) (x ∷ keep p l) (keep p l)

  -- the first element that passes
  abbrev pub first : (A → Bool) → List A → Option A
  first p [] = none
  first p (x ∷ l) = cond (p x) (some x) (first p l)

  -- the elements before the first that passes
  abbrev pub until : (A → Bool) → List A → List A
  until p [] = []
  until p (x ∷ l) = cond (p x) [] (x ∷ until p l)

  -- that first one and all behind it
  abbrev pub onward : (A → Bool) → List A → List A
  onward p [] = []
  onward p (x ∷ l) = cond (p x) (x ∷ l) (onward p l)

  -- without the first that passes
  abbrev pub remove_first : (A → Bool) → List A → List A
  remove_first p [] = []
  remove_first p (x ∷ l) = cond (p x) l (x ∷ remove_first p l)

  -- with y in place of the first that passes
  abbrev pub replace_first : (A → Bool) → A → List A → List A
  replace_first p y [] = []
  replace_first p y (x ∷ l) = cond (p x) (y ∷ l) (x ∷ replace_first p y l)

  -- with y behind the last that passes, and at the front where none does
  abbrev pub behind_last : (A → Bool) → A → List A → List A
  behind_last p y [] = y ∷ []
  behind_last p y (x ∷ l) = cond (p x || any p l) (x ∷ behind_last p y l) (y ∷ x ∷ l)

  -- each element stands in the relation to every later one
  abbrev pub pairwise : (A → A → Bool) → List A → Bool
  pairwise r [] = true
  pairwise r (x ∷ l) = all (r x) l && pairwise r l

  -- the lists that the elements give, one after the other
  abbrev pub each : {B : Type 0} → (A → List B) → List A → List B
  each f [] = []
  each f (x ∷ l) = f x ++ each f l

-- two rows are the same words
abbrev pub eq_row : Row → Row → Bool
eq_row [] [] = true
eq_row [] (y ∷ m) = false
eq_row (x ∷ l) [] = false
eq_row (x ∷ l) (y ∷ m) = eqb x y && eq_row l m

-- the number is in the list
abbrev pub among : ℕ → List ℕ → Bool
among n l = any (eqb n) l

-- the rows' words, one row after the other
unfoldable pub flat : List Row → List ℕ
flat [] = []
flat (r ∷ l) = r ++ flat l

-- n words that are 0
unfoldable pub zeros : ℕ → List ℕ
zeros zero = []
zeros (suc n) = 0 ∷ zeros n

-- every word is 0
abbrev pub all_zero : List ℕ → Bool
all_zero l = all (eqb 0) l

-- l and as many zeros behind it as make n words
unfoldable pub pad : ℕ → List ℕ → List ℕ
pad n l = l ++ zeros (n - length l)

-- n words from the place at on
unfoldable pub span : ℕ → ℕ → List ℕ → List ℕ
span at n l = take n (drop at l)

-- l with the words vs from the place at on in place of as many of its own
unfoldable pub put : ℕ → List ℕ → List ℕ → List ℕ
put at vs l = take at l ++ (vs ++ drop (at + length vs) l)

-- n rows of k words from the start of l
unfoldable pub chop : ℕ → ℕ → List ℕ → List Row
chop k zero l = []
chop k (suc n) l = take k l ∷ chop k n (drop k l)
