-- Laws of what passes a test all through a list, and of what holds of all two in it.
-- Assumes nothing.
use Rattle.std.specs.Prelude.{ℕ, ◌≡◌, refl, Bool, true, false, not, ◌||◌, List, [], ◌∷◌, ◌++◌, map, eqb}
use Rattle.std.proofs.Common.{sym, eqb-true, eq-eqb}
use Rattle.std.proofs.Math.Option.{Option, some}
use Rattle.std.proofs.lemmas.Bool.{eqb-false}
use Rattle.lists.specs.Lists.{Row, all, any, keep, first, until, onward, remove_first, replace_first, behind_last, pairwise, eq_row, among}
use Rattle.lists.specs.Bools.{and_left, and_right, and_both, or-false, or_case, or_left, or_right, fails, not-both, not_so, true-false, cond-case}

-- ---- all
module _ {A : Type 0} where
  pub all_cons : (p : A → Bool) (x : A) (l : List A) → p x ≡ true → all p l ≡ true → all p (x ∷ l) ≡ true
  all_cons p x l g h = and_both (p x) (all p l) g h

  pub all_head : (p : A → Bool) (x : A) (l : List A) → all p (x ∷ l) ≡ true → p x ≡ true
  all_head p x l h = and_left (p x) (all p l) h

  pub all_tail : (p : A → Bool) (x : A) (l : List A) → all p (x ∷ l) ≡ true → all p l ≡ true
  all_tail p x l h = and_right (p x) (all p l) h

  pub all_append : (p : A → Bool) (l m : List A) → all p l ≡ true → all p m ≡ true → all p (l ++ m) ≡ true
  all_append p [] m g h = h
  all_append p (x ∷ l) m g h = all_cons p x (l ++ m) (all_head p x l g) (all_append p l m (all_tail p x l g) h)

  pub all-front : (p : A → Bool) (l m : List A) → all p (l ++ m) ≡ true → all p l ≡ true
  all-front p [] m h = refl
  all-front p (x ∷ l) m h = all_cons p x l (all_head p x (l ++ m) h) (all-front p l m (all_tail p x (l ++ m) h))

  pub all_back : (p : A → Bool) (l m : List A) → all p (l ++ m) ≡ true → all p m ≡ true
  all_back p [] m h = h
  all_back p (x ∷ l) m h = all_back p l m (all_tail p x (l ++ m) h)

  pub all_mono : (p q : A → Bool) (l : List A) → ((x : A) → p x ≡ true → q x ≡ true) → all p l ≡ true → all q l ≡ true
  all_mono p q [] f h = refl
  all_mono p q (x ∷ l) f h = all_cons q x l (f x (all_head p x l h)) (all_mono p q l f (all_tail p x l h))

  pub all_always : (p : A → Bool) (l : List A) → ((x : A) → p x ≡ true) → all p l ≡ true
  all_always p [] f = refl
  all_always p (x ∷ l) f = all_cons p x l (f x) (all_always p l f)

  -- two tests that pass all through give what both together give
  pub all_meet : (p q r : A → Bool) (l : List A) → ((x : A) → p x ≡ true → q x ≡ true → r x ≡ true) → all p l ≡ true → all q l ≡ true → all r l ≡ true
  all_meet p q r [] f g h = refl
  all_meet p q r (x ∷ l) f g h =
      all_cons r x l (f x (all_head p x l g) (all_head q x l h)) (all_meet p q r l f (all_tail p x l g) (all_tail q x l h))

  pub all_keep : (p q : A → Bool) (l : List A) → all p l ≡ true → all p (keep q l) ≡ true
  all_keep p q [] h = refl
  all_keep p q (x ∷ l) h =
      cond-case (λ (m : List A). all p m ≡ true) (q x)
      (λ e. all_cons p x (keep q l) (all_head p x l h) (all_keep p q l (all_tail p x l h)))
      (λ e. all_keep p q l (all_tail p x l h))

  pub all-kept : (q : A → Bool) (l : List A) → all q (keep q l) ≡ true
  all-kept q [] = refl
  all-kept q (x ∷ l) =
      cond-case (λ (m : List A). all q m ≡ true) (q x) (λ e. all_cons q x (keep q l) e (all-kept q l)) (λ e. all-kept q l)

  pub all_first : (p q : A → Bool) (l : List A) (y : A) → all p l ≡ true → first q l ≡ some y → p y ≡ true
  all_first p q [] y h e = cc
  all_first p q (x ∷ l) y h e =
      cond-case (λ (o : Option A). o ≡ some y → p y ≡ true) (q x)
      (λ c d. let same : x ≡ y = cc in rw same at (all_head p x l h))
      (λ c d. all_first p q l y (all_tail p x l h) d)
      e

  pub none_any : (p q : A → Bool) (l : List A) → ((x : A) → p x ≡ false → q x ≡ true) → any p l ≡ false → all q l ≡ true
  none_any p q [] f h = refl
  none_any p q (x ∷ l) f h =
      let k = or-false (p x) (any p l) h in
      all_cons q x l (f x k.0) (none_any p q l f k.1)

  pub any_mono : (p q : A → Bool) (l : List A) → ((x : A) → p x ≡ true → q x ≡ true) → any p l ≡ true → any q l ≡ true
  any_mono p q [] f h = h
  any_mono p q (x ∷ l) f h =
      or_case (p x) (any p l) h (λ e. or_left (q x) (any q l) (f x e)) (λ e. or_right (q x) (any q l) (any_mono p q l f e))

  pub any_none : (p q : A → Bool) (l : List A) → ((x : A) → q x ≡ true → p x ≡ true) → any p l ≡ false → any q l ≡ false
  any_none p q l f h = fails (any q l) (λ e. true-false (any p l) (any_mono q p l f e) h)

  pub all-remove_first : (p q : A → Bool) (l : List A) → all p l ≡ true → all p (remove_first q l) ≡ true
  all-remove_first p q [] h = refl
  all-remove_first p q (x ∷ l) h =
      cond-case (λ (m : List A). all p m ≡ true) (q x) (λ e. all_tail p x l h)
      (λ e. all_cons p x (remove_first q l) (all_head p x l h) (all-remove_first p q l (all_tail p x l h)))

  pub all-replace_first : (p q : A → Bool) (y : A) (l : List A) → p y ≡ true → all p l ≡ true → all p (replace_first q y l) ≡ true
  all-replace_first p q y [] g h = refl
  all-replace_first p q y (x ∷ l) g h =
      cond-case (λ (m : List A). all p m ≡ true) (q x) (λ e. all_cons p y l g (all_tail p x l h))
      (λ e. all_cons p x (replace_first q y l) (all_head p x l h) (all-replace_first p q y l g (all_tail p x l h)))

  pub all-behind_last : (p q : A → Bool) (y : A) (l : List A) → p y ≡ true → all p l ≡ true → all p (behind_last q y l) ≡ true
  all-behind_last p q y [] g h = all_cons p y [] g h
  all-behind_last p q y (x ∷ l) g h =
      cond-case (λ (m : List A). all p m ≡ true) (q x || any q l)
      (λ e. all_cons p x (behind_last q y l) (all_head p x l h) (all-behind_last p q y l g (all_tail p x l h)))
      (λ e. all_cons p y (x ∷ l) g h)

  pub all-until : (p q : A → Bool) (l : List A) → all p l ≡ true → all p (until q l) ≡ true
  all-until p q [] h = refl
  all-until p q (x ∷ l) h =
      cond-case (λ (m : List A). all p m ≡ true) (q x) (λ e. refl)
      (λ e. all_cons p x (until q l) (all_head p x l h) (all-until p q l (all_tail p x l h)))

  pub all-onward : (p q : A → Bool) (l : List A) → all p l ≡ true → all p (onward q l) ≡ true
  all-onward p q [] h = refl
  all-onward p q (x ∷ l) h =
      cond-case (λ (m : List A). all p m ≡ true) (q x) (λ e. h) (λ e. all-onward p q l (all_tail p x l h))

  pub all_map : {B : Type 0} (p : A → Bool) (q : B → Bool) (f : A → B) (l : List A) → ((x : A) → p x ≡ true → q (f x) ≡ true) → all p l ≡ true → all q (map f l) ≡ true
  all_map p q f [] g h = refl
  all_map p q f (x ∷ l) g h =
      and_both (q (f x)) (all q (map f l)) (g x (all_head p x l h)) (all_map p q f l g (all_tail p x l h))

  -- ---- pairwise
  pub pairwise-head : (r : A → A → Bool) (x : A) (l : List A) → pairwise r (x ∷ l) ≡ true → all (r x) l ≡ true
  pairwise-head r x l h = and_left (all (r x) l) (pairwise r l) h

  pub pairwise_tail : (r : A → A → Bool) (x : A) (l : List A) → pairwise r (x ∷ l) ≡ true → pairwise r l ≡ true
  pairwise_tail r x l h = and_right (all (r x) l) (pairwise r l) h

  pub pairwise_cons : (r : A → A → Bool) (x : A) (l : List A) → all (r x) l ≡ true → pairwise r l ≡ true → pairwise r (x ∷ l) ≡ true
  pairwise_cons r x l g h = and_both (all (r x) l) (pairwise r l) g h

  -- a list behind another, where each of the first stands in the relation to all of the second
  pub pairwise_append : (r : A → A → Bool) (l m : List A) → pairwise r l ≡ true → pairwise r m ≡ true → all (λ x. all (r x) m) l ≡ true → pairwise r (l ++ m) ≡ true
  pairwise_append r [] m g h k = h
  pairwise_append r (x ∷ l) m g h k =
      pairwise_cons r x (l ++ m) (all_append (r x) l m (pairwise-head r x l g) (all_head (λ x. all (r x) m) x l k))
      (pairwise_append r l m (pairwise_tail r x l g) h (all_tail (λ x. all (r x) m) x l k))

  pub pairwise-keep : (r : A → A → Bool) (q : A → Bool) (l : List A) → pairwise r l ≡ true → pairwise r (keep q l) ≡ true
  pairwise-keep r q [] h = refl
  pairwise-keep r q (x ∷ l) h =
      cond-case (λ (m : List A). pairwise r m ≡ true) (q x)
      (λ e. pairwise_cons r x (keep q l) (all_keep (r x) q l (pairwise-head r x l h)) (pairwise-keep r q l (pairwise_tail r x l h)))
      (λ e. pairwise-keep r q l (pairwise_tail r x l h))

  pub pairwise-remove_first : (r : A → A → Bool) (q : A → Bool) (l : List A) → pairwise r l ≡ true → pairwise r (remove_first q l) ≡ true
  pairwise-remove_first r q [] h = refl
  pairwise-remove_first r q (x ∷ l) h =
      cond-case (λ (m : List A). pairwise r m ≡ true) (q x) (λ e. pairwise_tail r x l h)
      (λ e. pairwise_cons r x (remove_first q l) (all-remove_first (r x) q l (pairwise-head r x l h)) (pairwise-remove_first r q l (pairwise_tail r x l h)))

  -- an element between those that pass one test and those that pass another
  pub pairwise_around : (r : A → A → Bool) (p q : A → Bool) (y : A) (l : List A) → ((x z : A) → p x ≡ true → q z ≡ true → r x z ≡ true)
      → all (λ x. r x y) (keep p l) ≡ true → all (r y) (keep q l) ≡ true → pairwise r l ≡ true → pairwise r (keep p l ++ (y ∷ keep q l)) ≡ true
  pairwise_around r p q y l f g h k =
      pairwise_append r (keep p l) (y ∷ keep q l) (pairwise-keep r p l k) (pairwise_cons r y (keep q l) h (pairwise-keep r q l k))
      (all_meet (λ x. r x y) p (λ x. all (r x) (y ∷ keep q l)) (keep p l)
      (λ x a b. all_cons (r x) y (keep q l) a (all_mono q (r x) (keep q l) (λ z c. f x z b c) (all-kept q l)))
      g (all-kept p l))

  -- an element in place of one that stood as it does to all others
  pub all_replaced : (p q : A → Bool) (y : A) (l : List A) → ((x : A) → q x ≡ true → p x ≡ true → p y ≡ true) → all p l ≡ true → all p (replace_first q y l) ≡ true
  all_replaced p q y [] f h = refl
  all_replaced p q y (x ∷ l) f h =
      cond-case (λ (m : List A). all p m ≡ true) (q x) (λ e. all_cons p y l (f x e (all_head p x l h)) (all_tail p x l h))
      (λ e. all_cons p x (replace_first q y l) (all_head p x l h) (all_replaced p q y l f (all_tail p x l h)))

  pub pairwise_replaced : (r : A → A → Bool) (q : A → Bool) (y : A) (l : List A) → ((x z : A) → q x ≡ true → r z x ≡ true → r z y ≡ true)
      → ((x z : A) → q x ≡ true → r x z ≡ true → r y z ≡ true) → pairwise r l ≡ true → pairwise r (replace_first q y l) ≡ true
  pairwise_replaced r q y [] f g h = refl
  pairwise_replaced r q y (x ∷ l) f g h =
      cond-case (λ (m : List A). pairwise r m ≡ true) (q x)
      (λ e. pairwise_cons r y l (all_mono (r x) (r y) l (λ z k. g x z e k) (pairwise-head r x l h)) (pairwise_tail r x l h))
      (λ e. pairwise_cons r x (replace_first q y l) (all_replaced (r x) q y l (λ z c k. f z x c k) (pairwise-head r x l h))
      (pairwise_replaced r q y l f g (pairwise_tail r x l h)))

  -- an element in place of another, itself in the relation to all
  pub pairwise-replacing : (r : A → A → Bool) (q : A → Bool) (y : A) (l : List A) → all (λ x. r x y) l ≡ true → all (r y) l ≡ true
      → pairwise r l ≡ true → pairwise r (replace_first q y l) ≡ true
  pairwise-replacing r q y [] f g h = refl
  pairwise-replacing r q y (x ∷ l) f g h =
      cond-case (λ (m : List A). pairwise r m ≡ true) (q x)
      (λ e. pairwise_cons r y l (all_tail (r y) x l g) (pairwise_tail r x l h))
      (λ e. pairwise_cons r x (replace_first q y l) (all-replace_first (r x) q y l (all_head (λ x. r x y) x l f) (pairwise-head r x l h))
      (pairwise-replacing r q y l (all_tail (λ x. r x y) x l f) (all_tail (r y) x l g) (pairwise_tail r x l h)))

-- ---- equal rows
pub eq_row-refl : (a : Row) → eq_row a a ≡ true
eq_row-refl [] = refl
eq_row-refl (x ∷ a) = and_both (eqb x x) (eq_row a a) (eq-eqb x x refl) (eq_row-refl a)

pub eq_row-true : (a b : Row) → eq_row a b ≡ true → a ≡ b
eq_row-true [] [] h = refl
eq_row-true [] (y ∷ b) h = cc
eq_row-true (x ∷ a) [] h = cc
eq_row-true (x ∷ a) (y ∷ b) h =
    let d : x ≡ y = eqb-true x y (and_left (eqb x y) (eq_row a b) h) in
    let e : a ≡ b = eq_row-true a b (and_right (eqb x y) (eq_row a b) h) in
    cc

pub eq_eq_row : (a b : Row) → a ≡ b → eq_row a b ≡ true
eq_eq_row a b e = rw e (eq_row-refl b)

pub ne_eq_row : (a b : Row) → (a ≡ b → ⊥) → not (eq_row a b) ≡ true
ne_eq_row a b f = not_so (eq_row a b) (λ e. f (eq_row-true a b e))

pub eq_row-sym : (a b : Row) → not (eq_row a b) ≡ true → not (eq_row b a) ≡ true
eq_row-sym a b h = ne_eq_row b a (λ e. not-both (eq_row a b) (eq_eq_row a b (sym e)) h)

-- ---- numbers listed
pub not-among : (n : ℕ) (l : List ℕ) → among n l ≡ false → all (λ m. not (eqb m n)) l ≡ true
not-among n l h =
    none_any (eqb n) (λ m. not (eqb m n)) l
    (λ m e. not_so (eqb m n) (λ d. eqb-false n m e (sym (eqb-true m n d)))) h
