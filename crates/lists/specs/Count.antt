-- How many elements of a list pass a test, and how long the lists are that the definitions make.
-- Assumes nothing.
use Rattle.std.specs.Prelude.{ℕ, suc, ◌+◌, ◌≤◌, ◌<◌, ◌≡◌, refl, Bool, true, false, cond, not, ◌||◌, eqb, length}
use Rattle.std.proofs.Common.{sym, ap, ◌∙◌, arith, eqb-true, eq-eqb, length-append}
use mathlib.Core.List.{List, [], ◌∷◌, ◌++◌, map, reverse, reverse_aux}
use Rattle.std.proofs.Math.Option.{Option, some}
use Rattle.lists.specs.Lists.{Row, all, any, keep, first, until, onward, remove_first, replace_first, behind_last, pairwise, each, eq_row}
use Rattle.lists.specs.Bools.{not-both, fails, cond-case, test-case, true-false, or_case, or-false, or_left, or_right}
use Rattle.lists.specs.All.{all_append, pairwise-head, pairwise_tail, all-kept, all_head, all_tail, eq_row-true, eq_eq_row, eq_row-refl}

-- 1 where a test passes
abbrev pub tick : Bool → ℕ
tick b = cond b 1 0

pub tick-one : (b : Bool) → b ≡ true → tick b ≡ 1
tick-one b h = ap tick h

pub tick-none : (b : Bool) → b ≡ false → tick b ≡ 0
tick-none b h = ap tick h

pub tick-most : (b : Bool) → tick b ≤ 1
tick-most b = cond-case (λ (n : ℕ). n ≤ 1) b (λ e. omega arith) (λ e. omega arith)

module _ {A : Type 0} where
  abbrev pub count : (A → Bool) → List A → ℕ
  count p [] = 0
  count p (x ∷ l) = tick (p x) + count p l

  pub count-one : (p : A → Bool) (x : A) (l : List A) → p x ≡ true → count p (x ∷ l) ≡ suc (count p l)
  count-one p x l h = omega (arith, tick-one (p x) h)

  pub count_none : (p : A → Bool) (x : A) (l : List A) → p x ≡ false → count p (x ∷ l) ≡ count p l
  count_none p x l h = omega (arith, tick-none (p x) h)

  pub length-keep : (p : A → Bool) (l : List A) → length (keep p l) ≡ count p l
  length-keep p [] = refl
  length-keep p (x ∷ l) =
      cond-case (λ (m : List A). length m ≡ count p (x ∷ l)) (p x)
      (λ e. omega (arith, length-keep p l, count-one p x l e)) (λ e. omega (arith, length-keep p l, count_none p x l e))

  pub count_most : (p : A → Bool) (l : List A) → count p l ≤ length l
  count_most p [] = omega arith
  count_most p (x ∷ l) = omega (arith, count_most p l, tick-most (p x))

  pub length-keep-most : (p : A → Bool) (l : List A) → length (keep p l) ≤ length l
  length-keep-most p l = omega (arith, length-keep p l, count_most p l)

  pub count_append : (p : A → Bool) (l m : List A) → count p (l ++ m) ≡ count p l + count p m
  count_append p [] m = omega arith
  count_append p (x ∷ l) m = omega (arith, count_append p l m)

  pub count-pair : (p : A → Bool) (l : List A) → count p l + count (λ x. not (p x)) l ≡ length l
  count-pair p [] = omega arith
  count-pair p (x ∷ l) =
      test-case (p x)
      (λ e. omega (arith, count-pair p l, tick-one (p x) e, tick-none (not (p x)) (ap not e)))
      (λ e. omega (arith, count-pair p l, tick-none (p x) e, tick-one (not (p x)) (ap not e)))

  pub count-any : (p : A → Bool) (l : List A) → 0 < count p l → any p l ≡ true
  count-any p [] h = absurd (omega arith)
  count-any p (x ∷ l) h =
      test-case (p x) (λ e. or_left (p x) (any p l) e)
      (λ e. or_right (p x) (any p l) (count-any p l (omega (arith, tick-none (p x) e))))

  pub any-count : (p : A → Bool) (l : List A) → any p l ≡ true → 0 < count p l
  any-count p [] h = let z : ◌≡◌ {A = ℕ} 0 1 = cc in omega arith
  any-count p (x ∷ l) h =
      or_case (p x) (any p l) h (λ e. omega (arith, tick-one (p x) e)) (λ e. omega (arith, any-count p l e))

  pub count-zero : (p : A → Bool) (l : List A) → any p l ≡ false → count p l ≡ 0
  count-zero p [] h = refl
  count-zero p (x ∷ l) h = let k = or-false (p x) (any p l) h in omega (arith, tick-none (p x) k.0, count-zero p l k.1)

  -- ---- keep and the first that passes
  pub count-keep : (p q : A → Bool) (l : List A) → count p (keep q l) ≤ count p l
  count-keep p q [] = omega arith
  count-keep p q (x ∷ l) =
      cond-case (λ (m : List A). count p m ≤ count p (x ∷ l)) (q x) (λ e. omega (arith, count-keep p q l)) (λ e. omega (arith, count-keep p q l))

  pub count-remove_first : (p q : A → Bool) (l : List A) → count p (remove_first q l) ≤ count p l
  count-remove_first p q [] = omega arith
  count-remove_first p q (x ∷ l) =
      cond-case (λ (m : List A). count p m ≤ count p (x ∷ l)) (q x) (λ e. omega arith) (λ e. omega (arith, count-remove_first p q l))

  pub length-remove_first : (q : A → Bool) (l : List A) → any q l ≡ true → suc (length (remove_first q l)) ≡ length l
  length-remove_first q [] h = let z : ◌≡◌ {A = ℕ} 0 1 = cc in omega arith
  length-remove_first q (x ∷ l) h =
      cond-case (λ (m : List A). suc (length m) ≡ suc (length l)) (q x) (λ e. refl)
      (λ e. ap suc (length-remove_first q l (or_case (q x) (any q l) h (λ d. absurd (true-false (q x) d e)) (λ d. d))))

  pub length-remove_first-most : (q : A → Bool) (l : List A) → length (remove_first q l) ≤ length l
  length-remove_first-most q [] = omega arith
  length-remove_first-most q (x ∷ l) =
      cond-case (λ (m : List A). length m ≤ suc (length l)) (q x) (λ e. omega arith) (λ e. omega (arith, length-remove_first-most q l))

  pub length-replace_first : (q : A → Bool) (y : A) (l : List A) → length (replace_first q y l) ≡ length l
  length-replace_first q y [] = refl
  length-replace_first q y (x ∷ l) =
      cond-case (λ (m : List A). length m ≡ suc (length l)) (q x) (λ e. refl) (λ e. ap suc (length-replace_first q y l))

  pub length-behind_last : (q : A → Bool) (y : A) (l : List A) → length (behind_last q y l) ≡ suc (length l)
  length-behind_last q y [] = refl
  length-behind_last q y (x ∷ l) =
      cond-case (λ (m : List A). length m ≡ suc (suc (length l))) (q x || any q l) (λ e. ap suc (length-behind_last q y l)) (λ e. refl)

  -- an element between those that pass and those that don't
  pub length_around : (p : A → Bool) (y : A) (l : List A) → length (keep p l ++ (y ∷ keep (λ x. not (p x)) l)) ≡ suc (length l)
  length_around p y l =
      omega (arith, length-append (keep p l) (y ∷ keep (λ x. not (p x)) l), length-keep p l, length-keep (λ x. not (p x)) l, count-pair p l)

  pub length_around_not : (p : A → Bool) (y : A) (l : List A) → length (keep (λ x. not (p x)) l ++ (y ∷ keep p l)) ≡ suc (length l)
  length_around_not p y l =
      omega (arith, length-append (keep (λ x. not (p x)) l) (y ∷ keep p l), length-keep p l, length-keep (λ x. not (p x)) l, count-pair p l)

  pub first_any : (p : A → Bool) (l : List A) (y : A) → first p l ≡ some y → any p l ≡ true
  first_any p [] y e = cc
  first_any p (x ∷ l) y e =
      test-case (p x) (λ c. or_left (p x) (any p l) c)
      (λ c. or_right (p x) (any p l) (first_any p l y (sym (ap (λ (b : Bool). cond b (some x) (first p l)) c) ∙ e)))

  -- ---- until and onward
  pub until-onward : (p : A → Bool) (l : List A) → until p l ++ onward p l ≡ l
  until-onward p [] = refl
  until-onward p (x ∷ l) = go (p x) (until-onward p l)
    where
      go : (b : Bool) → until p l ++ onward p l ≡ l → cond b [] (x ∷ until p l) ++ cond b (x ∷ l) (onward p l) ≡ x ∷ l
      go true e = refl
      go false e = ap (λ (m : List A). x ∷ m) e

  -- where all pass one test that excludes another
  pub count-apart : (p q : A → Bool) (l : List A) → ((x : A) → p x ≡ true → q x ≡ false) → all p l ≡ true → count q l ≡ 0
  count-apart p q [] f h = refl
  count-apart p q (x ∷ l) f h =
      omega (arith, tick-none (q x) (f x (all_head p x l h)), count-apart p q l f (all_tail p x l h))

-- each element that becomes another: what passes then and what is counted, within what passed before
pub count_map : {A B : Type 0} (s q r : A → Bool) (p : B → Bool) (f : A → B) (l : List A) → ((x : A) → s x ≡ true → tick (p (f x)) + tick (q x) ≤ tick (r x))
    → all s l ≡ true → count p (map f l) + count q l ≤ count r l
count_map s q r p f [] g h = omega arith
count_map s q r p f (x ∷ l) g h =
    omega (arith, g x (all_head s x l h), count_map s q r p f l g (all_tail s x l h))

pub any-back : {A : Type 0} (p : A → Bool) (l m : List A) → any p m ≡ true → any p (l ++ m) ≡ true
any-back p [] m h = h
any-back p (x ∷ l) m h = or_right (p x) (any p (l ++ m)) (any-back p l m h)

-- ---- rows that one list has as often as another at least
abbrev pub times : Row → List Row → ℕ
times x l = count (eq_row x) l

pub record Within (gone l : List Row) : Type 0 where
  pub often : (x : Row) → times x gone ≤ times x l

-- one row less
pub times-less : (y x : Row) (l : List Row) → times y l ≤ times y (remove_first (eq_row x) l) + tick (eq_row y x)
times-less y x [] = omega arith
times-less y x (z ∷ l) =
    cond-case (λ (m : List Row). times y (z ∷ l) ≤ times y m + tick (eq_row y x)) (eq_row x z)
    (λ e. let same : tick (eq_row y z) ≡ tick (eq_row y x) = ap (λ (r : Row). tick (eq_row y r)) (sym (eq_row-true x z e)) in omega arith)
    (λ e. omega (arith, times-less y x l))

pub within_first : (x : Row) (gone l : List Row) → Within (x ∷ gone) l → any (eq_row x) l ≡ true
within_first x gone l w = count-any (eq_row x) l (omega (arith, w.often x, tick-one (eq_row x x) (eq_row-refl x)))

pub within-rest : (x : Row) (gone l : List Row) → Within (x ∷ gone) l → Within gone (remove_first (eq_row x) l)
within-rest x gone l w = record { often = λ y. omega (arith, w.often y, times-less y x l) }

pub within-one : (a : Row) (l : List Row) → any (eq_row a) l ≡ true → Within (a ∷ []) l
within-one a l h =
    record {
      often = λ y.
          test-case (eq_row y a)
          (λ e. let here : 0 < times y l = rw (eq_row-true y a e) (any-count (eq_row a) l h) in omega (arith, tick-most (eq_row y a)))
          (λ e. omega (arith, tick-none (eq_row y a) e));
    }

-- those that pass a test, and one that doesn't
pub within-keep : (p : Row → Bool) (a : Row) (l : List Row) → p a ≡ false → any (eq_row a) l ≡ true → Within (keep p l ++ (a ∷ [])) l
within-keep p a l n h =
    record {
      often = λ y.
          let parts : times y (keep p l ++ (a ∷ [])) ≡ times y (keep p l) + times y (a ∷ []) = count_append (eq_row y) (keep p l) (a ∷ []) in
          test-case (eq_row y a)
          (λ e.
          let here : 0 < times y l = rw (eq_row-true y a e) (any-count (eq_row a) l h) in
          let gone : times y (keep p l) ≡ 0 =
          count-apart p (eq_row y) (keep p l)
          (λ x k. fails (eq_row y x) (λ d. true-false (p x) k (ap p (sym (eq_row-true y x d) ∙ eq_row-true y a e) ∙ n)))
          (all-kept p l)
          in
          omega (arith, tick-most (eq_row y a)))
          (λ e. omega (arith, count-keep (eq_row y) p l, tick-none (eq_row y a) e));
    }

-- the first that passes stands in the list, and in what stands from it onward
pub first-there : (p : Row → Bool) (l : List Row) (a : Row) → first p l ≡ some a → any (eq_row a) l ≡ true
first-there p [] a e = cc
first-there p (x ∷ l) a e =
    cond-case (λ (o : Option Row). o ≡ some a → eq_row a x || any (eq_row a) l ≡ true) (p x)
    (λ c d. let same : a ≡ x = cc in or_left (eq_row a x) (any (eq_row a) l) (eq_eq_row a x same))
    (λ c d. or_right (eq_row a x) (any (eq_row a) l) (first-there p l a d))
    e

pub onward-first : (p : Row → Bool) (l : List Row) (a : Row) → first p l ≡ some a → any (eq_row a) (onward p l) ≡ true
onward-first p [] a e = cc
onward-first p (x ∷ l) a e = go (p x) e (onward-first p l a)
  where
    go : (b : Bool) → cond b (some x) (first p l) ≡ some a → (first p l ≡ some a → any (eq_row a) (onward p l) ≡ true) → any (eq_row a) (cond b (x ∷ l) (onward p l)) ≡ true
    go true d ih = let same : a ≡ x = cc in or_left (eq_row a x) (any (eq_row a) l) (eq_eq_row a x same)
    go false d ih = ih d

-- ---- lists put together, one for each element
pub all-each : {A B : Type 0} (p : B → Bool) (f : A → List B) (l : List A) → ((x : A) → all p (f x) ≡ true) → all p (each f l) ≡ true
all-each p f [] h = refl
all-each p f (x ∷ l) h = all_append p (f x) (each f l) (h x) (all-each p f l h)

pub count-each : {A B : Type 0} (p : B → Bool) (q : A → Bool) (f : A → List B) (l : List A) → ((x : A) → count p (f x) ≤ tick (q x)) → count p (each f l) ≤ count q l
count-each p q f [] h = omega arith
count-each p q f (x ∷ l) h = omega (arith, h x, count-each p q f l h, count_append p (f x) (each f l))

count-reverse_aux : {A : Type 0} (p : A → Bool) (l m : List A) → count p (reverse_aux l m) ≡ count p l + count p m
count-reverse_aux p [] m = omega arith
count-reverse_aux p (x ∷ l) m = omega (arith, count-reverse_aux p l (x ∷ m))

pub count-reverse : {A : Type 0} (p : A → Bool) (l : List A) → count p (reverse l) ≡ count p l
count-reverse p l = omega (arith, count-reverse_aux p l [])

-- no number twice
pub record Once (l : List ℕ) : Type 0 where
  pub once : (n : ℕ) → count (eqb n) l ≤ 1

pub pairwise-once : (l : List ℕ) → pairwise (λ a b. not (eqb a b)) l ≡ true → Once l
pairwise-once [] h = record { once = λ n. omega arith }
pairwise-once (x ∷ l) h =
    record {
      once = λ n.
          test-case (eqb n x)
          (λ e.
          let others : count (eqb n) l ≡ 0 =
          count-apart (λ b. not (eqb x b)) (eqb n) l
          (λ b k. fails (eqb n b) (λ d. not-both (eqb x b) (eq-eqb x b (sym (eqb-true n x e) ∙ eqb-true n b d)) k))
          (pairwise-head (λ a b. not (eqb a b)) x l h)
          in
          omega (arith, tick-most (eqb n x)))
          (λ e. omega (arith, tick-none (eqb n x) e, (pairwise-once l (pairwise_tail (λ a b. not (eqb a b)) x l h)).once n));
    }

-- for each of some numbers the elements that have it
picked_cons : {A : Type 0} (g : A → ℕ) (x : A) (rows : List A) (l : List ℕ)
    → length (each (λ t. keep (λ r. eqb (g r) t) (x ∷ rows)) l) ≡ count (eqb (g x)) l + length (each (λ t. keep (λ r. eqb (g r) t) rows) l)
picked_cons g x rows [] = omega arith
picked_cons g x rows (t ∷ l) =
    omega (
      arith,
      picked_cons g x rows l,
      length-append (keep (λ r. eqb (g r) t) (x ∷ rows)) (each (λ t. keep (λ r. eqb (g r) t) (x ∷ rows)) l),
      length-append (keep (λ r. eqb (g r) t) rows) (each (λ t. keep (λ r. eqb (g r) t) rows) l),
      length-keep (λ r. eqb (g r) t) (x ∷ rows),
      length-keep (λ r. eqb (g r) t) rows,
    )

picked_none : {A : Type 0} (g : A → ℕ) (l : List ℕ) → length (each {A = ℕ} {B = A} (λ t. keep (λ r. eqb (g r) t) []) l) ≡ 0
picked_none g [] = refl
picked_none g (t ∷ l) = picked_none g l

pub length-picked : {A : Type 0} (g : A → ℕ) (rows : List A) (l : List ℕ) → Once l → length (each (λ t. keep (λ r. eqb (g r) t) rows) l) ≤ length rows
length-picked g [] l o = omega (arith, picked_none g l)
length-picked g (x ∷ rows) l o = omega (arith, picked_cons g x rows l, length-picked g rows l o, o.once (g x))
