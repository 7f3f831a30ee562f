-- A list cut where a test stops passing, and what tests say of a part and of the whole.
-- Assumes nothing.
use Rattle.std.specs.Prelude.{ℕ, zero, suc, ◌+◌, ◌<◌, ◌≤◌, ◌≡◌, refl, Bool, true, false, ◌||◌, ◌&&◌, List, [], ◌∷◌, ◌++◌, get_or, ltb, eqb}
use Rattle.std.proofs.Common.{sym, ◌∙◌, arith, add-one, take-append-drop, take-suc, lt-ltb, le-ltb}
use Rattle.std.proofs.Math.Path.{ap}
use Rattle.std.proofs.Math.Bool.{not, or-false}
use Rattle.std.proofs.Math.ListN.{length, take, drop}
use Rattle.std.proofs.Math.Seq.{take_at, drop_at}
use Rattle.lists.specs.Lists.{all, any, keep, pairwise, among}
use Rattle.lists.specs.Bools.{test-case, fails}
use Rattle.lists.specs.All.{all_append, all_cons, pairwise_tail}
use Rattle.lists.specs.At.{insert_at}
use Rattle.lists.specs.Count.{tick, count, count_append, count-pair, count-apart, length-keep, any-count, count-zero}

module _ {A : Type 0} where
  pub any-joined : (p : A → Bool) (l m : List A) → any p (l ++ m) ≡ (any p l || any p m)
  any-joined p [] m = refl
  any-joined p (x ∷ l) m = test-case (p x) (λ e. rw e) (λ e. rw (e, any-joined p l m))

  pub pairwise_drop : (r : A → A → Bool) (i : ℕ) (l : List A) → pairwise r l ≡ true → pairwise r (drop i l) ≡ true
  pairwise_drop r zero l h = h
  pairwise_drop r (suc i) [] h = h
  pairwise_drop r (suc i) (x ∷ l) h = pairwise_drop r i l (pairwise_tail r x l h)

  -- ---- counts
  pub count-all : (p : A → Bool) (l : List A) → all p l ≡ true → count p l ≡ length l
  count-all p l h = omega (arith, count-pair p l, count-apart p (λ x. not (p x)) l (λ x e. ap not e) h)

  pub count_cut : (p : A → Bool) (l : List A) (i : ℕ) → count p l ≡ count p (take i l) + count p (drop i l)
  count_cut p l i = ap (count p) (sym (take-append-drop i l)) ∙ count_append p (take i l) (drop i l)

  pub count-part : (p : A → Bool) (l : List A) (i : ℕ) → count p (take i l) ≤ count p l
  count-part p l i = omega (arith, count_cut p l i)

  pub count-insert_at : (p : A → Bool) (i : ℕ) (x : A) (l : List A) → count p (insert_at i x l) ≡ count p l + tick (p x)
  unfolding insert_at
  count-insert_at p i x l = omega (arith, count_cut p l i, count_append p (take i l) (x ∷ drop i l))

  -- a test that is one of two, never both
  pub count_sum : (p q r : A → Bool) (l : List A) → ((x : A) → tick (r x) ≡ tick (p x) + tick (q x)) → count r l ≡ count p l + count q l
  count_sum p q r [] f = refl
  count_sum p q r (x ∷ l) f = omega (arith, f x, count_sum p q r l f)

  pub any-ltb : (p : A → Bool) (l : List A) (m n : ℕ) → n ≡ m + count p l → any p l ≡ ltb m n
  any-ltb p l m n h =
      test-case (any p l) (λ e. e ∙ sym (lt-ltb m n (omega (arith, any-count p l e)))) (λ e. e ∙ sym (le-ltb m n (omega (arith, count-zero p l e))))

  -- where none passes p that passes q, all that pass q
  pub any-apart : (p q : A → Bool) (l : List A) → ((x : A) → p x ≡ true → q x ≡ false) → all p l ≡ true → any q l ≡ false
  any-apart p q l f h = fails (any q l) (λ e. omega (arith, any-count q l e, count-apart p q l f h))

  -- ---- one element more
  module _ (l : List A) (i : ℕ) (d : A) (h : i < length l) where
    pub take_more : take (i + 1) l ≡ take i l ++ (get_or l i d ∷ [])
    take_more = rw add-one (take-suc l i d h)

    pub count-more : (p : A → Bool) → count p (take (i + 1) l) ≡ count p (take i l) + tick (p (get_or l i d))
    count-more p = ap (count p) take_more ∙ omega (arith, count_append p (take i l) (get_or l i d ∷ []))

    pub all_more : (p : A → Bool) → all p (take i l) ≡ true → p (get_or l i d) ≡ true → all p (take (i + 1) l) ≡ true
    all_more p g k = ap (all p) take_more ∙ all_append p (take i l) (get_or l i d ∷ []) g (all_cons p (get_or l i d) [] k refl)

    pub any-more : (p : A → Bool) → any p (take (i + 1) l) ≡ (any p (take i l) || p (get_or l i d))
    any-more p =
        ap (any p) take_more ∙ any-joined p (take i l) (get_or l i d ∷ []) ∙ test-case (p (get_or l i d)) (λ e. rw e) (λ e. rw e)

  -- ---- an element between those that pass and those that don't, which all stand behind them
  pub around_at : (p : A → Bool) (y : A) (l : List A) → keep p l ++ keep (λ x. not (p x)) l ≡ l
      → insert_at (count p l) y l ≡ keep p l ++ (y ∷ keep (λ x. not (p x)) l)
  unfolding insert_at
  around_at p y l h =
      let long : length (keep p l) ≡ count p l = length-keep p l in
      let front : take (count p l) l ≡ keep p l = ap (take (count p l)) (sym h) ∙ take_at (keep p l) (keep (λ x. not (p x)) l) (count p l) long in
      let back : drop (count p l) l ≡ keep (λ x. not (p x)) l = ap (drop (count p l)) (sym h) ∙ drop_at (keep p l) (keep (λ x. not (p x)) l) (count p l) long in
      rw (front, back)

-- a number more at the end
pub among-more : (n t : ℕ) (l : List ℕ) → among n (l ++ (t ∷ [])) ≡ (among n l || eqb n t)
among-more n t l = any-joined (eqb n) l (t ∷ []) ∙ ap (λ (b : Bool). among n l || b) (or-false (eqb n t))

-- none is x where x is not among them
pub all-other : (x : ℕ) (l : List ℕ) → all (λ b. not (eqb x b)) l ≡ not (among x l)
all-other x [] = refl
all-other x (y ∷ l) = ap (λ (b : Bool). not (eqb x y) && b) (all-other x l) ∙ either (eqb x y) (among x l)
  where
    either : (a b : Bool) → not a && not b ≡ not (a || b)
    either true b = refl
    either false b = refl
