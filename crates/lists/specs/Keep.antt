-- What the tests on lists have to do with one another: a part of a list that a test keeps, and another test, or a search, on that part.
use Rattle.std.specs.Prelude.{◌≡◌, refl, Bool, true, false, not, ◌&&◌}
use Rattle.std.proofs.Common.{sym, ◌∙◌, ap, true≢false}
use mathlib.Core.List.{List, [], ◌∷◌, ◌++◌, reverse, reverse_aux, append_assoc}
use Rattle.lists.specs.Lists.{all, any, keep, first, remove_first, replace_first, pairwise, each}
use Rattle.lists.specs.Bools.{and_left, and_right, test-case, contrary}
use Rattle.lists.specs.All.{all_head, all_tail, all_cons}

-- every element that passes p passes q
abbrev pub Implies : {A : Type 0} → (A → Bool) → (A → Bool) → Type 0
Implies {A} p q = (x : A) → p x ≡ true → q x ≡ true

-- ---- what is kept
module _ {A : Type 0} where
  pub keep-false : (p : A → Bool) (x : A) (l : List A) → p x ≡ false → keep p (x ∷ l) ≡ keep p l
  keep-false p x l e = rw e

  pub keep_append : (p : A → Bool) (l m : List A) → keep p (l ++ m) ≡ keep p l ++ keep p m
  keep_append p [] m = refl
  keep_append p (x ∷ l) m =
      test-case (p x) (λ e. rw (e, keep_append p l m)) (λ e. rw (e, keep_append p l m))

  pub keep-each : {B : Type 0} (p : A → Bool) (f : B → List A) (l : List B) → keep p (each f l) ≡ each (λ x. keep p (f x)) l
  keep-each p f [] = refl
  keep-each p f (x ∷ l) = keep_append p (f x) (each f l) ∙ ap (λ m. keep p (f x) ++ m) (keep-each p f l)

  pub keep-reverse : (p : A → Bool) (l : List A) → keep p (reverse l) ≡ reverse (keep p l)
  keep-reverse p l = go l []
    where
      go : (l m : List A) → keep p (reverse_aux l m) ≡ reverse_aux (keep p l) (keep p m)
      go [] m = refl
      go (x ∷ l) m = go l (x ∷ m) ∙ test-case (p x) (λ e. rw e) (λ e. rw e)

  pub all-reverse : (p : A → Bool) (l : List A) → all p l ≡ true → all p (reverse l) ≡ true
  all-reverse p l h = go l [] h refl
    where
      go : (l m : List A) → all p l ≡ true → all p m ≡ true → all p (reverse_aux l m) ≡ true
      go [] m h k = k
      go (x ∷ l) m h k = go l (x ∷ m) (all_tail p x l h) (all_cons p x m (all_head p x l h) k)

  pub all-joined : (p : A → Bool) (l m : List A) → all p (l ++ m) ≡ (all p l && all p m)
  all-joined p [] m = refl
  all-joined p (x ∷ l) m = test-case (p x) (λ e. rw (e, all-joined p l m)) (λ e. rw e)

  pub keep-keep : (p q : A → Bool) (l : List A) → keep p (keep q l) ≡ keep q (keep p l)
  keep-keep p q [] = refl
  keep-keep p q (x ∷ l) =
      test-case (p x)
      (λ e. test-case (q x) (λ f. rw (f, e, f, keep-keep p q l)) (λ f. rw (f, e, f, keep-keep p q l)))
      (λ e. test-case (q x) (λ f. rw (f, e, keep-keep p q l)) (λ f. rw (f, e, keep-keep p q l)))

  -- where none passes
  pub keep-nothing : (p : A → Bool) (l : List A) → any p l ≡ false → keep p l ≡ []
  keep-nothing p [] e = refl
  keep-nothing p (x ∷ l) e = test-case (p x) (λ f. absurd (true≢false (rw f at e))) (λ f. rw f (keep-nothing p l (rw f at e)))

  -- where none that passes p passes q
  pub keep-none : (p q : A → Bool) → ((x : A) → p x ≡ true → q x ≡ false) → (l : List A) → keep p (keep q l) ≡ []
  keep-none p q i [] = refl
  keep-none p q i (x ∷ l) =
      test-case (p x) (λ e. rw (i x e) (keep-none p q i l))
      (λ e. test-case (q x) (λ f. rw (f, e) (keep-none p q i l)) (λ f. rw f (keep-none p q i l)))

  -- elements for which f gives nothing may go
  pub each_keep : {B : Type 0} (f : A → List B) (q : A → Bool) → ((x : A) → q x ≡ false → f x ≡ []) → (l : List A) → each f (keep q l) ≡ each f l
  each_keep f q i [] = refl
  each_keep f q i (x ∷ l) =
      test-case (q x) (λ e. rw (e, each_keep f q i l)) (λ e. rw (e, i x e) (each_keep f q i l))

  -- the same are kept by tests that agree
  pub keep_same : (p q : A → Bool) (l : List A) → ((x : A) → p x ≡ q x) → keep p l ≡ keep q l
  keep_same p q [] h = refl
  keep_same p q (x ∷ l) h = rw (h x, keep_same p q l h)

  pub each_append : {B : Type 0} (f : A → List B) (l m : List A) → each f (l ++ m) ≡ each f l ++ each f m
  each_append f [] m = refl
  each_append f (x ∷ l) m = ap (λ k. f x ++ k) (each_append f l m) ∙ sym (append_assoc (f x) (each f l) (each f m))

  pub each_same : {B : Type 0} (f g : A → List B) → ((x : A) → f x ≡ g x) → (l : List A) → each f l ≡ each g l
  each_same f g i [] = refl
  each_same f g i (x ∷ l) = rw (i x, each_same f g i l)

  -- ---- a test that only elements kept by q pass
  module _ (p q : A → Bool) (i : Implies p q) where
    pub keep-within : (l : List A) → keep p (keep q l) ≡ keep p l
    keep-within [] = refl
    keep-within (x ∷ l) =
        test-case (p x) (λ e. rw (i x e, e, keep-within l))
        (λ e. test-case (q x) (λ f. rw (f, e) (keep-within l)) (λ f. rw (f, e) (keep-within l)))

    pub any-within : (l : List A) → any p (keep q l) ≡ any p l
    any-within [] = refl
    any-within (x ∷ l) =
        test-case (p x) (λ e. rw (i x e, e))
        (λ e. test-case (q x) (λ f. rw (f, e) (any-within l)) (λ f. rw (f, e) (any-within l)))

    pub first-within : (l : List A) → first p (keep q l) ≡ first p l
    first-within [] = refl
    first-within (x ∷ l) =
        test-case (p x) (λ e. rw (i x e, e))
        (λ e. test-case (q x) (λ f. rw (f, e) (first-within l)) (λ f. rw (f, e) (first-within l)))

    pub remove_first-within : (l : List A) → remove_first p (keep q l) ≡ keep q (remove_first p l)
    remove_first-within [] = refl
    remove_first-within (x ∷ l) =
        test-case (p x) (λ e. rw (i x e, e))
        (λ e. test-case (q x) (λ f. rw (f, e, f, remove_first-within l)) (λ f. rw (f, e, f) (remove_first-within l)))

    pub replace_first-within : (y : A) → q y ≡ true → (l : List A) → replace_first p y (keep q l) ≡ keep q (replace_first p y l)
    replace_first-within y k [] = refl
    replace_first-within y k (x ∷ l) =
        test-case (p x) (λ e. rw (i x e, e, k))
        (λ e. test-case (q x) (λ f. rw (f, e, f, replace_first-within y k l)) (λ f. rw (f, e, f) (replace_first-within y k l)))

  -- ---- a test that no element kept by q passes
  module _ (p q : A → Bool) (i : (x : A) → p x ≡ true → q x ≡ false) where
    pub remove_first-without : (l : List A) → keep q (remove_first p l) ≡ keep q l
    remove_first-without [] = refl
    remove_first-without (x ∷ l) =
        test-case (p x) (λ e. rw (e, i x e))
        (λ e. rw e (test-case (q x) (λ f. rw (f, remove_first-without l)) (λ f. rw f (remove_first-without l))))

    pub replace_first-without : (y : A) → q y ≡ false → (l : List A) → keep q (replace_first p y l) ≡ keep q l
    replace_first-without y k [] = refl
    replace_first-without y k (x ∷ l) =
        test-case (p x) (λ e. rw (e, k, i x e))
        (λ e. rw e (test-case (q x) (λ f. rw (f, replace_first-without y k l)) (λ f. rw f (replace_first-without y k l))))

-- ---- a list in an order
module _ {A : Type 0} (r : A → A → Bool) (p : A → Bool) (i : (a b : A) → r a b ≡ true → p b ≡ true → p a ≡ true) where
  -- behind an element that fails, none passes
  keep-behind : (x : A) → p x ≡ false → (l : List A) → all (r x) l ≡ true → keep p l ≡ []
  keep-behind x e [] h = refl
  keep-behind x e (y ∷ l) h =
      let f = contrary (p y) (p x) (i x y (and_left (r x y) (all (r x) l) h)) e in
      rw f (keep-behind x e l (and_right (r x y) (all (r x) l) h))

  -- where what passes stands in front, the list is what passes and then what fails
  pub keep-split : (l : List A) → pairwise r l ≡ true → keep p l ++ keep (λ x. not (p x)) l ≡ l
  keep-split [] h = refl
  keep-split (x ∷ l) h =
      let later = keep-split l (and_right (all (r x) l) (pairwise r l) h) in
      test-case (p x) (λ e. rw (e, later))
      (λ e.
      let None-passes = keep-behind x e l (and_left (all (r x) l) (pairwise r l) h) in
      let rest : keep (λ x. not (p x)) l ≡ l = rw None-passes at later in
      rw (e, None-passes, rest))
