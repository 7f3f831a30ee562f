-- A list changed at a place, and what that is of the rows' words.
-- Assumes nothing.
use Rattle.std.specs.Prelude.{ℕ, suc, ◌+◌, ◌-◌, ◌*◌, ◌≤◌, ◌<◌, ◌≡◌, refl, Bool, true, List, [], ◌∷◌, ◌++◌, eqb, length, get_or, set, take}
use Rattle.std.proofs.Common.{sym, ap, ◌∙◌, append_assoc, append-nil, arith, length-append, length-drop, take-append-drop, length-take-le, drop-cons, eqb-true}
use Rattle.std.proofs.Math.ListN.{drop, length-take}
use Rattle.std.proofs.lemmas.List.{set_split}
use Rattle.lists.specs.Lists.{Row, all, flat}
use Rattle.lists.specs.All.{all_head, all-front, all_back, all_cons, all_append}
use Rattle.lists.specs.Rows.{sized, length-flat}

module _ {A : Type 0} where
  -- with x before the element at i
  unfoldable pub insert_at : ℕ → A → List A → List A
  insert_at i x l = take i l ++ (x ∷ drop i l)

  -- without the element at i
  unfoldable pub remove_at : ℕ → List A → List A
  remove_at i l = take i l ++ drop (suc i) l

  pub length-insert_at : (i : ℕ) (x : A) (l : List A) → i ≤ length l → length (insert_at i x l) ≡ length l + 1
  unfolding insert_at
  length-insert_at i x l h = simp (length-append, length-take, length-drop) (omega arith)

  pub length-remove_at : (i : ℕ) (l : List A) → i < length l → length (remove_at i l) ≡ length l - 1
  unfolding remove_at
  length-remove_at i l h = simp (length-append, length-take, length-drop) (omega arith)

  pub all_take : (p : A → Bool) (i : ℕ) (l : List A) → all p l ≡ true → all p (take i l) ≡ true
  all_take p i l h = all-front p (take i l) (drop i l) (rw take-append-drop h)

  pub all_drop : (p : A → Bool) (i : ℕ) (l : List A) → all p l ≡ true → all p (drop i l) ≡ true
  all_drop p i l h = all_back p (take i l) (drop i l) (rw take-append-drop h)

  pub all-at : (p : A → Bool) (i : ℕ) (l : List A) (d : A) → i < length l → all p l ≡ true → p (get_or l i d) ≡ true
  all-at p i l d k h = all_head p (get_or l i d) (drop (suc i) l) (rw (drop-cons l i d k) at (all_drop p i l h))

  pub all-insert_at : (p : A → Bool) (i : ℕ) (x : A) (l : List A) → p x ≡ true → all p l ≡ true → all p (insert_at i x l) ≡ true
  unfolding insert_at
  all-insert_at p i x l g h = all_append p (take i l) (x ∷ drop i l) (all_take p i l h) (all_cons p x (drop i l) g (all_drop p i l h))

  pub all-remove_at : (p : A → Bool) (i : ℕ) (l : List A) → all p l ≡ true → all p (remove_at i l) ≡ true
  unfolding remove_at
  all-remove_at p i l h = all_append p (take i l) (drop (suc i) l) (all_take p i l h) (all_drop p (suc i) l h)

  pub all_set : (p : A → Bool) (i : ℕ) (x : A) (l : List A) → i < length l → p x ≡ true → all p l ≡ true → all p (set l i x) ≡ true
  all_set p i x l k g h =
      rw (set_split l i x k) (all_append p (take i l) (x ∷ drop (suc i) l) (all_take p i l h) (all_cons p x (drop (suc i) l) g (all_drop p (suc i) l h)))

-- ---- the words of rows
pub flat_append : (a b : List Row) → flat (a ++ b) ≡ flat a ++ flat b
unfolding flat
flat_append [] b = refl
flat_append (r ∷ a) b = ap (λ (x : List ℕ). r ++ x) (flat_append a b) ∙ sym (append_assoc r (flat a) (flat b))

pub flat_cons : (r : Row) (l : List Row) → flat (r ∷ l) ≡ r ++ flat l
unfolding flat
flat_cons r l = refl

pub flat-one : (r : Row) → flat (r ∷ []) ≡ r
unfolding flat
flat-one r = append-nil r

pub sized-at : (k : ℕ) (rows : List Row) (i : ℕ) → i < length rows → sized k rows ≡ true → length (get_or rows i []) ≡ k
sized-at k rows i h s = eqb-true (length (get_or rows i [])) k (all-at (λ r. eqb (length r) k) i rows [] h s)

-- the words of the rows before and behind the place i
module _ (k : ℕ) (rows : List Row) (i : ℕ) (s : sized k rows ≡ true) where
  pub length-flat-take : i ≤ length rows → length (flat (take i rows)) ≡ k * i
  length-flat-take h = length-flat k (take i rows) (all_take (λ r. eqb (length r) k) i rows s) ∙ ap (λ (n : ℕ). k * n) (length-take-le i rows h)

  pub length-flat-drop : length (flat (drop i rows)) ≡ k * (length rows - i)
  length-flat-drop = length-flat k (drop i rows) (all_drop (λ r. eqb (length r) k) i rows s) ∙ ap (λ (n : ℕ). k * n) (length-drop i rows)

  pub flat-cut : flat rows ≡ flat (take i rows) ++ flat (drop i rows)
  flat-cut = ap flat (sym (take-append-drop i rows)) ∙ flat_append (take i rows) (drop i rows)

  pub flat-cut-at : i < length rows → flat rows ≡ flat (take i rows) ++ (get_or rows i [] ++ flat (drop (suc i) rows))
  flat-cut-at h =
      flat-cut
      ∙ ap (λ (x : List Row). flat (take i rows) ++ flat x) (drop-cons rows i [] h)
      ∙ ap (λ (x : List ℕ). flat (take i rows) ++ x) (flat_cons (get_or rows i []) (drop (suc i) rows))
