-- Routes are in order where each is in order with the next one, and in that order equal rows stand in one run.
-- Assumes nothing.
use Rattle.std.specs.Prelude.{ℕ, suc, ◌+◌, ◌-◌, ◌≤◌, ◌<◌, ◌≡◌, refl, Bool, true, false, not, ◌&&◌, List, [], ◌∷◌, length, get_or, drop}
use Rattle.std.proofs.Common.{sym, ap, ◌∙◌, add-one, arith, drop-cons, drop-drop}
use Rattle.std.proofs.Math.Bool.{and-false}
use Rattle.std.proofs.lemmas.Bool.{not-true}
use Rattle.lists.specs.Lists.{Row, all, pairwise, eq_row}
use Rattle.lists.specs.Bools.{and_both, fails, false-not, not_so}
use Rattle.lists.specs.All.{all_mono, all_cons, pairwise-head, eq_row-true}
use Rattle.lists.specs.Next.{pairwise-next, pairwise-end}
use Rattle.lists.specs.Split.{pairwise_drop}
use Rattle.layout.specs.Route.{before}
use Rattle.definition.specs.Words.{ordered, distinct}
use Rattle.definition.specs.Preservation.Order.{before-never, before-after, before-alike, level-alike}

-- not before: the relation of the order
le_trans : (a b c : Row) → before b a ≡ false → before c b ≡ false → before c a ≡ false
le_trans a b c h k = fails (before c a) (λ e. go e (before a b) refl)
  where
    not-both : before c b ≡ true → ⊥
    not-both e = let z : ◌≡◌ {A = ℕ} 0 1 = cc in omega arith

    go : before c a ≡ true → (t : Bool) → before a b ≡ t → ⊥
    go e true f = not-both (before-after c a b e f)
    go e false f = not-both (before-alike c a b e (level-alike a b f h))

-- one row more in front
next : (a b : Row) (l : List Row) → before b a ≡ false → ordered (a ∷ b ∷ l) ≡ ordered (b ∷ l)
unfolding ordered
next a b l h = go (ordered (b ∷ l)) refl
  where
    rest : pairwise (λ x y. not (before y x)) (b ∷ l) ≡ true → all (λ y. not (before y a)) (b ∷ l) ≡ true
    rest e =
        all_cons (λ y. not (before y a)) b l (false-not (before b a) h)
        (all_mono (λ y. not (before y b)) (λ y. not (before y a)) l (λ y f. false-not (before y a) (le_trans a b y h (not-true (before y b) f)))
        (pairwise-head (λ x y. not (before y x)) b l e))

    go : (t : Bool) → pairwise (λ x y. not (before y x)) (b ∷ l) ≡ t → all (λ y. not (before y a)) (b ∷ l) && pairwise (λ x y. not (before y x)) (b ∷ l) ≡ pairwise (λ x y. not (before y x)) (b ∷ l)
    go true e = and_both (all (λ y. not (before y a)) (b ∷ l)) (pairwise (λ x y. not (before y x)) (b ∷ l)) (rest e) e ∙ sym e
    go false e = rw e (and-false (all (λ y. not (before y a)) (b ∷ l)))

broken : (a b : Row) (l : List Row) → before b a ≡ true → ordered (a ∷ b ∷ l) ≡ false
unfolding ordered
broken a b l h = rw h

module _ (rows : List Row) (i : ℕ) (h : i + 1 < length rows) where
  two : drop i rows ≡ get_or rows i [] ∷ get_or rows (i + 1) [] ∷ drop (suc (suc i)) rows
  two = let k : suc i < length rows = omega arith in rw (drop-cons rows i [] (omega arith), drop-cons rows (suc i) [] k, add-one i)

  one : drop (i + 1) rows ≡ get_or rows (i + 1) [] ∷ drop (suc (suc i)) rows
  one = let k : suc i < length rows = omega arith in rw (add-one i, drop-cons rows (suc i) [] k)

  pub order-next : before (get_or rows (i + 1) []) (get_or rows i []) ≡ false → ordered (drop i rows) ≡ ordered (drop (i + 1) rows)
  order-next e = rw (two, one) (next (get_or rows i []) (get_or rows (i + 1) []) (drop (suc (suc i)) rows) e)

  pub order-broken : before (get_or rows (i + 1) []) (get_or rows i []) ≡ true → ordered (drop i rows) ≡ false
  order-broken e = rw two (broken (get_or rows i []) (get_or rows (i + 1) []) (drop (suc (suc i)) rows) e)

-- at most one row is left
pub order-end : (rows : List Row) (i : ℕ) → length rows ≤ i + 1 → ordered (drop i rows) ≡ true
unfolding ordered
order-end rows i h = pairwise-end (λ x y. not (before y x)) rows i h

-- ---- a row before row j is none of those from j on
apart_of : (a b : Row) → before a b ≡ true → (x : Row) → not (before x b) ≡ true → not (eq_row a x) ≡ true
apart_of a b h x k = not_so (eq_row a x) (λ e. never (rw (eq_row-true a x e) at h))
  where
    never : before x b ≡ true → ⊥
    never f = let g = not-true (before x b) k in let z : ◌≡◌ {A = ℕ} 0 1 = cc in omega arith

pub ordered-later : (l : List Row) (i j : ℕ) → i ≤ j → ordered (drop i l) ≡ true → ordered (drop j l) ≡ true
unfolding ordered
ordered-later l i j h o =
    let both : i + (j - i) ≡ j = omega arith in
    rw (drop-drop (j - i) i l, both) at (pairwise_drop (λ x y. not (before y x)) (j - i) (drop i l) o)

pub past-run : (rows : List Row) (a : Row) (j : ℕ) → ordered (drop j rows) ≡ true → j < length rows → before a (get_or rows j []) ≡ true
    → all (λ x. not (eq_row a x)) (drop j rows) ≡ true
unfolding ordered
past-run rows a j o h e =
    let b = get_or rows j [] in
    let tail = drop (suc j) rows in
    let f : pairwise (λ x y. not (before y x)) (b ∷ tail) ≡ true = rw (drop-cons rows j [] h) at o in
    rw (drop-cons rows j [] h)
    (all_mono (λ x. not (before x b)) (λ x. not (eq_row a x)) (b ∷ tail) (apart_of a b e)
    (all_cons (λ x. not (before x b)) b tail (not_so (before b b) (λ g. before-never b b g g)) (pairwise-head (λ x y. not (before y x)) b tail f)))

pub distinct-iteration : (rows : List Row) (i : ℕ) {b : Bool} (t : Bool) → i < length rows → b ≡ all (λ (x : Row). not (eq_row (get_or rows i []) x)) (drop (i + 1) rows) → b ≡ t
    → distinct (drop i rows) ≡ t && distinct (drop (i + 1) rows)
unfolding distinct
distinct-iteration rows i t h eb et =
    pairwise-next rows i [] h (λ a x. not (eq_row a x)) ∙ ap (λ (b : Bool). b && pairwise (λ a x. not (eq_row a x)) (drop (i + 1) rows)) (sym eb ∙ et)

pub distinct-end : (rows : List Row) (i : ℕ) → length rows ≤ i + 1 → distinct (drop i rows) ≡ true
unfolding distinct
distinct-end rows i h = pairwise-end (λ a x. not (eq_row a x)) rows i h
