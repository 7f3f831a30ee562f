-- The first element that passes, behind a front where none does; elements at a place.
-- Assumes nothing.
use Prim.Native.Nat.{ℕ, zero, suc, ◌+◌, ◌<◌}
use Rattle.std.specs.Prelude.{◌≡◌, Bool, true, false, length, get_or, take, drop}
use Rattle.std.proofs.Common.{ap, arith, add-one, drop-cons, take-suc, length-take-le}
use mathlib.Core.List.{List, [], ◌∷◌, ◌++◌}
use Rattle.std.proofs.Math.Option.{some}
use Rattle.std.proofs.Math.Seq.{take_at, drop_at}
use Rattle.lists.specs.Lists.{any, keep, first, remove_first}
use Rattle.lists.specs.Bools.{or-false, or_left, or_right}
use Rattle.lists.specs.At.{remove_at}

module _ {A : Type 0} where
  pub none-joined : (p : A → Bool) (l m : List A) → any p l ≡ false → any p m ≡ false → any p (l ++ m) ≡ false
  none-joined p [] m g h = h
  none-joined p (x ∷ l) m g h =
      let k = or-false (p x) (any p l) g in
      rw k.0 (none-joined p l m k.1 h)

  module _ (q : A → Bool) where
    pub first-behind : (front : List A) (x : A) (l : List A) → any q front ≡ false → q x ≡ true → first q (front ++ (x ∷ l)) ≡ some x
    first-behind [] x l c e = rw e
    first-behind (y ∷ front) x l c e =
        let k = or-false (q y) (any q front) c in
        rw k.0 (first-behind front x l k.1 e)

    pub remove_behind : (front : List A) (x : A) (l : List A) → any q front ≡ false → q x ≡ true → remove_first q (front ++ (x ∷ l)) ≡ front ++ l
    remove_behind [] x l c e = rw e
    remove_behind (y ∷ front) x l c e =
        let k = or-false (q y) (any q front) c in
        rw k.0 (ap (λ (m : List A). y ∷ m) (remove_behind front x l k.1 e))

    pub first-front : (i : ℕ) (l : List A) (d : A) → any q (take i l) ≡ false → i < length l → q (get_or l i d) ≡ true → first q l ≡ some (get_or l i d)
    first-front i [] d c b e = absurd (omega arith)
    first-front zero (x ∷ l) d c b e = rw e
    first-front (suc i) (x ∷ l) d c b e =
        let k = or-false (q x) (any q (take i l)) c in
        rw k.0 (first-front i l d k.1 (omega arith) e)

    pub remove_front : (i : ℕ) (l : List A) (d : A) → any q (take i l) ≡ false → i < length l → q (get_or l i d) ≡ true → remove_first q l ≡ remove_at i l
    unfolding remove_at
    remove_front i [] d c b e = absurd (omega arith)
    remove_front zero (x ∷ l) d c b e = rw e
    remove_front (suc i) (x ∷ l) d c b e =
        let k = or-false (q x) (any q (take i l)) c in
        rw k.0 (ap (λ (m : List A). x ∷ m) (remove_front i l d k.1 (omega arith) e))

    -- the front with one element more
    pub front-more : (i : ℕ) (l : List A) (d : A) → any q (take i l) ≡ false → i < length l → q (get_or l i d) ≡ false → any q (take (i + 1) l) ≡ false
    front-more i l d c b e =
        rw (add-one, take-suc l i d b) (none-joined q (take i l) (get_or l i d ∷ []) c (rw e))

    -- what passes from there on
    pub keep-here : (i : ℕ) (l : List A) (d : A) → i < length l → q (get_or l i d) ≡ true → keep q (drop i l) ≡ get_or l i d ∷ keep q (drop (suc i) l)
    keep-here i l d b e = rw (drop-cons l i d b, e)

    pub keep-past : (i : ℕ) (l : List A) (d : A) → i < length l → q (get_or l i d) ≡ false → keep q (drop i l) ≡ keep q (drop (i + 1) l)
    keep-past i l d b e = rw (add-one, drop-cons l i d b, e)

  -- without the element at i the front is the same, and behind it stands what stood behind that element
  pub take-removed : (i : ℕ) (l : List A) → i < length l → take i (remove_at i l) ≡ take i l
  unfolding remove_at
  take-removed i l b = take_at (take i l) (drop (suc i) l) i (length-take-le i l (omega arith))

  pub drop-removed : (i : ℕ) (l : List A) → i < length l → drop i (remove_at i l) ≡ drop (suc i) l
  unfolding remove_at
  drop-removed i l b = drop_at (take i l) (drop (suc i) l) i (length-take-le i l (omega arith))

  -- an element at a place is in the list
  pub any_here : (p : A → Bool) (l : List A) (i : ℕ) (d : A) → i < length l → p (get_or l i d) ≡ true → any p l ≡ true
  any_here p [] i d b e = absurd (omega arith)
  any_here p (x ∷ l) zero d b e = or_left (p x) (any p l) e
  any_here p (x ∷ l) (suc i) d b e = or_right (p x) (any p l) (any_here p l i d (omega arith) e)
