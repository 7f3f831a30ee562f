-- Among ordered rows those alike a new one stand together: where they begin and end, found by halves.
-- Assumes nothing.
use Rattle.std.specs.Prelude.{ℕ, zero, suc, ◌+◌, ◌≤◌, ◌<◌, ◌≡◌, Bool, ltb, length, take}
use Rattle.std.proofs.Math.Path.{refl, ap}
use Rattle.std.proofs.Common.{sym, ◌∙◌, arith, take-append-drop, length-take-le}
use Rattle.std.proofs.Math.Bool.{true, false, not, not-not, or-false}
use mathlib.Core.List.{List, [], ◌∷◌}
use Rattle.std.proofs.Math.ListN.{get_or, drop}
use Rattle.std.proofs.Math.Seq.{drop-cons}
use Rattle.std.specs.List.Sorted.{IsPartitionedBy, IsPartitionPoint}
use Rattle.std.proofs.lemmas.Bool.{not-true}
use Rattle.lists.specs.Lists.{Row, all, any, eq_row, pairwise}
use Rattle.lists.specs.Bools.{test-case, fails, true-false, or_case, not-both, false-not, contrary}
use Rattle.lists.specs.All.{all_mono, all_cons, eq_row-true, pairwise-head, pairwise_tail}
use Rattle.lists.specs.At.{insert_at, all-at}
use Rattle.lists.specs.Count.{tick, tick-one, tick-none, count, count-apart, count_most}
use Rattle.lists.specs.Place.{place_of}
use Rattle.lists.specs.Split.{any-joined, pairwise_drop, count_cut, count-all, count_sum, any-ltb, any-apart, around_at}
use Rattle.layout.specs.Route.{before, alike}
use Rattle.definition.specs.Words.{ordered}
use Rattle.definition.specs.Reference.Insert.{ahead, behind}
use Rattle.definition.specs.Preservation.Order.{before-never, alike-before, before-alike, alike-sym, alike_refl, level-alike}
use Rattle.definition.proofs.Noninterference.Struck.{before-between, split-ahead, split-behind}

-- the rows alike it are those from start up to end
pub record Run (new : Row) (l : List Row) (start end : ℕ) (there : Bool) : Type 0 where
  pub begins : start ≡ count (λ r. before r new) l
  pub ends : end ≡ count (λ r. not (before new r)) l
  pub is-there : there ≡ any (eq_row new) l

module _ {A : Type 0} (p : A → Bool) where
  -- where an element that passes has those before it pass, a search by halves may be made
  parted : (r : A → A → Bool) (l : List A) → ((x y : A) → r x y ≡ true → p y ≡ true → p x ≡ true) → pairwise r l ≡ true → IsPartitionedBy p l
  parted r [] f o i j d le h e = absurd (omega arith)
  parted r (x ∷ l) f o zero zero d le h e = e
  parted r (x ∷ l) f o zero (suc j) d le h e = f x (get_or l j d) (all-at (r x) j l d (omega arith) (pairwise-head r x l o)) e
  parted r (x ∷ l) f o (suc i) zero d le h e = absurd (omega arith)
  parted r (x ∷ l) f o (suc i) (suc j) d le h e = parted r l f (pairwise_tail r x l o) i j d (omega arith) (omega arith) e

  -- what it finds: those up to i pass, the others don't
  cut_at : (l : List A) (i : ℕ) → i ≤ length l → IsPartitionPoint (λ y. p y ≡ true) (λ y. p y ≡ false) l i
      → (all p (take i l) ≡ true) × (all (λ y. not (p y)) (drop i l) ≡ true)
  cut_at [] zero h k = (refl, refl)
  cut_at [] (suc i) h k = absurd (omega arith)
  cut_at (x ∷ l) zero h k = (
    refl,
    all_cons (λ y. not (p y)) x l (ap not (k.1 0 x (omega arith) (omega arith)))
        (cut_at l zero (omega arith) ((λ j d a b. absurd (omega arith)), (λ j d a b. k.1 (suc j) d (omega arith) (omega arith)))).1,
  )
  cut_at (x ∷ l) (suc i) h k =
      let rest = cut_at l i (omega arith) ((λ j d a b. k.0 (suc j) d (omega arith) (omega arith)), (λ j d a b. k.1 (suc j) d (omega arith) (omega arith))) in
      (all_cons p x (take i l) (k.0 0 x (omega arith) (omega arith)) rest.0, rest.1)

module _ (new : Row) where
  -- ---- a row is before the new one, alike, or after it
  pub before-not-after : (r : Row) → before r new ≡ true → before new r ≡ false
  before-not-after r h = fails (before new r) (λ e. before-never r new h e)

  pub after-not-before : (r : Row) → before new r ≡ true → before r new ≡ false
  after-not-before r h = fails (before r new) (λ e. before-never r new e h)

  before-not-alike : (r : Row) → before r new ≡ true → alike new r ≡ false
  before-not-alike r h = fails (alike new r) (λ e. before-never r r (before-alike r new r h e) (before-alike r new r h e))

  after-not-alike : (r : Row) → before new r ≡ true → alike new r ≡ false
  after-not-alike r h =
      fails (alike new r) (λ e. let k = alike-before r new r (alike-sym new r e) h in before-never r r k k)

  equal_alike : (r : Row) → eq_row new r ≡ true → alike new r ≡ true
  equal_alike r e = rw (← eq_row-true new r e) (alike_refl new)

  pub before-not_equal : (r : Row) → before r new ≡ true → eq_row new r ≡ false
  before-not_equal r h = contrary (eq_row new r) (alike new r) (equal_alike r) (before-not-alike r h)

  pub after-not_equal : (r : Row) → before new r ≡ true → eq_row new r ≡ false
  after-not_equal r h = contrary (eq_row new r) (alike new r) (equal_alike r) (after-not-alike r h)

  one_of_three : (r : Row) → tick (not (before new r)) ≡ tick (before r new) + tick (alike new r)
  one_of_three r =
      test-case (before r new)
      (λ e. omega (arith, tick-one (before r new) e, tick-one (not (before new r)) (false-not (before new r) (before-not-after r e)), tick-none (alike new r) (before-not-alike r e)))
      (λ e. test-case (before new r)
      (λ f. omega (arith, tick-none (before r new) e, tick-none (not (before new r)) (ap not f), tick-none (alike new r) (after-not-alike r f)))
      (λ f. omega (arith, tick-none (before r new) e, tick-one (not (before new r)) (ap not f), tick-one (alike new r) (level-alike new r f e))))

  -- behind a row after it, all are
  all_after : (x : Row) (l : List Row) → before new x ≡ true → all (λ y. not (before y x)) l ≡ true → all (before new) l ≡ true
  all_after x l h k =
      all_mono (λ y. not (before y x)) (before new) l
      (λ y e. test-case (before new y) (λ f. f) (λ f. absurd (not-both (before y x) (before-between new y x h f) e))) k

  pub after-from : (l : List Row) (i : ℕ) → ordered l ≡ true → i < length l → before new (get_or l i []) ≡ true → all (before new) (drop i l) ≡ true
  unfolding ordered
  after-from l i o h e =
      let x = get_or l i [] in
      let rest = drop (suc i) l in
      let d : drop i l ≡ x ∷ rest = drop-cons l i [] h in
      let p : pairwise (λ a b. not (before b a)) (x ∷ rest) ≡ true = rw d at (pairwise_drop (λ a b. not (before b a)) i l o) in
      ap (all (before new)) d ∙ all_cons (before new) x rest e (all_after x rest e (pairwise-head (λ a b. not (before b a)) x rest p))

  -- behind a row not before it, none is
  none_before : (x : Row) (l : List Row) → before x new ≡ false → all (λ y. not (before y x)) l ≡ true → count (λ r. before r new) l ≡ 0
  none_before x l h k =
      count-apart (λ y. not (before y x)) (λ r. before r new) l
      (λ y e. fails (before y new) (λ f. test-case (before y x) (λ g. not-both (before y x) g e) (λ g. true-false (before x new) (before-between y x new f g) h))) k

  -- ---- cut by halves
  -- the first i rows are before the new one, of the rest the first m alike, no others
  module _ (l : List Row) (o : ordered l ≡ true) where
    pub ahead-parted : IsPartitionedBy (λ r. before r new) l
    unfolding ordered
    ahead-parted =
        parted (λ r. before r new) (λ a b. not (before b a)) l
        (λ a b h k. before-between b a new k (not-true (before b a) h)) o

    pub behind-parted : (i : ℕ) → IsPartitionedBy (λ r. not (before new r)) (drop i l)
    unfolding ordered
    behind-parted i =
        parted (λ r. not (before new r)) (λ a b. not (before b a)) (drop i l)
        (λ a b h k. ap not (contrary (before new a) (before b a) (λ e. before-between new b a e (not-true (before new b) k)) (not-true (before b a) h)))
        (pairwise_drop (λ a b. not (before b a)) i l o)

  pub run_cut : (l : List Row) (i m : ℕ) → i ≤ length l → m ≤ length (drop i l)
      → IsPartitionPoint (λ r. before r new ≡ true) (λ r. before r new ≡ false) l i
      → IsPartitionPoint (λ r. not (before new r) ≡ true) (λ r. not (before new r) ≡ false) (drop i l) m
      → Run new l i (i + m) (any (eq_row new) (take m (drop i l)))
  run_cut l i m b d h k =
      let ahead : Row → Bool = λ r. before r new in
      let within : Row → Bool = λ r. not (before new r) in
      let rest = drop i l in
      let front = cut_at ahead l i b h in
      let back = cut_at within rest m d k in
      let after : all (before new) (drop m rest) ≡ true = simp not-not at back.1 in
      let none-front : any (eq_row new) (take i l) ≡ false = any-apart ahead (eq_row new) (take i l) before-not_equal front.0 in
      let none-behind : any (eq_row new) (drop m rest) ≡ false = any-apart (before new) (eq_row new) (drop m rest) after-not_equal after in
      record {
        begins = omega (arith, length-take-le i l b, count_cut ahead l i, count-all ahead (take i l) front.0, count-apart (λ r. not (before r new)) ahead rest (λ r e. not-true (before r new) e) front.1);
        ends =
            omega (
              arith,
              length-take-le i l b,
              length-take-le m rest d,
              count_cut within l i,
              count_cut within rest m,
              count-all within (take i l) (all_mono ahead within (take i l) (λ r e. ap not (before-not-after r e)) front.0),
              count-all within (take m rest) back.0,
              count-apart (before new) within (drop m rest) (λ r e. ap not e) after,
            );
        is-there =
            sym (ap (any (eq_row new)) (sym (take-append-drop i l))
            ∙ any-joined (eq_row new) (take i l) rest
            ∙ rw none-front
            (ap (any (eq_row new)) (sym (take-append-drop m rest))
            ∙ any-joined (eq_row new) (take m rest) (drop m rest)
            ∙ rw none-behind (or-false (any (eq_row new) (take m rest)))));
      }

  -- ---- what a run says
  place-alike : (l : List Row) → ordered l ≡ true → any (alike new) l ≡ true → place_of (alike new) l ≡ count (λ r. before r new) l
  unfolding ordered
  place-alike [] o h = refl
  place-alike (x ∷ l) o h =
      let later = pairwise-head (λ a b. not (before b a)) x l o in
      let rest : alike new x ≡ false → place_of (alike new) l ≡ count (λ r. before r new) l = λ e. place-alike l (pairwise_tail (λ a b. not (before b a)) x l o) (or_case (alike new x) (any (alike new) l) h (λ f. absurd (true-false (alike new x) f e)) (λ f. f)) in
      test-case (before x new)
      (λ e. rw (e, before-not-alike x e) (omega (arith, rest (before-not-alike x e))))
      (λ e. test-case (alike new x)
      (λ f. rw (f, e) (omega (arith, none_before x l e later)))
      (λ f. absurd (alike-later x l e f later (or_case (alike new x) (any (alike new) l) h (λ g. absurd (true-false (alike new x) g f)) (λ g. g)))))
    where
      alike-later : (x : Row) (l : List Row) → before x new ≡ false → alike new x ≡ false → all (λ y. not (before y x)) l ≡ true → any (alike new) l ≡ true → ⊥
      alike-later x l e f k g =
          test-case (before new x)
          (λ a. true-false (any (alike new) l) g (any-apart (before new) (alike new) l after-not-alike (all_after x l a k)))
          (λ a. true-false (alike new x) (level-alike new x a e) f)

  module _ (l : List Row) (start end : ℕ) (there : Bool) (s : Run new l start end there) where
    pub run-alike : any (alike new) l ≡ ltb start end
    run-alike =
        any-ltb (alike new) l start end
        (omega (arith, s.begins, s.ends, count_sum (λ r. before r new) (alike new) (λ r. not (before new r)) l one_of_three))

    pub run-within : (start ≤ end) × (end ≤ length l)
    run-within =
        (omega (arith, s.begins, s.ends, count_sum (λ r. before r new) (alike new) (λ r. not (before new r)) l one_of_three), omega (arith, s.ends, count_most (λ r. not (before new r)) l))

    module _ (o : ordered l ≡ true) where
      pub run-ahead : insert_at start new l ≡ ahead new l
      unfolding ahead
      run-ahead = rw s.begins (around_at (λ r. before r new) new l (split-ahead new l o))

      pub run-behind : insert_at end new l ≡ behind new l
      unfolding behind
      run-behind = rw s.ends (simp not-not at (around_at (λ r. not (before new r)) new l (split-behind new l o)))

      pub run-place : any (alike new) l ≡ true → place_of (alike new) l ≡ start
      run-place h = place-alike l o h ∙ sym s.begins
