-- What is found in the run of a key holds of all rows: those in front are before the new row, those behind it after.
-- Assumes nothing.
use Rattle.std.specs.Prelude.{ℕ, zero, suc, ◌+◌, ◌-◌, ◌<◌, ◌≡◌, refl, Bool, false, ◌&&◌, ◌||◌, eqb, ltb}
use native.Mathlib.Omega.{arith}
use Rattle.std.proofs.Common.{sym, ◌∙◌, take-append-drop, drop_of_length-le, get_or-take, get_or-drop, ltb-true, ltb-false}
use Rattle.std.proofs.Math.Path.{ap}
use Rattle.std.proofs.Math.Bool.{true, not, or-false}
use mathlib.Core.List.{List, [], ◌∷◌, ◌++◌}
use Rattle.std.proofs.Math.ListN.{length, get_or, take, drop}
use Rattle.std.proofs.Math.Seq.{drop-cons, length-take-le}
use Rattle.std.proofs.lemmas.Bool.{not-true}
use Rattle.lists.specs.Lists.{Row, all, any, eq_row, pairwise}
use Rattle.lists.specs.Bools.{test-case, true-false, not_so, not-both, and_iff, false-not}
use Rattle.lists.specs.All.{all_mono, all_cons, pairwise-head, pairwise_tail, pairwise_cons}
use Rattle.lists.specs.At.{all_take, all-at}
use Rattle.lists.specs.Count.{count, count_append, count-apart}
use Rattle.lists.specs.Cut.{place-passes}
use Rattle.lists.specs.Place.{place_le}
use Rattle.lists.specs.Split.{any-joined, pairwise_drop, count-all, any-apart}
use Rattle.layout.specs.Route.{before, alike, table, dst, len}
use Rattle.definition.specs.Words.{ordered}
use Rattle.definition.specs.Preservation.Order.{level-alike}
use Rattle.definition.proofs.Noninterference.Struck.{before-between}
use Rattle.step_insert.specs.Search.{key, in_front, in_run, leading, run_start, run_end}
use Rattle.step_insert.specs.Find.{Found}
use Rattle.step_insert.specs.Run.{Run, after-from, before-not-after, after-not-before, before-not_equal, after-not_equal}

-- ---- the order of keys
-- rows whose keys are in order are
key-before : (a b : Row) → before (key a) (key b) ≡ true → before a b ≡ true
unfolding before
key-before a b =
    deeper (ltb (dst a) (dst b)) (eqb (dst a) (dst b)) _ _
    (deeper (ltb (len b) (len a)) (eqb (len a) (len b)) _ _
    (deeper (ltb (table b) (table a)) (eqb (table a) (table b)) false _ (λ h. absurd (true-false false h refl))))
  where
    deeper : (x e p q : Bool) → (p ≡ true → q ≡ true) → x || (e && p) ≡ true → x || (e && q) ≡ true
    deeper true e p q f h = refl
    deeper false true p q f h = f h
    deeper false false p q f h = h

-- a row not in front of the run and not in it is after the new one
key-after : (new r : Row) → in_front new r ≡ false → in_run new r ≡ false → before new r ≡ true
unfolding alike
key-after new r h k =
    test-case (before (key new) (key r)) (λ e. key-before new r e)
    (λ e. let m = simp and_iff at (level-alike (key new) (key r) e h) in
    let same : in_run new r ≡ true = simp and_iff (m.0.0.0.0, (m.0.0.0.1, (m.0.0.1, refl))) in
    absurd (true-false (in_run new r) same k))

-- ---- lists
-- those counted pass
leading-pass : (p : Row → Bool) (l : List Row) → all p (take (leading p l) l) ≡ true
leading-pass p [] = refl
leading-pass p (x ∷ l) = test-case (p x) (λ e. rw (e, e) (leading-pass p l)) (λ e. rw e refl)

pairwise_take : (r : Row → Row → Bool) (i : ℕ) (l : List Row) → pairwise r l ≡ true → pairwise r (take i l) ≡ true
pairwise_take r zero l h = refl
pairwise_take r (suc i) [] h = refl
pairwise_take r (suc i) (x ∷ l) h =
    pairwise_cons r x (take i l) (all_take (r x) i l (pairwise-head r x l h)) (pairwise_take r i l (pairwise_tail r x l h))

-- the rows from start up to end
abbrev pub between : ℕ → ℕ → List Row → List Row
between start end l = take (end - start) (drop start l)

between-ordered : (start end : ℕ) (l : List Row) → ordered l ≡ true → ordered (between start end l) ≡ true
unfolding ordered
between-ordered start end l o =
    pairwise_take (λ a b. not (before b a)) (end - start) (drop start l) (pairwise_drop (λ a b. not (before b a)) start l o)

pub between-at : (start end i : ℕ) (l : List Row) → i < end - start → get_or (between start end l) i [] ≡ get_or l (start + i) []
between-at start end i l h = get_or-take (end - start) (drop start l) i [] h ∙ get_or-drop start l i []

-- ---- from the run to all rows
module _ (new : Row) (l : List Row) (o : ordered l ≡ true) where
  abbrev s : ℕ
  s = run_start new l

  abbrev onwards : List Row
  onwards = drop s l

  abbrev k : ℕ
  k = leading (in_run new) onwards

  all-front : all (λ r. before r new) (take s l) ≡ true
  unfolding run_start
  all-front = all_mono (in_front new) (λ r. before r new) (take s l) (λ r h. key-before r new h) (leading-pass (in_front new) l)

  onwards-ordered : ordered onwards ≡ true
  unfolding ordered
  onwards-ordered = pairwise_drop (λ a b. not (before b a)) s l o

  none-front : all (λ r. not (in_front new r)) onwards ≡ true
  unfolding ordered run_start
  none-front =
      test-case (ltb s (length l)) (λ e. some (ltb-true s (length l) e))
      (λ e. ap (all (λ r. not (in_front new r))) (drop_of_length-le l {i = s} (ltb-false s (length l) e)))
    where
      some : s < length l → all (λ r. not (in_front new r)) onwards ≡ true
      some h =
          let y = get_or l s [] in
          let rest = drop (suc s) l in
          let d : onwards ≡ y ∷ rest = drop-cons l s [] h in
          let first : not (in_front new y) ≡ true = place-passes (λ r. not (in_front new r)) l [] h in
          let later : all (λ z. not (before z y)) rest ≡ true = pairwise-head (λ a b. not (before b a)) y rest (rw d at onwards-ordered) in
          ap (all (λ r. not (in_front new r))) d
          ∙ all_cons (λ r. not (in_front new r)) y rest first
          (all_mono (λ z. not (before z y)) (λ r. not (in_front new r)) rest
          (λ z e. not_so (in_front new z)
          (λ f. test-case (before (key z) (key y))
          (λ g. not-both (before z y) (key-before z y g) e)
          (λ g. not-both (in_front new y) (before-between (key z) (key y) (key new) f g) first)))
          later)

  all-behind : all (before new) (drop k onwards) ≡ true
  all-behind =
      test-case (ltb k (length onwards)) (λ e. some (ltb-true k (length onwards) e))
      (λ e. ap (all (before new)) (drop_of_length-le onwards {i = k} (ltb-false k (length onwards) e)))
    where
      some : k < length onwards → all (before new) (drop k onwards) ≡ true
      some h =
          after-from new onwards k onwards-ordered h
          (key-after new (get_or onwards k [])
          (not-true (in_front new (get_or onwards k [])) (all-at (λ r. not (in_front new r)) k onwards [] h none-front))
          (not-true (in_run new (get_or onwards k [])) (place-passes (λ r. not (in_run new r)) onwards [] h)))

  own-rows : between s (run_end new l) l ≡ take k onwards
  unfolding run_end
  own-rows = let so-many : s + k - s ≡ k = omega arith in ap (λ (n : ℕ). take n onwards) so-many

  cut : l ≡ take s l ++ (between s (run_end new l) l ++ drop k onwards)
  cut =
      sym (ap (λ (m : List Row). take s l ++ (m ++ drop k onwards)) own-rows
      ∙ ap (λ (m : List Row). take s l ++ m) (take-append-drop k onwards)
      ∙ take-append-drop s l)

  counted : (p : Row → Bool) → count p l ≡ count p (take s l) + (count p (between s (run_end new l) l) + count p (drop k onwards))
  counted p =
      ap (count p) cut
      ∙ count_append p (take s l) (between s (run_end new l) l ++ drop k onwards)
      ∙ ap (λ (n : ℕ). count p (take s l) + n) (count_append p (between s (run_end new l) l) (drop k onwards))

  in_front_lem : length (take s l) ≡ s
  unfolding run_start
  in_front_lem = length-take-le s l (place_le (λ r. not (in_front new r)) l)

  whole_run : (start end : ℕ) (there : Bool) → Run new (between s (run_end new l) l) start end there → Run new l (s + start) (s + end) there
  whole_run start end there r =
      let not_after : all (λ x. not (before new x)) (take s l) ≡ true =
      all_mono (λ x. before x new) (λ x. not (before new x)) (take s l) (λ x h. false-not (before new x) (before-not-after new x h)) all-front
      in
      let ahead = count-all (λ x. before x new) (take s l) all-front in
      let apart = count-apart (before new) (λ x. before x new) (drop k onwards) (after-not-before new) all-behind in
      let ahead-too = count-all (λ x. not (before new x)) (take s l) not_after in
      let apart-too = count-apart (before new) (λ x. not (before new x)) (drop k onwards) (λ x h. ap not h) all-behind in
      let none-front : any (eq_row new) (take s l) ≡ false = any-apart (λ x. before x new) (eq_row new) (take s l) (before-not_equal new) all-front in
      let none-behind : any (eq_row new) (drop k onwards) ≡ false = any-apart (before new) (eq_row new) (drop k onwards) (after-not_equal new) all-behind in
      record {
        begins = omega (arith, r.begins, counted (λ x. before x new), in_front_lem, ahead, apart);
        ends = omega (arith, r.ends, counted (λ x. not (before new x)), in_front_lem, ahead-too, apart-too);
        is-there =
            r.is-there
            ∙ sym (ap (any (eq_row new)) cut
            ∙ any-joined (eq_row new) (take s l) (between s (run_end new l) l ++ drop k onwards)
            ∙ rw none-front
            (any-joined (eq_row new) (between s (run_end new l) l) (drop k onwards)
            ∙ rw none-behind (or-false (any (eq_row new) (between s (run_end new l) l)))));
      }

-- what is alike in the run found is so among all rows
pub own-run : (new : Row) (l : List Row) (start end read i j : ℕ) (there : Bool) → Found new l start end read
    → (ordered (between start end l) ≡ true → Run new (between start end l) i j there)
    → ordered l ≡ true → Run new l (start + i) (start + j) there
own-run new l start end read i j there found r o =
    rw found.0 (whole_run new l o i j there (rw (found.0, found.1) at (r (between-ordered start end l o))))
