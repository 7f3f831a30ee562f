-- The search for the run: what one row tells it, what holds after so many rows, and what it finds.
-- Assumes nothing.
use Rattle.std.specs.Prelude.{ℕ, ◌+◌, ◌≤◌, ◌<◌, ◌≡◌, refl, Bool, true, ◌&&◌, ◌||◌, ltb, length, get_or}
use Rattle.std.proofs.Common.{add-zero, arith}
use Rattle.std.proofs.Math.Path.{sym, ap}
use Rattle.std.proofs.Common.{ap₂, ◌∙◌}
use Rattle.std.specs.Ordering.{is_lt, is_eq}
use Rattle.std.specs.declared.cmp.Ordering.{Ordering}
use Rattle.std.proofs.Math.Bool.{false, not}
use mathlib.Core.List.{List, []}
use Rattle.std.proofs.Math.Dec.{eqb}
use Rattle.std.proofs.Math.ListN.{drop, drop_of_length-le}
use borrow.Author.Tests.{ltb-true, ltb-false, lt-ltb, le-ltb, eqb-true, eq-eqb}
use Rattle.lists.specs.Lists.{Row}
use Rattle.lists.specs.Bools.{test-case, fails, or_case, or-false, and_left, and_right, and_rest, false-not, true-false}
use Rattle.lists.specs.All.{eq_row-true}
use Rattle.lists.specs.Count.{tick}
use Rattle.lists.specs.Place.{place_here, place-past}
use Rattle.layout.specs.Route.{before}
use Rattle.definition.specs.Preservation.Order.{before-never}
use Rattle.step_insert.specs.Search.{key, in_front, in_run, leading, run_start, run_end, rows_read}

module _ (new : Row) where
  pub run-not-front : (r : Row) → in_run new r ≡ true → in_front new r ≡ false
  run-not-front r h =
      fails (in_front new r)
      (λ f. let k : before (key new) (key new) ≡ true = rw (← (eq_row-true (key new) (key r) h)) at f in before-never (key new) (key new) k k)

  -- ---- the pass
  -- of the first i rows those up to start are in front of the run, the others in it
  pub record Sofar (l : List Row) (i start : ℕ) : Type 0 where
    pub within : start ≤ i
    pub front : run_start new l ≡ start + leading (in_front new) (drop start l)
    pub run : start + leading (in_run new) (drop start l) ≡ i + leading (in_run new) (drop i l)
    pub begun : start < i → leading (in_front new) (drop start l) ≡ 0

  -- the search goes on behind this row
  abbrev pub goes_on : ℕ → ℕ → Row → Bool
  goes_on start i r = in_run new r || (in_front new r && eqb start i)

  -- by what the row is to the run
  pub stops : (o : Ordering) (start i : ℕ) (r : Row) → is_lt o ≡ in_front new r → is_eq o ≡ in_run new r → is_eq o || (is_lt o && eqb start i) ≡ false → goes_on start i r ≡ false
  stops o start i r f g h = sym (ap₂ (λ (x y : Bool). y || (x && eqb start i)) f g) ∙ h

  abbrev pub Found : List Row → ℕ → ℕ → ℕ → Type 0
  Found l start end read = (start ≡ run_start new l) × (end ≡ run_end new l) × (read ≡ rows_read new l)

  pub find_start : (l : List Row) → Sofar l 0 0
  unfolding run_start
  find_start l = record { within = omega arith; front = omega arith; run = refl; begun = λ h. absurd (omega arith) }

  module _ (l : List Row) (i start : ℕ) (s : Sofar l i start) where
    -- where no row was of the run yet, start is i
    at_front : (ltb start i ≡ false) → start ≡ i
    at_front e = omega (arith, s.within, ltb-false start i e)

    begins : (start ≡ i → leading (in_front new) (drop i l) ≡ 0) → start ≡ run_start new l
    begins f =
        test-case (ltb start i)
        (λ e. omega (arith, s.front, s.begun (ltb-true start i e)))
        (λ e. omega (arith, s.front, ap (λ (n : ℕ). leading (in_front new) (drop n l)) (at_front e), f (at_front e)))

    finishes : start ≡ run_start new l → leading (in_run new) (drop i l) ≡ 0 → i ≡ run_end new l
    unfolding run_end
    finishes e f = rw (← e) (omega (arith, s.run))

    module _ (h : i < length l) where
      abbrev r : Row
      r = get_or l i []

      pub find_more : goes_on start i r ≡ true → Sofar l (i + 1) (start + tick (in_front new r))
      find_more on =
          or_case (in_run new r) (in_front new r && eqb start i) on
          (λ e. rw (run-not-front r e, add-zero) (in_run_lem e))
          (λ e. let f = and_left (in_front new r) (eqb start i) e in
          rw f (in_front_lem f (eqb-true start i (and_right (in_front new r) (eqb start i) e))))
        where
          in_run_lem : in_run new r ≡ true → Sofar l (i + 1) start
          in_run_lem e =
              let more = place-past (λ x. not (in_run new x)) l i [] h (ap not e) in
              record {
                within = omega (arith, s.within);
                front = s.front;
                run = omega (arith, s.run, more);
                begun = λ b. test-case (ltb start i) (λ f. s.begun (ltb-true start i f))
                    (λ f. rw (at_front f) (place_here (λ x. not (in_front new x)) l i [] h (false-not (in_front new r) (run-not-front r e))));
              }

          in_front_lem : in_front new r ≡ true → start ≡ i → Sofar l (i + 1) (start + 1)
          in_front_lem e f =
              let more = place-past (λ x. not (in_front new x)) l i [] h (ap not e) in
              let sofar : run_start new l ≡ i + leading (in_front new) (drop i l) = rw f at s.front in
              rw f (record { within = omega arith; front = omega (arith, sofar, more); run = refl; begun = λ b. absurd (omega arith) })

      pub find_stop : goes_on start i r ≡ false → Found l start i (i + 1)
      unfolding run_end rows_read
      find_stop off =
          let neither = or-false (in_run new r) (in_front new r && eqb start i) off in
          let starts = begins (λ e. place_here (λ x. not (in_front new x)) l i [] h (false-not (in_front new r) (not-front neither e))) in
          let ends = finishes starts (place_here (λ x. not (in_run new x)) l i [] h (ap not neither.0)) in
          (starts, ends, rw (← ends, lt-ltb i (length l) h) refl)
        where
          not-front : (in_run new r ≡ false) × (in_front new r && eqb start i ≡ false) → start ≡ i → in_front new r ≡ false
          not-front neither e =
              fails (in_front new r) (λ f. true-false (eqb start i) (eq-eqb start i e) (and_rest (in_front new r) (eqb start i) f neither.1))

    pub find_end : i ≡ length l → Found l start i i
    unfolding rows_read
    find_end e =
        let nothing : drop i l ≡ [] = drop_of_length-le l {i = i} (omega arith) in
        let starts = begins (λ f. ap (leading (in_front new)) nothing) in
        let ends = finishes starts (ap (leading (in_run new)) nothing) in
        (starts, ends, rw (← ends, le-ltb i (length l) (omega arith)) e)
