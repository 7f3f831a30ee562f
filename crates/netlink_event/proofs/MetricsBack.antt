-- The metrics of a route, written inside their attribute, are read back.
-- Assumes nothing.
use Rattle.std.specs.Prelude.{ℕ, zero, suc, ◌-◌, ◌≤◌, ◌≡◌, Bool, true, false, cond, not, eqb, ltb, get_or}
use Rattle.std.proofs.Math.Path.{refl, ap}
use Rattle.std.proofs.Common.{sym, ap₂, ◌∙◌, arith, take_all, eqb-true, eq-eqb}
use mathlib.Core.List.{List, [], ◌∷◌, ◌++◌, map}
use Rattle.std.proofs.Math.Option.{none, some}
use Rattle.std.proofs.Math.ListN.{length}
use Rattle.std.proofs.lemmas.Bool.{not-true}
use Rattle.lists.specs.Lists.{Row, all, any, keep, each, among, pad}
use Rattle.lists.specs.Bools.{and_left, and_right, or-false, or_case, test-case, true-false}
use Rattle.endian.specs.Laws.{Below}
use Rattle.netlink.specs.Codes.{rtax_max}
use Rattle.netlink.specs.Attributes.{Attribute, attributes, right, last}
use Rattle.netlink.specs.Reader.{number, or_else, given, metric_sized, nested, unknown_metric, types, metric, metrics_asked, pair}
use Rattle.netlink.specs.Reader.{pairs_asked}
use Rattle.netlink_event.specs.Written.{bytes4, writable, presents, written_all}
use Rattle.netlink_event.proofs.Back.{number-back, attributes-back, right-back, all-entries, last-entry, entry, or-back, given-is}
use Rattle.netlink_event.proofs.Back.{zero-back, at-most}
use Rattle.netlink_event.specs.Writer.{nonzero, metric_entry, metric_entries}
use Rattle.netlink_event.proofs.Fit.{listed, lists}

-- the metrics that aren't 0, each behind its index, from index i on
abbrev pub pairs_from : ℕ → List ℕ → Row
pairs_from i [] = []
pairs_from i (v ∷ l) = cond (nonzero v) (i ∷ v ∷ []) [] ++ pairs_from (suc i) l

keep-map : (p : ℕ → Bool) (f : ℕ → ℕ) (ts : List ℕ) → length (keep (λ t. p (f t)) ts) ≡ length (keep p (map f ts))
keep-map p f [] = refl
keep-map p f (t ∷ ts) = test-case (p (f t)) (λ e. rw e (ap suc (keep-map p f ts))) (λ e. rw e (keep-map p f ts))

pair-is : (t v : ℕ) (b : Bool) → number (bytes4 v) ≡ v → pair t (cond b (some (bytes4 v)) none) ≡ cond b ((t - 1) ∷ v ∷ []) []
pair-is t v true e = ap (λ (n : ℕ). (t - 1) ∷ n ∷ []) e
pair-is t v false e = refl

module _ (l : List ℕ) where
  -- ---- their bytes
  pub metrics-length : length (written_all (metric_entries l)) ≤ 136
  metrics-length = at-most (metric_entries l)

  fitting : all writable (presents (metric_entries l)) ≡ true
  fitting = all-entries writable (metric_entries l) refl

  metrics-back : attributes (written_all (metric_entries l)) ≡ presents (metric_entries l)
  unfolding written_all
  metrics-back = attributes-back (presents (metric_entries l)) fitting

  pub metrics-right : right (written_all (metric_entries l)) ≡ true
  unfolding written_all
  metrics-right = right-back (presents (metric_entries l)) fitting

  pub metrics-sized : all metric_sized (attributes (written_all (metric_entries l))) ≡ true
  metrics-sized = ap (all metric_sized) metrics-back ∙ all-entries metric_sized (metric_entries l) refl

  -- ---- without one that isn't 0 there is no attribute, and there would be none in it
  all-zero : (k : List ℕ) → any nonzero k ≡ false → (i : ℕ) → get_or k i 0 ≡ 0
  all-zero [] h i = refl
  all-zero (x ∷ k) h zero = zero-back x (or-false (nonzero x) (any nonzero k) h).0
  all-zero (x ∷ k) h (suc i) = all-zero k (or-false (nonzero x) (any nonzero k) h).1 i

  none-present : ((i : ℕ) → get_or l i 0 ≡ 0) → (ts : List ℕ) → presents (map (metric_entry l) ts) ≡ []
  none-present z [] = refl
  none-present z (t ∷ ts) = rw (z (t - 1)) (none-present z ts)

  pub nested-back : nested (cond (any nonzero l) (some (written_all (metric_entries l))) none) ≡ presents (metric_entries l)
  nested-back =
      test-case (any nonzero l)
      (λ e. rw e metrics-back)
      (λ e. rw e (sym (none-present (all-zero l e) types)))

  -- ---- each of them
  entry-is : (t : ℕ) (ts : List ℕ) → among t ts ≡ true
      → entry t (map (metric_entry l) ts) ≡ cond (nonzero (get_or l (t - 1) 0)) (some (bytes4 (get_or l (t - 1) 0))) none
  entry-is t [] h = absurd (true-false false h refl)
  entry-is t (u ∷ ts) h =
      test-case (eqb u t)
      (λ e. rw (e, eqb-true u t e))
      (λ e. rw e (entry-is t ts (or_case (eqb t u) (among t ts) h (λ d. absurd (true-false (eqb u t) (eq-eqb u t (sym (eqb-true t u d))) e)) (λ d. d))))

  last-is : (t : ℕ) → among t types ≡ true
      → last t (presents (metric_entries l)) ≡ cond (nonzero (get_or l (t - 1) 0)) (some (bytes4 (get_or l (t - 1) 0))) none
  last-is t h = last-entry t (metric_entries l) refl ∙ entry-is t types h

  none-unknown : (k : List Attribute) → all (λ a. not (ltb rtax_max a.code)) k ≡ true → unknown_metric k ≡ false
  none-unknown [] h = refl
  none-unknown (a ∷ k) h =
      let p = ltb rtax_max a.code in
      let r = all (λ (x : Attribute). not (ltb rtax_max x.code)) k in
      rw (not-true p (and_left (not p) r h)) (none-unknown k (and_right (not p) r h))

  known : unknown_metric (presents (metric_entries l)) ≡ false
  known = none-unknown (presents (metric_entries l)) (all-entries (λ a. not (ltb rtax_max a.code)) (metric_entries l) refl)

  -- ---- all of them, as a request has them
  module _ (long : length l ≡ 17) (b : Below 4294967296 l) where
    abbrev at : ℕ → ℕ
    at t = get_or l (t - 1) 0

    abbrev read_in : List Attribute
    read_in = presents (metric_entries l)

    listed-all : listed 17 0 l ≡ l
    listed-all = sym (lists 17 0 l (omega (arith, long))) ∙ take_all 17 l (omega (arith, long))

    same-values : (ts : List ℕ) → all (λ t. among t types) ts ≡ true → map (metric read_in) ts ≡ map at ts
    same-values [] h = refl
    same-values (t ∷ ts) h =
        let here = among t types in
        let rest = all (λ (u : ℕ). among u types) ts in
        let value : metric read_in t ≡ at t =
        ap (or_else number 0) (last-is t (and_left here rest h))
        ∙ or-back number (nonzero (at t)) (bytes4 (at t)) (at t) (number-back (at t) (b (t - 1))) (zero-back (at t))
        in
        ap₂ (λ (n : ℕ) (k : List ℕ). n ∷ k) value (same-values ts (and_right here rest h))

    same-given : (ts : List ℕ) → all (λ t. among t types) ts ≡ true
        → keep (λ t. given (last t read_in)) ts ≡ keep (λ t. nonzero (at t)) ts
    same-given [] h = refl
    same-given (t ∷ ts) h =
        let here = among t types in
        let rest = all (λ (u : ℕ). among u types) ts in
        let there : given (last t read_in) ≡ nonzero (at t) =
        ap given (last-is t (and_left here rest h)) ∙ given-is (nonzero (at t)) (bytes4 (at t))
        in
        ap₂ (λ (c : Bool) (k : List ℕ). cond c (t ∷ k) k) there (same-given ts (and_right here rest h))

    same-pairs : (ts : List ℕ) → all (λ t. among t types) ts ≡ true
        → each (λ t. pair t (last t read_in)) ts ≡ each (λ t. cond (nonzero (at t)) ((t - 1) ∷ at t ∷ []) []) ts
    same-pairs [] h = refl
    same-pairs (t ∷ ts) h =
        let here = among t types in
        let rest = all (λ (u : ℕ). among u types) ts in
        let one : pair t (last t read_in) ≡ cond (nonzero (at t)) ((t - 1) ∷ at t ∷ []) [] =
        ap (pair t) (last-is t (and_left here rest h)) ∙ pair-is t (at t) (nonzero (at t)) (number-back (at t) (b (t - 1)))
        in
        ap₂ (λ (j k : List ℕ). j ++ k) one (same-pairs ts (and_right here rest h))

    -- a request to add: no error, and the 17 metrics
    pub asked-back : metrics_asked read_in ≡ 0 ∷ l
    unfolding metrics_asked
    asked-back = rw known (ap (λ (k : List ℕ). 0 ∷ k) (same-values types refl ∙ listed-all))

    -- a request to delete: a list, how many, and the pairs
    pub pairs-back : pairs_asked read_in ≡ 1 ∷ length (keep nonzero l) ∷ pad 34 (pairs_from 0 l)
    unfolding pairs_asked
    pairs-back =
        let many : length (keep (λ t. given (last t read_in)) types) ≡ length (keep nonzero l) =
        ap length (same-given types refl) ∙ keep-map nonzero at types ∙ ap (λ (k : List ℕ). length (keep nonzero k)) listed-all
        in
        let pairs : each (λ t. pair t (last t read_in)) types ≡ pairs_from 0 l = same-pairs types refl ∙ ap (pairs_from 0) listed-all in
        rw known (ap₂ (λ (n : ℕ) (k : List ℕ). 1 ∷ n ∷ pad 34 k) many pairs)
