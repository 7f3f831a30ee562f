-- A list of metrics once all its attributes are taken, and the words that it gives.
-- Assumes nothing.
use Rattle.std.specs.Prelude.{ℕ, zero, suc, ◌-◌, ◌≤◌, ◌<◌, ◌≡◌, refl, Bool, true, false, cond, ◌&&◌, ◌||◌, List, [], ◌∷◌, Option, None, Some, is_some, unwrap_or, map, eqb, leb, ltb, length, slice_index_or, replicate}
use Rattle.std.specs.List.{fold}
use Rattle.std.proofs.Common.{ap, ◌∙◌, arith, length-set, get_or-set_same, get_or-set_other, eqb-true, leb-true, le-leb}
use Rattle.std.proofs.Math.Option as Math
use Rattle.std.proofs.lemmas.Bool.{eqb-false}
use Rattle.lists.specs.Lists.{all, each, keep, zeros, pad}
use Rattle.lists.specs.All.{all_mono}
use Rattle.lists.specs.Bools.{and_left, and_right, and_both, test-case}
use Rattle.netlink.specs.Codes.{rtax_max}
use Rattle.netlink.specs.Attributes.{Attribute, last_after, last}
use Rattle.netlink.specs.Reader.{number, given, or_else, types, metric, is_metric, metric_sized, unknown_metric, metrics_asked, pair, pairs_asked}
use Rattle.netlink_attributes.specs.Kept.{fits, long, placed, chosen, kept, part, flagged, raised}
use Rattle.netlink_route.specs.declared.metrics.Metrics.{Metrics}
use Rattle.netlink_route.specs.MetricSteps.{metrics_step, fresh, slot}
use Rattle.netlink_route.specs.MetricWords.{number_pair, pairs_of, value_words, metric_row, pair_row}

abbrev some_number : List ℕ → Option ℕ
some_number p = Some (number p)

module _ (l : List Attribute) where
  abbrev pub taken : Metrics
  taken = fold metrics_step fresh l

  pub metrics-sized : taken.is_sized ≡ all metric_sized l
  metrics-sized = part metrics_step (λ s. s.is_sized) (λ b a. b && metric_sized a) (λ s a. refl) fresh l ∙ flagged metric_sized true l

  pub metrics-unknown : taken.has_unknown ≡ unknown_metric l
  metrics-unknown =
      part metrics_step (λ s. s.has_unknown) (λ b a. b || ltb rtax_max a.code) (λ s a. refl) fresh l
      ∙ raised (λ (a : Attribute). ltb rtax_max a.code) false l

-- ---- the value of a type
abbrev none_there : Option ℕ
none_there = None

abbrev changes : Attribute → Bool
changes a = is_metric a && long 4 a.payload

long-step : (s : Metrics) (a : Attribute) → length s.values ≡ 17 → length (metrics_step s a).values ≡ 17
long-step s a n = test-case (changes a) (λ w. rw (w, length-set) n) (λ w. rw w n)

empty : (n i : ℕ) → slice_index_or (replicate n None) i None ≡ none_there
empty zero i = refl
empty (suc n) zero = refl
empty (suc n) (suc i) = empty n i

module _ (k : ℕ) (g : 1 ≤ k) (h : k < 18) where
  same-type : (a : Attribute) → a.code ≡ k → is_metric a ≡ true
  same-type a e = and_both (leb 1 a.code) (leb a.code rtax_max) (le-leb 1 a.code (omega arith)) (le-leb a.code rtax_max (omega arith))

  one-step : (s : Metrics) (a : Attribute) → length s.values ≡ 17 → slot (metrics_step s a).values k ≡ placed k (long 4) some_number (slot s.values k) a
  one-step s a n =
      test-case (eqb a.code k)
      (λ w. let e = eqb-true a.code k w in
      test-case (long 4 a.payload)
      (λ u. let here : changes a ≡ true = and_both (is_metric a) (long 4 a.payload) (same-type a e) u in
      let at : a.code - 1 ≡ k - 1 = omega (arith, e) in
      rw (here, w, u, at) (get_or-set_same s.values (k - 1) (some_number a.payload) None (omega arith)))
      (λ u. rw (same-type a e, w, u)))
      (λ w. test-case (changes a)
      (λ u. let least = leb-true 1 a.code (and_left (leb 1 a.code) (leb a.code rtax_max) (and_left (is_metric a) (long 4 a.payload) u)) in
      let other : k - 1 ≡ a.code - 1 → ⊥ = (λ z. eqb-false a.code k w (omega (arith, least, z))) in
      rw (u, w) (get_or-set_other s.values (a.code - 1) (k - 1) (some_number a.payload) None other))
      (λ u. rw (u, w)))

  by-steps : (s : Metrics) (l : List Attribute) → length s.values ≡ 17
      → slot (fold metrics_step s l).values k ≡ fold (placed k (long 4) some_number) (slot s.values k) l
  by-steps s [] n = refl
  by-steps s (a ∷ l) n =
      by-steps (metrics_step s a) l (long-step s a n)
      ∙ ap (λ (o : Option ℕ). fold (placed k (long 4) some_number) o l) (one-step s a n)

  fit : (a : Attribute) → metric_sized a ≡ true → fits k (long 4) a ≡ true
  fit a e =
      test-case (eqb a.code k)
      (λ w. let here = same-type a (eqb-true a.code k w) in let good : long 4 a.payload ≡ true = rw here at e in rw (w, good))
      (λ w. rw w)

  value-is : (l : List Attribute) → all metric_sized l ≡ true → slot (fold metrics_step fresh l).values k ≡ chosen some_number None (last k l)
  value-is l e =
      by-steps fresh l refl
      ∙ ap (λ (o : Option ℕ). fold (placed k (long 4) some_number) o l) (empty 17 (k - 1))
      ∙ kept k some_number (long 4) None l (all_mono metric_sized (fits k (long 4)) l fit e)

-- ---- the words, type by type
abbrev in_range : ℕ → Bool
in_range t = leb 1 t && leb t 17

module _ {B : Type 0} (f g : ℕ → B) (h : (t : ℕ) → 1 ≤ t → t < 18 → f t ≡ g t) where
  at-type : (t : ℕ) → in_range t ≡ true → f t ≡ g t
  at-type t w =
      h t (leb-true 1 t (and_left (leb 1 t) (leb t 17) w)) (omega (arith, leb-true t 17 (and_right (leb 1 t) (leb t 17) w)))

  map-same : (ts : List ℕ) → all in_range ts ≡ true → map f ts ≡ map g ts
  map-same [] w = refl
  map-same (t ∷ ts) w =
      let here = at-type t (and_left (in_range t) (all in_range ts) w) in
      let rest = map-same ts (and_right (in_range t) (all in_range ts) w) in
      cc

each-same : (f g : ℕ → List ℕ) → ((t : ℕ) → 1 ≤ t → t < 18 → f t ≡ g t) → (ts : List ℕ) → all in_range ts ≡ true → each f ts ≡ each g ts
each-same f g h [] w = refl
each-same f g h (t ∷ ts) w =
    let here = at-type f g h t (and_left (in_range t) (all in_range ts) w) in
    let rest = each-same f g h ts (and_right (in_range t) (all in_range ts) w) in
    cc

keep-same : (f g : ℕ → Bool) → ((t : ℕ) → 1 ≤ t → t < 18 → f t ≡ g t) → (ts : List ℕ) → all in_range ts ≡ true → keep f ts ≡ keep g ts
keep-same f g h [] w = refl
keep-same f g h (t ∷ ts) w =
    let here = at-type f g h t (and_left (in_range t) (all in_range ts) w) in
    let rest = keep-same f g h ts (and_right (in_range t) (all in_range ts) w) in
    (λ i. cond (here i) (t ∷ rest i) (rest i))

word-is : (o : Option ℕ) (p : Math.Option (List ℕ)) → o ≡ chosen some_number None p → unwrap_or o 0 ≡ or_else number 0 p
word-is o Math.none e = ap (λ (o : Option ℕ). unwrap_or o 0) e
word-is o (Math.some p) e = ap (λ (o : Option ℕ). unwrap_or o 0) e

there-is : (o : Option ℕ) (p : Math.Option (List ℕ)) → o ≡ chosen some_number None p → is_some o ≡ given p
there-is o Math.none e = ap (λ (o : Option ℕ). is_some o) e
there-is o (Math.some p) e = ap (λ (o : Option ℕ). is_some o) e

pair-is : (t : ℕ) (o : Option ℕ) (p : Math.Option (List ℕ)) → o ≡ chosen some_number None p → number_pair t o ≡ pair t p
pair-is t o Math.none e = ap (number_pair t) e
pair-is t o (Math.some p) e = ap (number_pair t) e

module _ (l : List Attribute) (h : all metric_sized l ≡ true) where
  values-are : value_words (taken l).values ≡ map (metric l) types
  values-are =
      map-same (λ t. unwrap_or (slot (taken l).values t) 0) (metric l)
      (λ t g k. word-is (slot (taken l).values t) (last t l) (value-is t g k l h)) types refl

  pairs-are : pairs_of (taken l).values types ≡ each (λ t. pair t (last t l)) types
  pairs-are =
      each-same (λ t. number_pair t (slot (taken l).values t)) (λ t. pair t (last t l))
      (λ t g k. pair-is t (slot (taken l).values t) (last t l) (value-is t g k l h)) types refl

  there-are : keep (λ t. is_some (slot (taken l).values t)) types ≡ keep (λ t. given (last t l)) types
  there-are =
      keep-same (λ t. is_some (slot (taken l).values t)) (λ t. given (last t l))
      (λ t g k. there-is (slot (taken l).values t) (last t l) (value-is t g k l h)) types refl

  pub row-is : metric_row (taken l) ≡ metrics_asked l
  unfolding metric_row metrics_asked
  row-is = λ i. cond (metrics-unknown l i) (22 ∷ zeros 17) (0 ∷ values-are i)

  pub pair_row-is : pair_row (taken l) ≡ pairs_asked l
  unfolding pair_row pairs_asked
  pair_row-is = λ i. cond (metrics-unknown l i) (zeros 36) (1 ∷ length (there-are i) ∷ pad 34 (pairs-are i))

-- ---- no list
pub no_metrics : zeros 18 ≡ metrics_asked []
unfolding zeros metrics_asked last_after
no_metrics = refl

pub no_pairs : 1 ∷ zeros 35 ≡ pairs_asked []
unfolding zeros pad pairs_asked last_after
no_pairs = refl
