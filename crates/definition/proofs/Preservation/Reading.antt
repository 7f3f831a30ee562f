-- What the reading calls give: a listing of at most 256 rows of 32 words, a fit row, never 203.
-- Assumes nothing.
use Rattle.std.specs.Prelude.{ℕ, zero, suc, ◌%◌, ◌≤◌, ◌≢◌, ◌≡◌, Bool, true, ◌&&◌, List, [], ◌∷◌, reverse, eqb, ltb, length}
use Rattle.std.proofs.Math.Option.{Option, none, some}
use Rattle.std.proofs.Common.{sym, ap, ◌∙◌, arith, leb-true, eqb-true, ltb-true, lt-ltb, le-ltb}
use Rattle.std.proofs.lemmas.Bool.{eqb-false, not-true}
use Rattle.lists.specs.Lists.{Row, all, keep}
use Rattle.lists.specs.Rows.{sized}
use Rattle.lists.specs.Bools.{and_iff, and_right, cond-case, test-case, fails, true-false}
use Rattle.lists.specs.All.{all_head, all_tail, all_keep, all-kept}
use Rattle.lists.specs.Count.{tick, tick-one, tick-none, tick-most, count, count_append, count-keep, count-apart, count-reverse, count-each, all-each, Once, pairwise-once, length-picked}
use Rattle.kind.specs.Kind.{error_of}
use Rattle.layout.specs.Route.{fit_route, table, len, kind}
use Rattle.definition.specs.State.{State}
use Rattle.definition.specs.Words.{none_twice}
use Rattle.definition.specs.Reference.Source.{below, table_order, dump4}
use Rattle.definition.specs.Preservation.Fit.{Invariant, fit-state, sized-routes}
use Rattle.definition.specs.Preservation.Encode.{Admissible}
use Rattle.definition.specs.Reference.Lookup.{Flow, Found, route, no_route, fits, longer, longest, answer, together, lookup_in, ruling, settled, rejects, listed, default_table, main_table}

-- ---- dump4
below-count : (m n : ℕ) → count (eqb n) (below m) ≤ tick (ltb n m)
unfolding below
below-count zero n = omega arith
below-count (suc m) n =
    let ih : count (eqb n) (below m) ≤ tick (ltb n m) = below-count m n in
    let sum = count_append (eqb n) (below m) (m ∷ []) in
    test-case (eqb n m)
    (λ e.
    let same : n ≡ m = eqb-true n m e in
    omega (arith, tick-none (ltb n m) (le-ltb n m (omega arith)), tick-one (ltb n (suc m)) (lt-ltb n (suc m) (omega arith)), tick-most (eqb n m)))
    (λ e.
    test-case (ltb n m)
    (λ d. omega (arith, tick-none (eqb n m) e, tick-most (ltb n m), tick-one (ltb n (suc m)) (lt-ltb n (suc m) (omega (arith, ltb-true n m d)))))
    (λ d. omega (arith, tick-none (eqb n m) e, tick-none (ltb n m) d)))

once-below : (m : ℕ) → Once (below m)
once-below m = record { once = λ n. omega (arith, below-count m n, tick-most (ltb n m)) }

-- a number stands in its own bucket only
once-bucket : (l : List ℕ) (n b : ℕ) → count (eqb n) l ≤ 1 → count (eqb n) (reverse (keep (λ t. eqb (t % 256) b) l)) ≤ tick (eqb (n % 256) b)
once-bucket l n b o =
    let turned = count-reverse (eqb n) (keep (λ t. eqb (t % 256) b) l) in
    test-case (eqb (n % 256) b)
    (λ e. omega (arith, count-keep (eqb n) (λ t. eqb (t % 256) b) l, tick-one (eqb (n % 256) b) e))
    (λ e. omega (
      arith,
      count-apart (λ t. eqb (t % 256) b) (eqb n) (keep (λ t. eqb (t % 256) b) l)
          (λ t k. fails (eqb n t) (λ d. true-false (eqb (t % 256) b) k (ap (λ (x : ℕ). eqb (x % 256) b) (sym (eqb-true n t d)) ∙ e)))
          (all-kept (λ t. eqb (t % 256) b) l),
    ))

once-order : (l : List ℕ) → Once l → Once (table_order l)
unfolding table_order
once-order l o =
    record {
      once = λ n.
          let each : count (eqb n) (table_order l) ≤ count (eqb (n % 256)) (below 256) =
          count-each (eqb n) (eqb (n % 256)) (λ b. reverse (keep (λ t. eqb (t % 256) b) l)) (below 256)
          (λ b. once-bucket l n b (o.once n))
          in
          omega (arith, (once-below 256).once (n % 256));
    }

pub dump4-few : (st : State) → Invariant st → length (dump4 st) ≤ length st.routes
unfolding dump4 none_twice
dump4-few st f = length-picked table st.routes (table_order st.tables) (once-order st.tables (pairwise-once st.tables f.of_tables))

pub dump4-fit : (st : State) → Invariant st → all fit_route (dump4 st) ≡ true
unfolding dump4
dump4-fit st f =
    all-each fit_route (λ t. keep (λ r. eqb (table r) t) st.routes) (table_order st.tables) (λ t. all_keep fit_route (λ r. eqb (table r) t) st.routes f.of_routes.each)

pub dump4-listing : (st : State) → Admissible st → (length (dump4 st) ≤ 256) × (sized 32 (dump4 st) ≡ true)
dump4-listing st g =
    let f = fit-state st g.fits in
    let k = simp and_iff at g.limits in
    (omega (arith, dump4-few st f, leb-true (length st.routes) 256 k.0.1), sized-routes (dump4 st) (dump4-fit st f))

-- ---- lookups
-- a row, if there is one, passes
abbrev pub Passing : (Row → Bool) → Option Row → Type 0
Passing p none = Unit
Passing p (some r) = p r ≡ true

-- a row that is found passes, and no refusal is that of a throw
abbrev pub FoundIn : (Row → Bool) → Found → Type 0
FoundIn p (route r) = p r ≡ true
FoundIn p (no_route n) = n ≢ 11

longer-passes : (p : Row → Bool) (x : Row) (o : Option Row) → p x ≡ true → Passing p o → p (longer x o) ≡ true
longer-passes p x none h k = h
longer-passes p x (some s) h k = cond-case (λ (r : Row). p r ≡ true) (ltb (len x) (len s)) (λ e. k) (λ e. h)

pub longest-passes : (p : Row → Bool) (l : List Row) → all p l ≡ true → Passing p (longest l)
unfolding longest
longest-passes p [] h = tt
longest-passes p (x ∷ l) h = longer-passes p x (longest l) (all_head p x l h) (longest-passes p l (all_tail p x l h))

pub answer-passes : (p : Row → Bool) (tables : ℕ → Bool) (f : Flow) (rows : List Row) → all p rows ≡ true → Passing p (answer tables f rows)
unfolding answer
answer-passes p tables f rows h =
    longest-passes p (keep (λ r. tables (table r) && fits f r) rows) (all_keep p (λ r. tables (table r) && fits f r) rows h)

ruling-passes : (p : Row → Bool) (o : Option Row) → Passing p o → settled o ≡ true → FoundIn p (ruling o)
ruling-passes p none h k = omega arith
ruling-passes p (some r) h k =
    cond-case (FoundIn p) (rejects r) (λ e. eqb-false (error_of (kind r)) 11 (not-true (eqb (error_of (kind r)) 11) k)) (λ e. h)

pub lookup-passes : (p : Row → Bool) (st : State) (f : Flow) → all p st.routes ≡ true → FoundIn p (lookup_in st f)
unfolding lookup_in
lookup-passes p st f h =
    let upper : Option Row = answer (together main_table) f st.routes in
    let lower : Option Row = answer (together default_table) f st.routes in
    let nowhere : ◌≢◌ {A = ℕ} 101 11 = omega arith in
    cond-case (FoundIn p) (settled upper) (λ e. ruling-passes p upper (answer-passes p (together main_table) f st.routes h) e)
    (λ e. cond-case (FoundIn p) (listed default_table st && settled lower)
    (λ d. ruling-passes p lower (answer-passes p (together default_table) f st.routes h) (and_right (listed default_table st) (settled lower) d))
    (λ d. nowhere))

-- the row of a lookup is fit
pub lookup-fit : (st : State) (f : Flow) → Invariant st → FoundIn fit_route (lookup_in st f)
lookup-fit st f h = lookup-passes fit_route st f h.of_routes.each
