-- Rows counted by their table: a row more is one more at the place of its table.
-- Assumes nothing.
use Rattle.std.specs.Prelude.{ℕ, zero, suc, ◌+◌, ◌-◌, ◌≤◌, ◌<◌, ◌≡◌, refl, Bool, true, false, not, List, [], ◌∷◌, ◌++◌, Option, Some, None, map, eqb, leb, length, get_or, set, take, drop, position}
use Rattle.std.proofs.Common.{sym, ap, ap₂, ◌∙◌, arith, add-one, take-append-drop, not-suc-le-zero, le_of_suc-le-suc, eqb-true, eq-eqb, leb-true, le-leb}
use Rattle.std.proofs.Math.ListN.{length-map, get_or-append}
use Rattle.std.proofs.Math.Seq.{take-length}
use Rattle.std.proofs.lemmas.Bool.{not-true}
use Rattle.std.proofs.lemmas.List.{set-append_left, length-set}
use Rattle.std.proofs.lemmas.List.Quantifiers.{position-Some}
use Rattle.lists.specs.Lists.{Row, all, pairwise, among, pad, zeros}
use Rattle.lists.specs.Bools.{and_left, and_right, or-false, fails, true-false}
use Rattle.lists.specs.Rows.{zeros_append, length-zeros}
use Rattle.lists.specs.All.{all_mono}
use Rattle.lists.specs.At.{all-at, all_set}
use Rattle.lists.specs.Count.{tick, tick-one, tick-none, count_append, length-keep}
use Rattle.lists.specs.Split.{all-other, take_more}
use Rattle.lists.specs.Place.{any_at}
use Rattle.lists.specs.Library.{missing-place}
use Rattle.layout.specs.Route.{table}
use Rattle.definition.specs.Words.{table_limit, rows_of_table, none_twice}

-- each hint is a place among the tables
abbrev pub Hinting : List ℕ → List ℕ → Type 0
Hinting ts hints = (c : ℕ) → get_or hints c 0 < length ts

-- a table's place among the tables
abbrev pub Placed : List ℕ → ℕ → Option ℕ → Type 0
Placed ts t (Some i) = (i < length ts) × (get_or ts i 0 ≡ t)
Placed ts t None = among t ts ≡ false

-- so many rows of each table
abbrev pub numbers : List Row → List ℕ → List ℕ
numbers rows ts = map (λ t. rows_of_table t rows) ts

-- the numbers for every place in the list of tables, where no table is listed twice
abbrev pub Counted : List Row → List ℕ → List ℕ → Type 0
Counted rows ts counts = none_twice ts ≡ true → counts ≡ pad table_limit (numbers rows ts)

-- the numbers of one list with those of another added, place by place
abbrev pub sums : List ℕ → List ℕ → List ℕ
sums [] b = []
sums (x ∷ a) [] = x ∷ a
sums (x ∷ a) (y ∷ b) = (x + y) ∷ sums a b

-- ---- a row more
rows-more : (t : ℕ) (rows : List Row) (r : Row) → rows_of_table t (rows ++ (r ∷ [])) ≡ rows_of_table t rows + tick (eqb (table r) t)
rows-more t rows r =
    let p : Row → Bool = λ r. eqb (table r) t in
    omega (arith, length-keep p (rows ++ (r ∷ [])), count_append p rows (r ∷ []), length-keep p rows)

module _ (rows : List Row) (r : Row) where
  abbrev more : List Row
  more = rows ++ (r ∷ [])

  same-other : (t : ℕ) → eqb (table r) t ≡ false → rows_of_table t rows ≡ rows_of_table t more
  same-other t e = omega (arith, rows-more t rows r, tick-none (eqb (table r) t) e)

  -- of a table that isn't listed: counted nowhere
  pub more-nowhere : (ts : List ℕ) → among (table r) ts ≡ false → numbers rows ts ≡ numbers more ts
  more-nowhere [] h = refl
  more-nowhere (t ∷ ts) h =
      let k = or-false (eqb (table r) t) (among (table r) ts) h in
      ap₂ (λ (n : ℕ) (l : List ℕ). n ∷ l) (same-other t k.0) (more-nowhere ts k.1)

  -- of the table at a place, which stands at no other
  pub more-at : (ts : List ℕ) (i : ℕ) → none_twice ts ≡ true → i < length ts → get_or ts i 0 ≡ table r
      → set (numbers rows ts) i (get_or (numbers rows ts) i 0 + 1) ≡ numbers more ts
  unfolding none_twice
  more-at [] i h b e = absurd (not-suc-le-zero b)
  more-at (t ∷ ts) zero h b e =
      let others : among t ts ≡ false =
      not-true (among t ts) (sym (all-other t ts) ∙ and_left (all (λ x. not (eqb t x)) ts) (pairwise (λ a b. not (eqb a b)) ts) h)
      in
      ap₂ (λ (n : ℕ) (l : List ℕ). n ∷ l)
      (omega (arith, rows-more t rows r, tick-one (eqb (table r) t) (eq-eqb (table r) t (sym e))))
      (more-nowhere ts (rw e at others))
  more-at (t ∷ ts) (suc i) h b e =
      let rest = and_right (all (λ x. not (eqb t x)) ts) (pairwise (λ a b. not (eqb a b)) ts) h in
      let other : eqb (table r) t ≡ false =
      fails (eqb (table r) t)
      (λ q.
      let x = get_or ts i 0 in
      let apart = all-at (λ x. not (eqb t x)) i ts 0 (le_of_suc-le-suc b) (and_left (all (λ x. not (eqb t x)) ts) (pairwise (λ a b. not (eqb a b)) ts) h) in
      true-false (eqb t x) (eq-eqb t x (sym (e ∙ eqb-true (table r) t q))) (not-true (eqb t x) apart))
      in
      ap₂ (λ (n : ℕ) (l : List ℕ). n ∷ l) (same-other t other) (more-at ts i rest (le_of_suc-le-suc b) e)

-- ---- the hints
zeros-at : (n c : ℕ) → get_or (zeros n) c 0 ≡ 0
unfolding zeros
zeros-at zero c = refl
zeros-at (suc n) zero = refl
zeros-at (suc n) (suc c) = zeros-at n c

pub hinting-start : (ts : List ℕ) → 0 < length ts → Hinting ts (zeros 256)
hinting-start ts h c = rw zeros-at h

pub hinting-set : {n : ℕ} (l : List ℕ) (i v : ℕ) → v < n → ((c : ℕ) → get_or l c 0 < n) → (c : ℕ) → get_or (set l i v) c 0 < n
hinting-set [] i v h f c = f c
hinting-set (x ∷ l) zero v h f zero = h
hinting-set (x ∷ l) zero v h f (suc c) = f (suc c)
hinting-set (x ∷ l) (suc i) v h f zero = f zero
hinting-set (x ∷ l) (suc i) v h f (suc c) = hinting-set l i v h (λ c. f (suc c)) c

-- ---- the place of a table
pub placed-search : (ts : List ℕ) (t : ℕ) (o : Option ℕ) → o ≡ position (eqb t) ts → Placed ts t o
placed-search ts t (Some i) e =
    let k = position-Some (eqb t) ts i 0 (sym e) in
    (k.0, sym (eqb-true t (get_or ts i 0) k.1))
placed-search ts t None e = fails (among t ts) (λ q. omega (arith, any_at (eqb t) ts q, missing-place (eqb t) ts (sym e)))

-- ---- the first i rows are counted
pub record Tallied (rows : List Row) (ts : List ℕ) (i : ℕ) (counts : List ℕ) : Type 0 where
  pub long : length counts ≡ table_limit
  pub few : all (λ n. leb n i) counts ≡ true
  pub right : Counted (take i rows) ts counts

numbers-none : (ts : List ℕ) → numbers [] ts ≡ zeros (length ts)
unfolding zeros
numbers-none [] = refl
numbers-none (t ∷ ts) = ap (λ (l : List ℕ). 0 ∷ l) (numbers-none ts)

pad-zeros : (n m : ℕ) → m ≤ n → zeros n ≡ pad n (zeros m)
unfolding pad
pad-zeros n m h =
    let on : m + (n - m) ≡ n = omega arith in
    ap zeros (sym on) ∙ sym (zeros_append m (n - m)) ∙ ap (λ (k : ℕ). zeros m ++ zeros (n - k)) (sym (length-zeros m))

pub none-listed : (rows : List Row) (ts : List ℕ) → length ts ≡ 0 → Counted rows ts (zeros table_limit)
unfolding zeros
none-listed rows [] h d = pad-zeros table_limit 0 (omega arith)
none-listed rows (t ∷ ts) h d = absurd (omega (arith, h))

few-none : all (λ n. leb n 0) (zeros table_limit) ≡ true
unfolding zeros
few-none = refl

pub tally-start : (rows : List Row) (ts : List ℕ) → length ts ≤ table_limit → Tallied rows ts 0 (zeros table_limit)
tally-start rows ts h =
    record { long = length-zeros table_limit; few = few-none; right = λ d. pad-zeros table_limit (length ts) h ∙ ap (pad table_limit) (sym (numbers-none ts)) }

-- a word changed in front of the zeros
set-pad : (n j v : ℕ) (l : List ℕ) → j < length l → set (pad n l) j v ≡ pad n (set l j v)
unfolding pad
set-pad n j v l h =
    set-append_left l (zeros (n - length l)) j v h ∙ ap (λ (k : ℕ). set l j v ++ zeros (n - k)) (sym (length-set l j v))

get-pad : (n j : ℕ) (l : List ℕ) → j < length l → get_or (pad n l) j 0 ≡ get_or l j 0
unfolding pad
get-pad n j l h = get_or-append l (zeros (n - length l)) 0 j h

module _ (rows : List Row) (ts : List ℕ) (i : ℕ) {counts : List ℕ} (b : i < length rows) (s : Tallied rows ts i counts) where
  few-more : all (λ n. leb n (i + 1)) counts ≡ true
  few-more = all_mono (λ n. leb n i) (λ n. leb n (i + 1)) counts (λ n e. le-leb n (i + 1) (omega (arith, leb-true n i e))) s.few

  pub tally-nowhere : among (table (get_or rows i [])) ts ≡ false → Tallied rows ts (i + 1) counts
  tally-nowhere h =
      record {
        long = s.long;
        few = few-more;
        right = λ d. s.right d
            ∙ ap (pad table_limit) (more-nowhere (take i rows) (get_or rows i []) ts h ∙ ap (λ (l : List Row). numbers l ts) (sym (take_more rows i [] b)));
      }

  module _ (j : ℕ) (room : length ts ≤ table_limit) (k : j < length ts) where
    inside : j < length counts
    inside = omega (arith, s.long)

    pub count-few : get_or counts j 0 ≤ i
    count-few = leb-true (get_or counts j 0) i (all-at (λ n. leb n i) j counts 0 inside s.few)

    pub tally-at : get_or ts j 0 ≡ table (get_or rows i []) → Tallied rows ts (i + 1) (set counts j (get_or counts j 0 + 1))
    tally-at e =
        record {
          long = length-set counts j (get_or counts j 0 + 1) ∙ s.long;
          few = all_set (λ n. leb n (i + 1)) j (get_or counts j 0 + 1) counts inside (le-leb (get_or counts j 0 + 1) (i + 1) (omega (arith, count-few))) few-more;
          right = λ d.
              let was = numbers (take i rows) ts in
              let there : j < length was = omega (arith, length-map ts (λ t. rows_of_table t (take i rows)), k) in
              ap (λ (l : List ℕ). set l j (get_or l j 0 + 1)) (s.right d)
              ∙ ap (λ (n : ℕ). set (pad table_limit was) j (n + 1)) (get-pad table_limit j was there)
              ∙ set-pad table_limit j (get_or was j 0 + 1) was there
              ∙ ap (pad table_limit) (more-at (take i rows) (get_or rows i []) ts j d k e ∙ ap (λ (l : List Row). numbers l ts) (sym (take_more rows i [] b)));
        }

-- ---- counts of two parts
sums_none : (a : List ℕ) → sums a [] ≡ a
sums_none [] = refl
sums_none (x ∷ a) = refl

pub sums-start : (a b : List ℕ) → a ≡ sums a (take 0 b)
sums-start a b = sym (sums_none a)

pub sums-ahead : (i : ℕ) (a b : List ℕ) → get_or (sums a (take i b)) i 0 ≡ get_or a i 0
sums-ahead zero a b = ap (λ (l : List ℕ). get_or l 0 0) (sums_none a)
sums-ahead (suc i) [] b = refl
sums-ahead (suc i) (x ∷ a) [] = refl
sums-ahead (suc i) (x ∷ a) (y ∷ b) = sums-ahead i a b

sums_next : (i : ℕ) (a b : List ℕ) → i < length a → i < length b → set (sums a (take i b)) i (get_or (sums a (take i b)) i 0 + get_or b i 0) ≡ sums a (take (suc i) b)
sums_next i [] b h k = absurd (not-suc-le-zero h)
sums_next i (x ∷ a) [] h k = absurd (not-suc-le-zero k)
sums_next zero (x ∷ a) (y ∷ b) h k = ap (λ (l : List ℕ). (x + y) ∷ l) (sym (sums_none a))
sums_next (suc i) (x ∷ a) (y ∷ b) h k = ap (λ (l : List ℕ). (x + y) ∷ l) (sums_next i a b (le_of_suc-le-suc h) (le_of_suc-le-suc k))

pub sums-more : (i : ℕ) (a b : List ℕ) → i < length a → i < length b → set (sums a (take i b)) i (get_or (sums a (take i b)) i 0 + get_or b i 0) ≡ sums a (take (i + 1) b)
sums-more i a b h k = rw add-one (sums_next i a b h k)

sums_zeros : (n : ℕ) → sums (zeros n) (zeros n) ≡ zeros n
unfolding zeros
sums_zeros zero = refl
sums_zeros (suc n) = ap (λ (l : List ℕ). 0 ∷ l) (sums_zeros n)

pub sums-end : (n : ℕ) (a b : List ℕ) {s : List ℕ} → s ≡ sums a (take n b) → n ≡ length b → s ≡ sums a b
sums-end n a b e h = e ∙ ap (sums a) (ap (λ (k : ℕ). take k b) h ∙ take-length b)

pub sums-few : (i : ℕ) (a b : List ℕ) {s : List ℕ} → s ≡ sums a (take i b) → i < length a → i < length b
    → all (λ n. leb n 256) a ≡ true → all (λ n. leb n 256) b ≡ true → get_or s i 0 + get_or b i 0 ≤ 512
sums-few i a b e h k p q =
    omega (
      arith,
      ap (λ (l : List ℕ). get_or l i 0) e ∙ sums-ahead i a b,
      leb-true (get_or a i 0) 256 (all-at (λ n. leb n 256) i a 0 h p),
      leb-true (get_or b i 0) 256 (all-at (λ n. leb n 256) i b 0 k q),
    )

module _ (rows more : List Row) where
  sums-append : (n : ℕ) (ts : List ℕ) → sums (numbers rows ts ++ zeros n) (numbers more ts ++ zeros n) ≡ numbers (rows ++ more) ts ++ zeros n
  sums-append n [] = sums_zeros n
  sums-append n (t ∷ ts) =
      let p : Row → Bool = λ r. eqb (table r) t in
      ap₂ (λ (m : ℕ) (l : List ℕ). m ∷ l)
      (omega (arith, length-keep p (rows ++ more), count_append p rows more, length-keep p rows, length-keep p more))
      (sums-append n ts)

  sums-pad : (n : ℕ) (ts : List ℕ) → sums (pad n (numbers rows ts)) (pad n (numbers more ts)) ≡ pad n (numbers (rows ++ more) ts)
  unfolding pad
  sums-pad n ts = simp (length-map) (sums-append (n - length ts) ts)

pub tallied-few : {rows : List Row} {ts : List ℕ} {i : ℕ} {counts : List ℕ} → i ≤ 256 → Tallied rows ts i counts → all (λ n. leb n 256) counts ≡ true
tallied-few {rows} {ts} {i} {counts} h s = all_mono (λ n. leb n i) (λ n. leb n 256) counts (λ n e. le-leb n 256 (omega (arith, leb-true n i e))) s.few

pub tallied-at : {rows : List Row} {ts : List ℕ} {i j : ℕ} {counts : List ℕ} → j ≡ i → Tallied rows ts i counts → Tallied rows ts j counts
tallied-at e s = rw e s

tallied-all : {rows : List Row} {ts : List ℕ} {i : ℕ} {counts : List ℕ} → i ≡ length rows → Tallied rows ts i counts → Counted rows ts counts
tallied-all {rows} {ts} e s d = s.right d ∙ ap (λ (l : List Row). pad table_limit (numbers l ts)) (ap (λ (n : ℕ). take n rows) e ∙ take-length rows)

-- all rows, of which the first h are tallied and the others
pub tallied-both : (rows : List Row) (ts : List ℕ) (h : ℕ) {front back : List Row} {i j : ℕ} {a b s : List ℕ} → front ≡ take h rows → back ≡ drop h rows
    → i ≡ length front → Tallied front ts i a → j ≡ length back → Tallied back ts j b → s ≡ sums a b → Counted rows ts s
tallied-both rows ts h {front} {back} ef eb ei p ej q es d =
    es
    ∙ ap₂ sums (tallied-all ei p d) (tallied-all ej q d)
    ∙ sums-pad front back table_limit ts
    ∙ ap (λ (l : List Row). pad table_limit (numbers l ts)) (ap₂ (λ (l m : List Row). l ++ m) ef eb ∙ take-append-drop h rows)
