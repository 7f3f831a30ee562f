-- The rows and the tables in use, cut from a state's words.
-- Assumes nothing.
use Rattle.std.specs.Prelude.{ℕ, ◌+◌, ◌-◌, ◌*◌, ◌/◌, ◌≤◌, ◌<◌, ◌≡◌, true, List, length, get_or, take, drop}
use Rattle.std.proofs.Common.{ap, ◌∙◌, arith, length-drop, length-take-le, leb-true}
use Rattle.std.proofs.Math.Nat.{mul-div_cancel_left, min-eq_left, min-le_right}
use Rattle.std.specs.Prelude.{min}
use Rattle.std.specs.Simd.{first_chunks}
use Rattle.rows.specs.Rows.{chunks-chop}
use Rattle.lists.specs.Lists.{Row, pad, span, chop}
use Rattle.lists.specs.Bools.{and_iff}
use Rattle.lists.specs.Rows.{chop-part}
use Rattle.definition.specs.Words.{table_limit, base_size, routes_at, tables_at, none_twice, fit_state, well_formed, decode, row_counts}
use Rattle.state_tally.specs.Tally.{numbers}

pub part-size : (a k : ℕ) → a + k - a ≡ k
part-size a k = omega arith

-- rows cut from the words, as the code lends them
pub cut : (at k n : ℕ) (w : List ℕ) (l : List Row) → 0 < k → at + k * n ≤ length w → l ≡ first_chunks k (length (take (at + k * n - at) (drop at w)) / k) (take (at + k * n - at) (drop at w)) → l ≡ chop k n (drop at w)
unfolding span
cut at k n w l p b e =
    let part : take (at + k * n - at) (drop at w) ≡ take (k * n) (drop at w) = ap (λ (m : ℕ). take m (drop at w)) (part-size at (k * n)) in
    let long : length (take (k * n) (drop at w)) ≡ k * n = length-take-le (k * n) (drop at w) (rw length-drop (omega arith)) in
    let many : length (take (k * n) (drop at w)) / k ≡ n = ap (λ (m : ℕ). m / k) long ∙ mul-div_cancel_left n p in
    e
    ∙ ap (λ (x : List ℕ). first_chunks k (length x / k) x) part
    ∙ ap (λ (m : ℕ). first_chunks k m (take (k * n) (drop at w))) many
    ∙ chunks-chop k n (take (k * n) (drop at w))
    ∙ chop-part at k n w b

record Few (w : List ℕ) : Type 0 where
  routes : min (get_or w 1 0) 256 ≡ get_or w 1 0
  tables : min (get_or w 2 0) 32 ≡ get_or w 2 0
  distinct : none_twice (decode w).tables ≡ true

few : (w : List ℕ) → well_formed w ≡ true → Few w
unfolding well_formed fit_state
few w h =
    let k = simp and_iff at h in
    record {
      routes = min-eq_left (leb-true (get_or w 1 0) 256 k.0.0.0.1);
      tables = min-eq_left (leb-true (get_or w 2 0) 32 k.0.0.1);
      distinct = k.0.1.1;
    }

-- what the tally of the parts is, where the words are well-formed
pub counted-parts : (w : List ℕ) {n m : ℕ} {rows : List Row} {counts : List ℕ} → length w ≡ base_size → n ≡ min (get_or w 1 0) 256 → m ≡ min (get_or w 2 0) 32
    → rows ≡ first_chunks 32 (length (take (routes_at + 32 * n - routes_at) (drop routes_at w)) / 32) (take (routes_at + 32 * n - routes_at) (drop routes_at w))
    → (none_twice (take (tables_at + m - tables_at) (drop tables_at w)) ≡ true → counts ≡ pad table_limit (numbers rows (take (tables_at + m - tables_at) (drop tables_at w))))
    → well_formed w ≡ true → counts ≡ row_counts (decode w)
unfolding row_counts decode span
counted-parts w {n} {m} {rows} {counts} l en em er ec h =
    let f = few w h in
    let listed : take (tables_at + m - tables_at) (drop tables_at w) ≡ (decode w).tables =
    ap (λ (k : ℕ). take k (drop tables_at w)) (part-size tables_at m ∙ em ∙ f.tables)
    in
    let held : rows ≡ (decode w).routes =
    cut routes_at 32 n w rows (omega arith) (omega (arith, en, min-le_right (get_or w 1 0) 256)) er ∙ ap (λ (k : ℕ). chop 32 k (drop routes_at w)) (en ∙ f.routes)
    in
    rw (listed, held) at (ec (rw listed f.distinct))
