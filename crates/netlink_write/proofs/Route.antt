-- What the pieces of a route's message come to.
-- Assumes nothing.
use Rattle.std.specs.Prelude.{ℕ, zero, suc, ◌+◌, ◌-◌, ◌*◌, ◌≤◌, ◌<◌, ◌≡◌, refl, Bool, true, false, cond, not, List, [], ◌∷◌, ◌++◌}
use Rattle.std.specs.Prelude.{map, eqb, leb, length, get_or, take, drop, Result, Ok, Err}
use Rattle.std.proofs.Common.{sym, ap, ◌∙◌, arith, add-one, length-append, take-suc, take_at, eqb-true, ne_eqb, leb-true, le-leb}
use Rattle.std.specs.Result.{OkIff, result_unwrap_or}
use Rattle.std.proofs.lemmas.Bool.{eqb-false}
use Rattle.std.proofs.Math.ListN.{get_or-map}
use Rattle.lists.specs.Lists.{Row, any, keep, put, zeros}
use Rattle.lists.specs.Bools.{test-case, fails, cond-true, cond-false}
use Rattle.layout.specs.Route.{metrics}
use Rattle.layout.specs.Spelled.{by-words}
use Rattle.netlink.specs.Codes.{rta_metrics}
use Rattle.netlink.specs.Reader.{types}
use Rattle.netlink_event.specs.Written.{Entry, when, bytes4, written, written_all}
use Rattle.netlink_event.specs.Writer.{nonzero, table_byte, metric_entry, metric_entries, route_entries}
use Rattle.netlink_event.proofs.Back.{at-most}
use Rattle.netlink_event.proofs.RouteBack.{route-total}
use Rattle.netlink_put.specs.declared.Writer.{Writer}
use Rattle.netlink_put.specs.Wrote.{Adds}
use Rattle.netlink_put.proofs.Pieces.{written-behind, bounded, ◌and_also◌}

-- ---- the table's byte
pub table-is : (n : ℕ) {E : Type 0} (r : Result ℕ E) → OkIff r (n < 256) n → result_unwrap_or r 252 ≡ table_byte n
table-is n (Ok x) h = h.1 ∙ sym (cond-true (leb n 255) n 252 (le-leb n 255 (omega (arith, h.0))))
table-is n (Err d) h = sym (cond-false (leb n 255) n 252 (fails (leb n 255) (λ e. h (omega (arith, leb-true n 255 e)))))

-- the metrics are the last 17 words
pub metrics-last : (r m : List ℕ) → length r ≡ 32 → m ≡ drop (length r - 17) r → m ≡ metrics r
metrics-last r m h e = e ∙ ap (λ (n : ℕ). drop (n - 17) r) h

-- ---- one metric more
rising : ℕ → ℕ → List ℕ
rising a zero = []
rising a (suc n) = a ∷ rising (suc a) n

rising-at : (n a i : ℕ) → i < n → get_or (rising a n) i 0 ≡ a + i
unfolding rising
rising-at zero a i h = absurd (omega arith)
rising-at (suc n) a zero h = omega arith
rising-at (suc n) a (suc i) h = rising-at n (suc a) i (omega arith) ∙ omega arith

type_at : (k : ℕ) → k < 17 → get_or types k 0 ≡ k + 1
unfolding rising
type_at k h = rising-at 17 1 k h ∙ omega arith

module _ (m : Row) where
  pub next : (k : ℕ) → k < 17
      → take (k + 1) (metric_entries m) ≡ take k (metric_entries m) ++ (when (nonzero (get_or m k 0)) (k + 1) (bytes4 (get_or m k 0)) ∷ [])
  next k h =
      let back : k + 1 - 1 ≡ k = omega arith in
      let here : get_or (metric_entries m) k (metric_entry m 0) ≡ when (nonzero (get_or m k 0)) (k + 1) (bytes4 (get_or m k 0)) =
      get_or-map (metric_entry m) types k 0
      ∙ ap (metric_entry m) (type_at k h)
      ∙ ap (λ (i : ℕ). when (nonzero (get_or m i 0)) (k + 1) (bytes4 (get_or m i 0))) back
      in
      ap (λ (i : ℕ). take i (metric_entries m)) (add-one k)
      ∙ take-suc (metric_entries m) k (metric_entry m 0) h
      ∙ ap (λ (e : Entry). take k (metric_entries m) ++ (e ∷ [])) here

-- ---- as many bytes as there are metrics, eight each
given : Row → ℕ → Bool
given m t = nonzero (get_or m (t - 1) 0)

any-kept : (p : ℕ → Bool) (ts : List ℕ) → any p ts ≡ nonzero (length (keep p ts))
any-kept p [] = refl
any-kept p (t ∷ ts) =
    test-case (p t)
    (λ e. rw e (sym (ap not (ne_eqb (suc (length (keep p ts))) 0 (λ z. omega arith)))))
    (λ e. rw e (any-kept p ts))

length-four : (b : Bool) (c v : ℕ) → length (written_all (when b c (bytes4 v) ∷ [])) ≡ cond b 8 0
unfolding written_all written zeros
length-four true c v = refl
length-four false c v = refl

none_written : written_all [] ≡ []
unfolding written_all
none_written = refl

counted : (m : Row) (ts : List ℕ) → length (written_all (map (metric_entry m) ts)) ≡ 8 * length (keep (given m) ts)
unfolding given
counted m [] = ap length none_written
counted m (t ∷ ts) =
    let e = metric_entry m t in
    let v = get_or m (t - 1) 0 in
    let both : length (written_all (e ∷ map (metric_entry m) ts)) ≡ length (written_all (e ∷ [])) + length (written_all (map (metric_entry m) ts)) =
    ap length (sym (written-behind (e ∷ []) (map (metric_entry m) ts))) ∙ length-append (written_all (e ∷ [])) (written_all (map (metric_entry m) ts))
    in
    let one : length (written_all (e ∷ [])) ≡ cond (nonzero v) 8 0 = length-four (nonzero v) t v in
    let ih = counted m ts in
    test-case (nonzero v)
    (λ f.
    let kept : length (keep (given m) (t ∷ ts)) ≡ suc (length (keep (given m) ts)) = rw f in
    let eight : length (written_all (e ∷ [])) ≡ 8 = one ∙ ap (λ (b : Bool). cond b 8 0) f in
    omega (arith, both, ih, kept, eight))
    (λ f.
    let kept : length (keep (given m) (t ∷ ts)) ≡ length (keep (given m) ts) = rw f in
    let none : length (written_all (e ∷ [])) ≡ 0 = one ∙ ap (λ (b : Bool). cond b 8 0) f in
    omega (arith, both, ih, kept, none))

module _ (m : Row) (long : length m ≡ 17) where
  pub any-written : any nonzero m ≡ not (eqb (length (written_all (metric_entries m))) 0)
  unfolding given
  any-written =
      let many : ℕ = length (keep (given m) types) in
      let bytes : length (written_all (metric_entries m)) ≡ 8 * many = counted m types in
      by-words (λ r. any nonzero r ≡ any (given r) types) 17 m long refl
      ∙ any-kept (given m) types
      ∙ test-case (eqb many 0)
      (λ z. let none : length (written_all (metric_entries m)) ≡ 0 = omega (arith, bytes, eqb-true many 0 z) in rw (z, none))
      (λ z. let some : length (written_all (metric_entries m)) ≡ 0 → ⊥ = λ e. eqb-false many 0 z (omega (arith, bytes, e)) in
      rw (z, ne_eqb (length (written_all (metric_entries m))) 0 some))

-- ---- the loop over them
module _ (m : Row) where
  pub begun-bound : length (written_all (take 0 (metric_entries m))) ≤ 8 * 0
  begun-bound = omega (arith, ap length none_written)

  module _ (k : ℕ) (h : k < 17) where
    abbrev entry : Entry
    entry = when (nonzero (get_or m k 0)) (k + 1) (bytes4 (get_or m k 0))

    pub next-bound : length (written_all (take k (metric_entries m))) ≤ 8 * k
        → length (written_all (take (k + 1) (metric_entries m))) ≤ 8 * (k + 1)
    next-bound b =
        let behind : length (written_all (take (k + 1) (metric_entries m))) ≡ length (written_all (take k (metric_entries m))) + length (written_all (entry ∷ [])) =
        ap (λ (t : List Entry). length (written_all t)) (next m k h)
        ∙ ap length (sym (written-behind (take k (metric_entries m)) (entry ∷ [])))
        ∙ length-append (written_all (take k (metric_entries m))) (written_all (entry ∷ []))
        in
        omega (arith, behind, bounded (nonzero (get_or m k 0)) (k + 1) (bytes4 (get_or m k 0)))

    pub next-added : {t u v : Writer} → Adds t (take k (metric_entries m)) u → Adds u (entry ∷ []) v
        → Adds t (take (k + 1) (metric_entries m)) v
    next-added a b = rw (next m k h) (a and_also b)

pub few-metrics : (m : Row) → length (written_all (metric_entries m)) ≤ 136
few-metrics m = at-most (metric_entries m)

pub metrics-bound : (m : Row)
    → length (written_all (when (any nonzero m) rta_metrics (written_all (metric_entries m)) ∷ [])) ≤ 140
metrics-bound m = omega (arith, at-most (when (any nonzero m) rta_metrics (written_all (metric_entries m)) ∷ []), few-metrics m)

-- ---- the nested ones at the front of a buffer
pub nested-payload : (vs l : List ℕ) {b : List ℕ} {n : ℕ} → b ≡ put 0 vs l → n ≡ length vs → take n b ≡ vs
unfolding put
nested-payload vs l e h = rw (e, h) (take_at vs (drop (0 + length vs) l) (length vs) refl)

pub route-bound : (r : Row) → length (written_all (route_entries r)) ≤ 188
route-bound r = omega (arith, at-most (route_entries r), route-total r)
