-- The pairs of a list of metrics, one after the other.
-- Assumes nothing.
use Rattle.std.specs.Prelude.{ℕ, zero, suc, ◌+◌, ◌-◌, ◌*◌, ◌/◌, ◌≤◌, ◌<◌, ◌≡◌, refl, Bool, true, false, cond, List, [], ◌∷◌, ◌++◌, Option, None, Some, is_some, map, length, get_or, set, take, drop, replicate}
use Rattle.std.proofs.Common.{sym, ap, ◌∙◌, append-nil, arith, length-append, length-take, take_all, take-suc}
use Rattle.std.proofs.Math.Seq.{drop-nil}
use Rattle.lists.specs.Lists.{keep, put, zeros, pad}
use Rattle.lists.specs.Keep.{each_append}
use Rattle.lists.specs.Rows.{length-put}
use Rattle.lists.specs.Put.{put-none, put-behind, put_whole}
use Rattle.netlink.specs.Reader.{types}
use Rattle.netlink_route.specs.declared.metrics.Metrics.{Metrics}
use Rattle.netlink_route.specs.MetricSteps.{slot}
use Rattle.netlink_route.specs.MetricWords.{number_pair, pairs_of, pair_row}

-- ---- the types rise by one
rising : ℕ → ℕ → List ℕ
rising a zero = []
rising a (suc n) = a ∷ rising (suc a) n

rising-at : (f : ℕ → ℕ) (n a i : ℕ) → i < n → get_or (map f (rising a n)) i 0 ≡ f (a + i)
unfolding rising
rising-at f zero a i h = absurd (omega arith)
rising-at f (suc n) a zero h = ap f (omega arith)
rising-at f (suc n) a (suc i) h = rising-at f n (suc a) i (omega arith) ∙ ap f (omega arith)

type_at : (k : ℕ) → 1 ≤ k → k < 18 → get_or types (k - 1) 0 ≡ k
unfolding rising
type_at k g h = rising-at (λ (t : ℕ). t) 17 1 (k - 1) (omega arith) ∙ omega arith

-- ---- the pairs
-- those of the types before k
unfoldable pub pairs_before : List (Option ℕ) → ℕ → List ℕ
pairs_before v k = pairs_of v (take (k - 1) types)

pair-short : (t : ℕ) (o : Option ℕ) → length (number_pair t o) ≤ 2
pair-short t None = omega arith
pair-short t (Some n) = omega arith

pub pairs-short : (v : List (Option ℕ)) (ts : List ℕ) → length (pairs_of v ts) ≤ 2 * length ts
pairs-short v [] = omega arith
pairs-short v (t ∷ ts) =
    let e = length-append (number_pair t (slot v t)) (pairs_of v ts) in
    omega (arith, pair-short t (slot v t), pairs-short v ts)

pub pairs-room : (v : List (Option ℕ)) (k : ℕ) → 1 ≤ k → length (pairs_before v k) + 2 ≤ 2 * k
unfolding pairs_before
pairs-room v k g = omega (arith, pairs-short v (take (k - 1) types), length-take (k - 1) types)

pub pairs-more : (v : List (Option ℕ)) (k : ℕ) → 1 ≤ k → k < 18 → pairs_before v (k + 1) ≡ pairs_before v k ++ number_pair k (slot v k)
unfolding pairs_before
pairs-more v k g h =
    let one : k + 1 - 1 ≡ suc (k - 1) = omega arith in
    let f : ℕ → List ℕ = λ t. number_pair t (slot v t) in
    ap (λ (n : ℕ). pairs_of v (take n types)) one
    ∙ ap (pairs_of v) (take-suc types (k - 1) 0 (omega arith))
    ∙ each_append f (take (k - 1) types) (get_or types (k - 1) 0 ∷ [])
    ∙ ap (λ (t : ℕ). pairs_before v k ++ (f t ++ [])) (type_at k g h)
    ∙ ap (λ (x : List ℕ). pairs_before v k ++ x) (append-nil (f k))

pub pairs-begun : (v : List (Option ℕ)) → replicate 36 0 ≡ put 2 (pairs_before v 1) (replicate 36 0)
unfolding pairs_before
pairs-begun v = put-none 2 (replicate 36 0)

pub pairs-put : (v : List (Option ℕ)) (w₀ w : List ℕ) (at k : ℕ) → length w₀ ≡ 36 → 1 ≤ k → k < 18 → at ≡ 2 + length (pairs_before v k)
    → w ≡ put 2 (pairs_before v k) w₀ → put at (number_pair k (slot v k)) w ≡ put 2 (pairs_before v (k + 1)) w₀
pairs-put v w₀ w at k n g h e f =
    ap (λ (i : ℕ). put i (number_pair k (slot v k)) w) e
    ∙ ap (put (2 + length (pairs_before v k)) (number_pair k (slot v k))) f
    ∙ put-behind 2 (pairs_before v k) w₀ (omega (arith, pairs-room v k g)) (number_pair k (slot v k)) (omega (arith, pairs-room v k g, pair-short k (slot v k)))
    ∙ ap (λ (x : List ℕ). put 2 x w₀) (sym (pairs-more v k g h))

pub pairs-long : (v : List (Option ℕ)) (w₀ : List ℕ) (k : ℕ) → length w₀ ≡ 36 → 1 ≤ k → k ≤ 18 → length (put 2 (pairs_before v k) w₀) ≡ 36
pairs-long v w₀ k n g h = length-put 2 (pairs_before v k) w₀ (omega (arith, pairs-room v k g)) ∙ n

pub pairs_next : (v : List (Option ℕ)) (at k : ℕ) → 1 ≤ k → k < 18 → at ≡ 2 + length (pairs_before v k)
    → at + length (number_pair k (slot v k)) ≡ 2 + length (pairs_before v (k + 1))
pairs_next v at k g h e =
    omega (arith, ap length (pairs-more v k g h), length-append (pairs_before v k) (number_pair k (slot v k)))

-- all of them
abbrev there : List (Option ℕ) → ℕ → Bool
there v t = is_some (slot v t)

counted : (v : List (Option ℕ)) (ts : List ℕ) → length (pairs_of v ts) ≡ 2 * length (keep (there v) ts)
counted v [] = refl
counted v (t ∷ ts) = length-append (number_pair t (slot v t)) (pairs_of v ts) ∙ one (slot v t) refl (counted v ts)
  where
    one : (o : Option ℕ) → slot v t ≡ o → length (pairs_of v ts) ≡ 2 * length (keep (there v) ts)
        → length (number_pair t (slot v t)) + length (pairs_of v ts) ≡ 2 * length (keep (there v) (t ∷ ts))
    one None e ih = rw e (omega arith)
    one (Some n) e ih = rw e (omega arith)

drop-replicate : (n m : ℕ) → drop n (replicate m 0) ≡ zeros (m - n)
unfolding zeros
drop-replicate n zero =
    let none : 0 - n ≡ 0 = omega arith in
    rw (none, drop-nil n)
drop-replicate zero (suc m) =
    let all : suc m - 0 ≡ suc (m - 0) = omega arith in
    rw all (ap (λ (x : List ℕ). 0 ∷ x) (drop-replicate zero m))
drop-replicate (suc n) (suc m) =
    let one : suc m - suc n ≡ m - n = omega arith in
    rw one (drop-replicate n m)

-- ---- in words that were cleared
pub cleared : (w : List ℕ) → length w ≡ 36 → put 0 (zeros 36) w ≡ replicate 36 0
unfolding zeros
cleared w n = put_whole (zeros 36) w (sym n)

pub pairs-ended : (s : Metrics) (w : List ℕ) (at k : ℕ) → 18 ≤ k → at ≡ 2 + length (pairs_before s.values k)
    → w ≡ put 2 (pairs_before s.values k) (replicate 36 0) → s.has_unknown ≡ false → set (set w 0 1) 1 (at / 2 - 1) ≡ pair_row s
unfolding pair_row pairs_before put pad
pairs-ended s w at k h e f u =
    let all : take (k - 1) types ≡ types = take_all (k - 1) types (omega arith) in
    let v : List ℕ = pairs_of s.values types in
    let long : length (pairs_of s.values (take (k - 1) types)) ≡ length v = ap (λ (ts : List ℕ). length (pairs_of s.values ts)) all in
    let count : at / 2 - 1 ≡ length (keep (there s.values) types) = omega (arith, counted s.values types) in
    let behind : drop (2 + length v) (replicate 36 0) ≡ zeros (34 - length v) = drop-replicate (2 + length v) 36 ∙ ap zeros (omega arith) in
    ap (λ (x : List ℕ). set (set x 0 1) 1 (at / 2 - 1)) (f ∙ ap (λ (ts : List ℕ). put 2 (pairs_of s.values ts) (replicate 36 0)) all)
    ∙ ap (λ (d : List ℕ). 1 ∷ (at / 2 - 1) ∷ (v ++ d)) behind
    ∙ ap (λ (n : ℕ). 1 ∷ n ∷ (v ++ zeros (34 - length v))) count
    ∙ sym (ap (λ (b : Bool). cond b (zeros 36) (1 ∷ length (keep (there s.values) types) ∷ pad 34 v)) u)

pub pairs-refused : (s : Metrics) (w : List ℕ) → length w ≡ 36 → s.has_unknown ≡ true → put 0 (zeros 36) w ≡ pair_row s
unfolding pair_row zeros
pairs-refused s w n u =
    cleared w n ∙ sym (ap (λ (b : Bool). cond b (zeros 36) (1 ∷ length (keep (there s.values) types) ∷ pad 34 (pairs_of s.values types))) u)
