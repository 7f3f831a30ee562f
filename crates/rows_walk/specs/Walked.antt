-- How far a walk has come.
-- Assumes nothing.
use Rattle.std.specs.Prelude.{ℕ, ◌+◌, ◌-◌, ◌≤◌, ◌<◌, ◌≡◌, refl, Bool, true, false, cond, not, ◌&&◌, List, [], ◌∷◌, ◌++◌, leb, ltb, length, get_or, take, drop, Option}
use Rattle.std.proofs.Common.{arith, sym, ap, ◌∙◌, append_assoc, append-nil, length-append, length-drop, take_all, le-leb, leb-true, leb-false, ltb-false, ne_eqb}
use Rattle.std.proofs.lemmas.Bool.{lt-leb}
use Rattle.std.proofs.Math.Option as Math
use Rattle.std.proofs.Math.Option.{none, some}
use denote.Ref.{Bor}
use Rattle.lists.specs.Lists.{Row, all, keep, pairwise}
use Rattle.lists.specs.All.{all_always, all_mono, all_append, all_back, all_head, all_keep, pairwise-head, pairwise_tail}
use Rattle.lists.specs.Bools.{not-both, test-case}
use Rattle.lists.specs.Count.{count, length-keep}
use Rattle.lists.specs.Keep.{keep_append}
use Rattle.prefix.specs.Mask.{network}
use Rattle.layout.specs.Route.{table, dst, len, before}
use Rattle.definition.specs.Words.{ordered}
use Rattle.definition.specs.Reference.Lookup.{fits, answer, longest, flow_to}
use Rattle.definition_many.specs.Many.{up_to}
use Rattle.rows_lookup.specs.Flow.{set_of}
use Rattle.rows_lookup.specs.declared.Tables.{Tables}
use Rattle.rows_walk.specs.declared.Walk.{Walk}
use Rattle.rows_walk.specs.Keeps.{Keeps, low, picked, network-below, fits-plain}
use Rattle.rows_walk.specs.Longest.{picked-longest}

-- the rows come by rising dst
abbrev pub Rising : List Row → Type 0
Rising l = pairwise (λ a b. leb (dst a) (dst b)) l ≡ true

pairwise-mono : {A : Type 0} (r q : A → A → Bool) (l : List A) → ((x y : A) → r x y ≡ true → q x y ≡ true) → pairwise r l ≡ true → pairwise q l ≡ true
pairwise-mono r q [] h e = refl
pairwise-mono r q (x ∷ l) h e =
    rw (all_mono (r x) (q x) l (h x) (pairwise-head r x l e), pairwise-mono r q l h (pairwise_tail r x l e))

-- rows in the order of routes do
pub ordered-rising : (l : List Row) → ordered l ≡ true → Rising l
unfolding ordered before
ordered-rising l e = pairwise-mono (λ a b. not (before b a)) (λ a b. leb (dst a) (dst b)) l go e
  where
    go : (a b : Row) → not (before b a) ≡ true → leb (dst a) (dst b) ≡ true
    go a b h =
        le-leb (dst a) (dst b)
        (test-case (ltb (dst b) (dst a)) (λ f. absurd (not-both (before b a) (rw f) h)) (λ f. ltb-false (dst b) (dst a) f))

-- a destination isn't below the last one, if there is one
abbrev pub Onward : Math.Option ℕ → ℕ → Type 0
Onward none d = Unit {0}
Onward (some e) d = e ≤ d

abbrev pub of_tables : Tables → Row → Bool
of_tables t r = set_of t (table r)

-- the walk of the rows l for the tables t has come to the destination o: exactly the rows whose dst isn't above it are passed
pub record Walked (t : Tables) (l : List Row) (o : Math.Option ℕ) (w : Walk) : Type 0 where
  pub tables : w.tables ≡ t
  pub passed : List Row
  pub split : passed ++ w.rest.rows.now ≡ l
  pub behind : all (up_to o) passed ≡ true
  pub ahead : all (λ r. not (up_to o r)) w.rest.rows.now ≡ true
  pub kept : Keeps (keep (of_tables t) passed) w.kept.rows
  pub counted : w.weighed ≡ length (keep (of_tables t) passed)

-- and while it goes on to the destination d: its tables, the rows that are left, those kept, and how many were weighed
pub record Walking (t : Tables) (l : List Row) (d : ℕ) (own : Tables) (rest : List Row) (kept : List (Option (Bor Row))) (weighed : ℕ) : Type 0 where
  pub tables : own ≡ t
  pub passed : List Row
  pub split : passed ++ rest ≡ l
  pub behind : low d passed ≡ true
  pub keeps : Keeps (keep (of_tables t) passed) kept
  pub counted : weighed ≡ length (keep (of_tables t) passed)

pub walked-nothing : (l : List Row) → all (λ r. not (up_to none r)) l ≡ true
walked-nothing l = all_always (λ r. not (up_to none r)) l (λ r. refl)

-- ---- rows that rise
pub pairwise-before : {A : Type 0} (r : A → A → Bool) (a : List A) (x : A) (b : List A) → pairwise r (a ++ (x ∷ b)) ≡ true → all (λ y. r y x) a ≡ true
pairwise-before r [] x b h = refl
pairwise-before r (y ∷ a) x b h =
    let near : r y x ≡ true = all_head (r y) x b (all_back (r y) a (x ∷ b) (pairwise-head r y (a ++ (x ∷ b)) h)) in
    rw (near, pairwise-before r a x b (pairwise_tail r y (a ++ (x ∷ b)) h))

rising-back : (a b : List Row) → Rising (a ++ b) → Rising b
rising-back [] b h = h
rising-back (x ∷ a) b h = rising-back a b (pairwise_tail (λ a b. leb (dst a) (dst b)) x (a ++ b) h)

-- all are above what is below the first
rising-above : (d : ℕ) (r : Row) (b : List Row) → d < dst r → Rising (r ∷ b) → all (λ s. not (up_to (some d) s)) (r ∷ b) ≡ true
rising-above d r b h up =
    let behind = all_mono (λ s. leb (dst r) (dst s)) (λ s. not (leb (dst s) d)) b
    (λ s e. rw (lt-leb (dst s) d (omega (arith, leb-true (dst r) (dst s) e)))) (pairwise-head (λ a b. leb (dst a) (dst b)) r b up)
    in
    rw (lt-leb (dst r) d h, behind)

front-one : (l : List Row) → 1 ≤ length l → get_or l 0 [] ∷ drop 1 l ≡ l
front-one [] h = absurd (omega arith)
front-one (x ∷ l) h = refl

-- the rows behind the first, as a pattern of a slice has them
abbrev pub behind_first : List Row → List Row
behind_first l = take (length l - 1) (drop 1 l)

behind_first-drop : (l : List Row) → behind_first l ≡ drop 1 l
behind_first-drop l = take_all (length l - 1) (drop 1 l) (omega (arith, length-drop 1 l))

nothing-left : (l : List Row) → length l ≡ 0 → l ≡ []
nothing-left [] h = refl
nothing-left (x ∷ l) h = absurd (omega arith)

-- ---- a walk goes on
module _ (t : Tables) (l : List Row) where
  pub walk-on : (o : Math.Option ℕ) (d : ℕ) (w : Walk) → Onward o d → Walked t l o w → Walking t l d w.tables w.rest.rows.now w.kept.rows w.weighed
  walk-on o d w h k =
      record {
        tables = k.tables;
        passed = k.passed;
        split = k.split;
        behind = all_mono (up_to o) (λ r. leb (dst r) d) k.passed (λ r e. go o h r e) k.behind;
        keeps = k.kept;
        counted = k.counted;
      }
    where
      go : (o : Math.Option ℕ) → Onward o d → (r : Row) → up_to o r ≡ true → leb (dst r) d ≡ true
      go none h r e = cc
      go (some c) h r e = le-leb (dst r) d (omega (arith, leb-true (dst r) c e))

  -- one row more
  module _ (up : Rising l) (d : ℕ) {own : Tables} {rest : List Row} {kept : List (Option (Bor Row))} {weighed : ℕ} (k : Walking t l d own rest kept weighed)
      (some_left : 1 ≤ length rest) where
    abbrev r : Row
    r = get_or rest 0 []

    whole : k.passed ++ (r ∷ drop 1 rest) ≡ l
    whole = rw (front-one rest some_left) k.split

    pub not-above : low (dst r) (keep (of_tables t) k.passed) ≡ true
    not-above = all_keep (λ s. leb (dst s) (dst r)) (of_tables t) k.passed (pairwise-before (λ a b. leb (dst a) (dst b)) k.passed r (drop 1 rest) (rw whole up))

    module _ (within : dst r ≤ d) where
      more : {kept' : List (Option (Bor Row))} {weighed' : ℕ} → Keeps (keep (of_tables t) (k.passed ++ (r ∷ []))) kept'
          → weighed' ≡ length (keep (of_tables t) (k.passed ++ (r ∷ []))) → Walking t l d own (behind_first rest) kept' weighed'
      more keeps counted =
          record {
            tables = k.tables;
            passed = k.passed ++ (r ∷ []);
            split = rw (behind_first-drop rest) (append_assoc k.passed (r ∷ []) (drop 1 rest) ∙ whole);
            behind = all_append (λ s. leb (dst s) d) k.passed (r ∷ []) k.behind (rw (le-leb (dst r) d within));
            keeps = keeps;
            counted = counted;
          }

      -- it is of the tables, and weighed
      pub walk-weighs : set_of own (table r) ≡ true → {kept' : List (Option (Bor Row))} → Keeps (keep (of_tables t) k.passed ++ (r ∷ [])) kept'
          → Walking t l d own (behind_first rest) kept' (weighed + 1)
      walk-weighs e keeps =
          let ours : of_tables t r ≡ true = rw k.tables at e in
          let is : keep (of_tables t) (k.passed ++ (r ∷ [])) ≡ keep (of_tables t) k.passed ++ (r ∷ []) = keep_append (of_tables t) k.passed (r ∷ []) ∙ rw ours in
          more (rw is keeps) (rw (is, k.counted) (sym (length-append (keep (of_tables t) k.passed) (r ∷ []))))

      -- or of another
      pub walk_passes : set_of own (table r) ≡ false → Walking t l d own (behind_first rest) kept weighed
      walk_passes e =
          let other : of_tables t r ≡ false = rw k.tables at e in
          let is : keep (of_tables t) (k.passed ++ (r ∷ [])) ≡ keep (of_tables t) k.passed =
          keep_append (of_tables t) k.passed (r ∷ []) ∙ rw other (append-nil (keep (of_tables t) k.passed))
          in
          more (rw is k.keeps) (rw is k.counted)

  -- the next is above the destination, or there is none
  module _ (up : Rising l) (d : ℕ) (w : Walk) (k : Walking t l d w.tables w.rest.rows.now w.kept.rows w.weighed) where
    arrived : all (λ r. not (up_to (some d) r)) w.rest.rows.now ≡ true → Walked t l (some d) w
    arrived ahead =
        record { tables = k.tables; passed = k.passed; split = k.split; behind = k.behind; ahead = ahead; kept = k.keeps; counted = k.counted }

    pub walk-stops : 1 ≤ length w.rest.rows.now → d < dst (get_or w.rest.rows.now 0 []) → Walked t l (some d) w
    walk-stops some_left high =
        let rest = w.rest.rows.now in
        let next : rest ≡ get_or rest 0 [] ∷ drop 1 rest = sym (front-one rest some_left) in
        arrived (rw next (rising-above d (get_or rest 0 []) (drop 1 rest) high (rising-back k.passed (get_or rest 0 [] ∷ drop 1 rest) (rw (← next, k.split) up))))

    pub walk-ends : length w.rest.rows.now ≡ 0 → Walked t l (some d) w
    walk-ends none_left = arrived (rw (nothing-left w.rest.rows.now none_left))

-- ---- what it comes to
keep-both : (p q : Row → Bool) (l : List Row) → keep (λ r. p r && q r) l ≡ keep q (keep p l)
keep-both p q [] = refl
keep-both p q (x ∷ l) = go (p x) (q x) refl (keep-both p q l)
  where
    go : (a b : Bool) → q x ≡ b → keep (λ r. p r && q r) l ≡ keep q (keep p l)
        → cond (a && b) (x ∷ keep (λ r. p r && q r) l) (keep (λ r. p r && q r) l) ≡ keep q (cond a (x ∷ keep p l) (keep p l))
    go false b e h = h
    go true false e h = rw e h
    go true true e h = rw e (ap (λ (m : List Row). x ∷ m) h)

-- a row whose dst is above a destination doesn't fit it
above-misses : (d : ℕ) (r : Row) → not (up_to (some d) r) ≡ true → fits (flow_to d) r ≡ false
above-misses d r h =
    let high : d < dst r = test-case (leb (dst r) d) (λ e. absurd (let bad : false ≡ true = rw e at h in cc)) (λ e. leb-false (dst r) d e) in
    fits-plain d r ∙ rw (ne_eqb (dst r) (network d (len r)) (λ z. (let b = network-below d (len r) in omega arith)))

none-kept : (p : Row → Bool) (l : List Row) → all (λ r. not (p r)) l ≡ true → keep p l ≡ []
none-kept p [] h = refl
none-kept p (x ∷ l) h = go (p x) h (none-kept p l)
  where
    go : (b : Bool) → (not b && all (λ r. not (p r)) l) ≡ true → (all (λ r. not (p r)) l ≡ true → keep p l ≡ []) → cond b (x ∷ keep p l) (keep p l) ≡ []
    go true h k = cc
    go false h k = k h

module _ (t : Tables) (l : List Row) (w : Walk) where
  -- what is picked of the rows kept is the answer
  pub walk_answers : (d : ℕ) → Walked t l (some d) w → picked d w.kept.rows ≡ answer (set_of t) (flow_to d) l
  unfolding answer
  walk_answers d k =
      let p : Row → Bool = λ r. of_tables t r && fits (flow_to d) r in
      let rest = w.rest.rows.now in
      let none_ahead : keep p rest ≡ [] =
      keep-both (of_tables t) (fits (flow_to d)) rest
      ∙ none-kept (fits (flow_to d)) (keep (of_tables t) rest)
      (all_keep (λ r. not (fits (flow_to d) r)) (of_tables t) rest (all_mono (λ r. not (up_to (some d) r)) (λ r. not (fits (flow_to d) r)) rest (λ r e. rw (above-misses d r e)) k.ahead))
      in
      let all_of : keep p l ≡ keep (fits (flow_to d)) (keep (of_tables t) k.passed) =
      ap (keep p) (sym k.split) ∙ keep_append p k.passed rest ∙ rw none_ahead (append-nil (keep p k.passed)) ∙ keep-both (of_tables t) (fits (flow_to d)) k.passed
      in
      picked-longest (keep (of_tables t) k.passed) w.kept.rows k.kept d (all_keep (λ r. leb (dst r) d) (of_tables t) k.passed k.behind) ∙ ap longest (sym all_of)

  -- and the rows weighed are those of the tables whose dst isn't above the last destination
  pub walk-weighed : (o : Math.Option ℕ) → Walked t l o w → w.weighed ≡ count (λ r. set_of t (table r) && up_to o r) l
  walk-weighed o k =
      let p : Row → Bool = λ r. of_tables t r && up_to o r in
      let rest = w.rest.rows.now in
      let none_ahead : keep p rest ≡ [] =
      keep-both (of_tables t) (up_to o) rest ∙ none-kept (up_to o) (keep (of_tables t) rest) (all_keep (λ r. not (up_to o r)) (of_tables t) rest k.ahead)
      in
      let all_passed : keep p k.passed ≡ keep (of_tables t) k.passed = all-kept-both k.passed k.behind in
      k.counted ∙ ap length (sym all_passed ∙ sym (append-nil (keep p k.passed)) ∙ rw (← none_ahead) refl ∙ sym (keep_append p k.passed rest) ∙ ap (keep p) k.split) ∙ length-keep p l
    where
      all-kept-both : (m : List Row) → all (up_to o) m ≡ true → keep (λ r. of_tables t r && up_to o r) m ≡ keep (of_tables t) m
      all-kept-both [] h = refl
      all-kept-both (x ∷ m) h = go (of_tables t x) (up_to o x) h (all-kept-both m)
        where
          go : (a b : Bool) → (b && all (up_to o) m) ≡ true → (all (up_to o) m ≡ true → keep (λ r. of_tables t r && up_to o r) m ≡ keep (of_tables t) m)
              → cond (a && b) (x ∷ keep (λ r. of_tables t r && up_to o r) m) (keep (λ r. of_tables t r && up_to o r) m) ≡ cond a (x ∷ keep (of_tables t) m) (keep (of_tables t) m)
          go a false h k = cc
          go true true h k = ap (λ (m : List Row). x ∷ m) (k h)
          go false true h k = k h
