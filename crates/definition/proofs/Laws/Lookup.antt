-- A lookup's answer: it fits, no fitting row of its set is longer, none before it is as long; and when 101 is given.
use Rattle.std.specs.Prelude.{ℕ, ◌≤◌, ◌<◌, Bool, cond, not, ◌&&◌, ◌↔◌, eqb, ltb}
use Rattle.std.proofs.Common.{le_of_lt, le_trans, arith, sym, ap, subst, ◌∙◌, true≢false, ltb-true, ltb-false, eq-eqb}
use Rattle.std.proofs.Math.Path.{◌≡◌, refl}
use Rattle.std.proofs.Math.Bool.{true, false}
use Rattle.std.proofs.lemmas.Bool.{false≢true}
use mathlib.Core.List.{List, [], ◌∷◌, ◌++◌}
use Rattle.std.proofs.Math.Option.{Option, none, some}
use Rattle.lists.specs.Lists.{Row, keep}
use Rattle.layout.specs.Route.{table, len, kind}
use Rattle.kind.specs.Kind.{error_of}
use Rattle.definition.specs.State.{State}
use Rattle.definition.specs.Reference.Lookup.{Flow, Found, no_route, fits, longer, longest, answer, together, lookup_in, settled, ruling, listed, again, net_unreachable, main_table, default_table}

-- every row that passes is bounded in its length
abbrev pub Bounded : (ℕ → Type 0) → (Row → Bool) → List Row → Type 0
Bounded bound p [] = Unit {0}
Bounded bound p (s ∷ l) = (p s ≡ true → bound (len s)) × Bounded bound p l

-- r is the answer of the rows that pass p: rows that pass and stand before it are shorter, those behind it are no longer
pub record Answers (p : Row → Bool) (rows : List Row) (r : Row) : Type 0 where
  pub front : List Row
  pub back : List Row
  pub stands : rows ≡ front ++ (r ∷ back)
  pub passes : p r ≡ true
  pub shorter : Bounded (λ n. n < len r) p front
  pub no_longer : Bounded (λ n. n ≤ len r) p back

module _ (p : Row → Bool) where
  bounded-more : (a b : ℕ → Type 0) (l : List Row) → ((n : ℕ) → a n → b n) → Bounded a p l → Bounded b p l
  bounded-more a b [] f h = tt
  bounded-more a b (s ∷ l) f h = (λ e. f (len s) (h.0 e), bounded-more a b l f h.1)

  bounded_append : (a : ℕ → Type 0) (k l : List Row) → Bounded a p k → Bounded a p l → Bounded a p (k ++ l)
  bounded_append a [] l g h = h
  bounded_append a (s ∷ k) l g h = (g.0, bounded_append a k l g.1 h)

  -- one row more in front, by whether it passes
  none-at : (a : ℕ → Type 0) (s : Row) (l : List Row) (b : Bool) → p s ≡ b → longest (cond b (s ∷ keep p l) (keep p l)) ≡ none → (longest (keep p l) ≡ none → Bounded a p l) → Bounded a p (s ∷ l)
  unfolding longest
  none-at a s l true q e ih =
      let bad : ◌≡◌ {A = ℕ} 0 1 = cc in
      absurd (omega arith)
  none-at a s l false q e ih = ((λ t. absurd (true≢false (sym t ∙ q))), ih e)

  none-bounded : (a : ℕ → Type 0) (l : List Row) → longest (keep p l) ≡ none → Bounded a p l
  none-bounded a [] e = tt
  none-bounded a (s ∷ l) e = none-at a s l (p s) refl e (none-bounded a l)

  -- all that pass are no longer than the answer
  all-no_longer : (l : List Row) (t : Row) (n : ℕ) → Answers p l t → len t ≤ n → Bounded (λ m. m ≤ n) p l
  all-no_longer l t n a h =
      subst (Bounded (λ m. m ≤ n) p) (sym a.stands)
      (bounded_append (λ m. m ≤ n) a.front (t ∷ a.back)
      (bounded-more (λ m. m < len t) (λ m. m ≤ n) a.front (λ m g. le_trans (le_of_lt g) h) a.shorter)
      ((λ q. h), bounded-more (λ m. m ≤ len t) (λ m. m ≤ n) a.back (λ m g. le_trans g h) a.no_longer))

  in_front_lem : (s : Row) (l : List Row) (r : Row) → (p s ≡ true → len s < len r) → Answers p l r → Answers p (s ∷ l) r
  in_front_lem s l r h a =
      record {
        front = s ∷ a.front;
        back = a.back;
        stands = ap (λ (k : List Row). s ∷ k) a.stands;
        passes = a.passes;
        shorter = (h, a.shorter);
        no_longer = a.no_longer;
      }

  -- the answer with a row that passes in front of the others
  over : (s : Row) (l : List Row) (r t : Row) (b : Bool) → ltb (len s) (len t) ≡ b → p s ≡ true → cond b t s ≡ r → Answers p l t → Answers p (s ∷ l) r
  over s l r t true e q x a = subst (Answers p (s ∷ l)) x (in_front_lem s l t (λ g. ltb-true (len s) (len t) e) a)
  over s l r t false e q x a =
      subst (Answers p (s ∷ l)) x
      (record {
        front = [];
        back = l;
        stands = refl;
        passes = q;
        shorter = tt;
        no_longer = all-no_longer l t (len s) a (ltb-false (len s) (len t) e);
      })

  past : (s : Row) (l : List Row) (r : Row) (o : Option Row) → longest (keep p l) ≡ o → p s ≡ true → ◌≡◌ {A = Option Row} (some (longer s o)) (some r) → ((t : Row) → longest (keep p l) ≡ some t → Answers p l t) → Answers p (s ∷ l) r
  past s l r none e q x ih =
      subst (Answers p (s ∷ l)) (cc)
      (record {
        front = [];
        back = l;
        stands = refl;
        passes = q;
        shorter = tt;
        no_longer = none-bounded (λ m. m ≤ len s) l e;
      })
  past s l r (some t) e q x ih = over s l r t (ltb (len s) (len t)) refl q (cc) (ih t e)

  at : (s : Row) (l : List Row) (r : Row) (b : Bool) → p s ≡ b → longest (cond b (s ∷ keep p l) (keep p l)) ≡ some r → ((t : Row) → longest (keep p l) ≡ some t → Answers p l t) → Answers p (s ∷ l) r
  unfolding longest
  at s l r true q e ih = past s l r (longest (keep p l)) refl q e ih
  at s l r false q e ih = in_front_lem s l r (λ t. absurd (true≢false (sym t ∙ q))) (ih r e)

  pub longest-answers : (rows : List Row) (r : Row) → longest (keep p rows) ≡ some r → Answers p rows r
  unfolding longest
  longest-answers [] r e =
      let bad : ◌≡◌ {A = ℕ} 0 1 = cc in
      absurd (omega arith)
  longest-answers (s ∷ l) r e = at s l r (p s) refl e (λ t. longest-answers l t)

-- the answer of a set of tables
pub answer-answers : (tables : ℕ → Bool) (f : Flow) (rows : List Row) (r : Row) → answer tables f rows ≡ some r → Answers (λ s. tables (table s) && fits f s) rows r
unfolding answer
answer-answers tables f rows r e = longest-answers (λ s. tables (table s) && fits f s) rows r e

-- none is answered only where no row fits
pub none_answers : (tables : ℕ → Bool) (f : Flow) (rows : List Row) → answer tables f rows ≡ none → Bounded (λ n. ⊥) (λ s. tables (table s) && fits f s) rows
unfolding answer
none_answers tables f rows e = none-bounded (λ s. tables (table s) && fits f s) (λ n. ⊥) rows e

-- ---- 101
pick-not : (a : Bool) (x y : ℕ) → (x ≡ 101 → ⊥) → (y ≡ 101 → ⊥) → cond a x y ≡ 101 → ⊥
pick-not true x y f g e = f e
pick-not false x y f g e = g e

-- no kind's error is 101
error_not_101 : (k : ℕ) → error_of k ≡ 101 → ⊥
unfolding error_of
error_not_101 k e =
    pick-not (eqb k 6) 22 (cond (eqb k 7) 113 (cond (eqb k 8) 13 (cond (eqb k 9) 11 0))) (λ q. omega arith)
    (pick-not (eqb k 7) 113 (cond (eqb k 8) 13 (cond (eqb k 9) 11 0)) (λ q. omega arith)
    (pick-not (eqb k 8) 13 (cond (eqb k 9) 11 0) (λ q. omega arith)
    (pick-not (eqb k 9) 11 0 (λ q. omega arith) (λ q. omega arith))))
    e

verdict-not_101 : (r : Row) (b : Bool) → cond b (no_route (error_of (kind r))) (Found.route r) ≡ no_route net_unreachable → ⊥
verdict-not_101 r true e = error_not_101 (kind r) (cc)
verdict-not_101 r false e =
    let bad : ◌≡◌ {A = ℕ} 0 1 = cc in
    omega arith

-- an answer that is settled is not 101
ruling-not_101 : (o : Option Row) → settled o ≡ true → ruling o ≡ no_route net_unreachable → ⊥
ruling-not_101 none s e = false≢true s
ruling-not_101 (some r) s e = verdict-not_101 r (not (eqb (error_of (kind r)) 0)) e

-- an answer of 255 and 254, and of 253 while that is listed, which isn't a throw
abbrev pub upper_settled : State → Flow → Bool
upper_settled st f = settled (answer (together main_table) f st.routes)

abbrev pub lower_settled : State → Flow → Bool
lower_settled st f = listed default_table st && settled (answer (together default_table) f st.routes)

neither : (b c d : Bool) (u l : Option Row) → settled u ≡ b → settled l ≡ d → cond b (ruling u) (cond (c && d) (ruling l) (no_route net_unreachable)) ≡ no_route net_unreachable → (b ≡ false) × ((c && d) ≡ false)
neither true c d u l p q e = absurd (ruling-not_101 u p e)
neither false true true u l p q e = absurd (ruling-not_101 l q e)
neither false true false u l p q e = (refl, refl)
neither false false d u l p q e = (refl, refl)

-- 101 is given exactly if neither holds a fitting answer that isn't a throw (document 01, port order 5)
pub unreachable_exactly : (st : State) (f : Flow) → (lookup_in st f ≡ no_route net_unreachable) ↔ ((upper_settled st f ≡ false) × (lower_settled st f ≡ false))
unfolding lookup_in
unreachable_exactly st f = (
  λ e. neither (upper_settled st f) (listed default_table st) (settled (answer (together default_table) f st.routes))
      (answer (together main_table) f st.routes) (answer (together default_table) f st.routes) refl refl e,
  λ h. rw (h.0, h.1) refl,
)

-- ---- a throw's number is never given
settled-not-again : (r : Row) (b : Bool) → not (eqb (error_of (kind r)) again) ≡ true → cond b (no_route (error_of (kind r))) (Found.route r) ≡ no_route again → ⊥
settled-not-again r true s e =
    let same : error_of (kind r) ≡ again = cc in
    false≢true (sym (ap not (eq-eqb (error_of (kind r)) again same)) ∙ s)
settled-not-again r false s e =
    let bad : ◌≡◌ {A = ℕ} 0 1 = cc in
    omega arith

ruling-not-again : (o : Option Row) → settled o ≡ true → ruling o ≡ no_route again → ⊥
ruling-not-again none s e = false≢true s
ruling-not-again (some r) s e = settled-not-again r (not (eqb (error_of (kind r)) 0)) s e

never-again : (b c d : Bool) (u l : Option Row) → settled u ≡ b → settled l ≡ d → cond b (ruling u) (cond (c && d) (ruling l) (no_route net_unreachable)) ≡ no_route again → ⊥
never-again true c d u l p q e = ruling-not-again u p e
never-again false true true u l p q e = ruling-not-again l q e
never-again false true false u l p q e =
    let bad : ◌≡◌ {A = ℕ} net_unreachable again = cc in
    omega arith
never-again false false d u l p q e =
    let bad : ◌≡◌ {A = ℕ} net_unreachable again = cc in
    omega arith

-- no lookup gives 11 (document 01: "lookup4 never gives 11")
pub never_11 : (st : State) (f : Flow) → lookup_in st f ≡ no_route again → ⊥
unfolding lookup_in
never_11 st f e =
    never-again (upper_settled st f) (listed default_table st) (settled (answer (together default_table) f st.routes))
    (answer (together main_table) f st.routes) (answer (together default_table) f st.routes) refl refl e
