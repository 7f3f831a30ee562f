-- The reply for many destinations: an answer for each, its shape, and how many rows can be weighed.
-- Assumes nothing.
use Rattle.std.specs.Prelude.{ℕ, zero, suc, ◌+◌, ◌*◌, ◌≤◌, ◌<◌, ◌≡◌, refl, Bool, true, false, cond, ◌&&◌, List, [], ◌∷◌, ◌↔◌, ◌≢◌, eqb, leb, length, get_or, take}
use Rattle.std.proofs.Common.{arith, sym, ap, ◌∙◌, length-take-le, take_all, eqb-true, eq-eqb, leb-true, leb-false, le-leb}
use Rattle.std.proofs.Math.Bool.{and-false}
use Rattle.std.proofs.lemmas.Bool.{eqb-false, lt-leb}
use Rattle.lists.specs.Lists.{Row, keep}
use Rattle.lists.specs.Rows.{sized, length-zeros}
use Rattle.lists.specs.Bools.{and_both, cond-case, test-case}
use Rattle.lists.specs.Count.{tick-none, count_most}
use Rattle.layout.specs.Route.{fit_route, table}
use Rattle.definition.specs.State.{State}
use Rattle.definition.specs.Words.{state_of}
use Rattle.definition.specs.Call.{Reply, refusal}
use Rattle.definition.specs.Step.{checked, reading}
use Rattle.definition.specs.Reference.Lookup.{Found, route, no_route, flow_to, together, main_table, default_table, listed, lookup4}
use Rattle.definition.proofs.Preservation.Numbers.{OfFound, lookup-number}
use Rattle.definition.specs.Preservation.Fit.{length-route, fit-state}
use Rattle.definition.specs.Preservation.Encode.{Admissible}
use Rattle.definition.proofs.Preservation.Reading.{FoundIn, lookup-fit}
use Rattle.definition.proofs.Preservation.Step.{Held, good-held, checked-held, checked-passes}
use Rattle.definition_many.specs.Many.{answer_size, answer_words, answers, last, up_to, weighed, leads_on, rows_weighed, destination_limit, rising}
use Rattle.definition_many.specs.Many.{unfit_destinations, many_checks, many_reply, lookup4_many_call}

-- ---- the answers
-- as many as there are destinations, each `lookup4`'s
pub answer-each : (st : State) (ds : List ℕ) → length (answers st ds) ≡ length ds
unfolding answers
answer-each st [] = refl
answer-each st (d ∷ ds) = ap suc (answer-each st ds)

pub answer_at : (st : State) (ds : List ℕ) (i : ℕ) → i < length ds → get_or (answers st ds) i [] ≡ answer_words (lookup4 st (get_or ds i 0))
unfolding answers
answer_at st [] i h = absurd (omega arith)
answer_at st (d ∷ ds) zero h = refl
answer_at st (d ∷ ds) (suc i) h = answer_at st ds i (omega arith)

-- its first word is 0 exactly where there is a row
abbrev pub found : Found → Bool
found (route r) = true
found (no_route n) = false

number_exactly : (x : Found) → OfFound x → (get_or (answer_words x) 0 0 ≡ 0) ↔ (found x ≡ true)
number_exactly (route r) h = ((λ e. refl), (λ e. refl))
number_exactly (no_route n) h = ((λ e. absurd (omega (arith, h.positive))), (λ e. absurd (let z : ◌≡◌ {A = ℕ} 0 1 = cc in omega arith)))

pub answer-number : (st : State) (d : ℕ) → (get_or (answer_words (lookup4 st d)) 0 0 ≡ 0) ↔ (found (lookup4 st d) ≡ true)
unfolding lookup4
answer-number st d = number_exactly (lookup4 st d) (lookup-number st (flow_to d))

-- 33 words each
answer-size : (x : Found) → FoundIn fit_route x → length (answer_words x) ≡ answer_size
answer-size (route r) h = ap suc (length-route r h)
answer-size (no_route n) h = ap suc (length-zeros 32)

pub answers-sized : (st : State) → Admissible st → (ds : List ℕ) → sized answer_size (answers st ds) ≡ true
unfolding answers lookup4
answers-sized st g [] = refl
answers-sized st g (d ∷ ds) =
    let x = lookup4 st d in
    and_both (eqb (length (answer_words x)) answer_size) (sized answer_size (answers st ds))
    (eq-eqb (length (answer_words x)) answer_size (answer-size x (lookup-fit st (flow_to d) (fit-state st g.fits))))
    (answers-sized st g ds)

-- ---- the rows weighed
-- "With no destinations it is 0"
pub weighed-nothing : (tables : ℕ → Bool) (rows : List Row) → weighed tables rows [] ≡ 0
weighed-nothing tables [] = refl
weighed-nothing tables (r ∷ rows) =
    omega (arith, tick-none (tables (table r) && false) (and-false (tables (table r))), weighed-nothing tables rows)

pub none-weighed : (st : State) → rows_weighed st [] ≡ 0
unfolding rows_weighed
none-weighed st =
    cond-case (λ (n : ℕ). weighed (together main_table) st.routes [] + n ≡ 0) (listed default_table st)
    (λ e. omega (arith, weighed-nothing (together main_table) st.routes, weighed-nothing (together default_table) st.routes))
    (λ e. omega (arith, weighed-nothing (together main_table) st.routes))

-- each set's rows at most
pub weighed-most : (st : State) (ds : List ℕ) → rows_weighed st ds ≤ length st.routes + length st.routes
unfolding rows_weighed
weighed-most st ds =
    let upper = count_most (λ r. together main_table (table r) && up_to (last ds) r) st.routes in
    cond-case (λ (n : ℕ). weighed (together main_table) st.routes ds + n ≤ length st.routes + length st.routes) (listed default_table st)
    (λ e. omega (arith, upper, count_most (λ r. together default_table (table r) && up_to (last (keep (leads_on st) ds)) r) st.routes))
    (λ e. omega (arith, upper))

-- while 253 isn't listed no row of it is weighed
pub unlisted-weighed : (st : State) (ds : List ℕ) → listed default_table st ≡ false → rows_weighed st ds ≡ weighed (together main_table) st.routes ds
unfolding rows_weighed
unlisted-weighed st ds e = rw e (omega arith)

-- ---- the call
-- by its checks: a reply for the state, or a refusal
pub many-case : (P : Reply → Type 0) (room : ℕ) (ds w : List ℕ) → (checked (many_checks room ds) w ≡ 0 → P (many_reply ds (state_of w)))
    → ((n : ℕ) → n ≢ 0 → P (refusal n)) → P (lookup4_many_call room ds w).reply
unfolding lookup4_many_call reading
many-case P room ds w x y =
    let n = checked (many_checks room ds) w in
    cond-case P (eqb n 0) (λ e. x (eqb-true n 0 e)) (λ e. y n (eqb-false n 0 e))

-- the checks, passed
pub record ManyPassed (room : ℕ) (ds w : List ℕ) : Type 0 where
  pub held : Held w
  pub spacious : answer_size * length ds ≤ room
  pub few : length ds ≤ destination_limit
  pub rises : rising ds ≡ true

unfit-passed : (ds : List ℕ) → unfit_destinations ds ≡ 0 → (length ds ≤ destination_limit) × (rising ds ≡ true)
unfit-passed ds z =
    test-case (leb (length ds) destination_limit)
    (λ e. (leb-true (length ds) destination_limit e, test-case (rising ds) (λ d. d) (λ d. absurd (not-unfit (rw (e, d) at z)))))
    (λ e. absurd (not-many (rw e at z)))
  where
    not-unfit : ◌≡◌ {A = ℕ} 211 0 → ⊥
    not-unfit e = omega arith

    not-many : ◌≡◌ {A = ℕ} 210 0 → ⊥
    not-many e = omega arith

pub passed : (room : ℕ) (ds w : List ℕ) → checked (many_checks room ds) w ≡ 0 → ManyPassed room ds w
passed room ds w z =
    let p = checked-passes (many_checks room ds) w z in
    let fit = unfit-passed ds p.fit in
    record {
      held = checked-held (many_checks room ds) w z;
      spacious = leb-true (answer_size * length ds) room p.room;
      few = fit.0;
      rises = fit.1;
    }

-- what the call writes: an answer of 33 words for each destination, none where it is refused, no more than the buffer has room for
pub record ManyShape (room : ℕ) (ds : List ℕ) (r : Reply) : Type 0 where
  pub counts : length r.rows ≡ cond (eqb r.number 0) (length ds) 0
  pub size : sized answer_size r.rows ≡ true
  pub fits : answer_size * length r.rows ≤ room

pub many-shaped : (room : ℕ) (ds w : List ℕ) → ManyShape room ds (lookup4_many_call room ds w).reply
many-shaped room ds w =
    many-case (ManyShape room ds) room ds w
    (λ z.
    let p = passed room ds w z in
    let st = state_of w in
    let few = answer-each st ds in
    record { counts = few; size = answers-sized st (good-held w p.held) ds; fits = omega (arith, few, p.spacious) })
    (λ n h.
    record { counts = cond-case (λ (k : ℕ). 0 ≡ k) (eqb n 0) (λ e. absurd (h (eqb-true n 0 e))) (λ e. refl); size = refl; fits = omega arith })

-- ---- only the first destinations count
-- calls whose checks come to the same, and their replies where they pass
module _ (w : List ℕ) (room most : ℕ) (ds es : List ℕ) (roomy : answer_size * length ds ≤ room) (roomy' : answer_size * length es ≤ most)
    (request : unfit_destinations ds ≡ unfit_destinations es) where
  same_number : checked (many_checks room ds) w ≡ checked (many_checks most es) w
  same_number = rw (le-leb (answer_size * length ds) room roomy, le-leb (answer_size * length es) most roomy', request)

  same-call : (checked (many_checks most es) w ≡ 0 → ds ≡ es) → (lookup4_many_call room ds w).reply ≡ (lookup4_many_call most es w).reply
  unfolding lookup4_many_call reading
  same-call same =
      let n = checked (many_checks most es) w in
      rw same_number
      (test-case (eqb n 0) (λ e. ap (λ (l : List ℕ). cond (eqb n 0) (many_reply l (state_of w)) (refusal n)) (same (eqb-true n 0 e))) (λ e. rw e))

-- More than 257 are refused as the first 257 of them are, in any buffer that suffices: so a call on bytes needs to read no more of them.
pub many_first : (w : List ℕ) (room most : ℕ) (ds : List ℕ) → answer_size * length ds ≤ room → answer_size * length (take 257 ds) ≤ most
    → (lookup4_many_call room ds w).reply ≡ (lookup4_many_call most (take 257 ds) w).reply
many_first w room most ds roomy roomy' =
    test-case (leb (length ds) 257)
    (λ e.
    let all : ds ≡ take 257 ds = sym (take_all 257 ds (leb-true (length ds) 257 e)) in
    same-call w room most ds (take 257 ds) roomy roomy' (ap unfit_destinations all) (λ z. all))
    (λ e.
    let long : 257 < length ds = leb-false (length ds) 257 e in
    let cut : length (take 257 ds) ≡ 257 = length-take-le 257 ds (omega (arith, long)) in
    let over : unfit_destinations ds ≡ 210 = rw (lt-leb (length ds) destination_limit (omega (arith, long))) in
    let over' : unfit_destinations (take 257 ds) ≡ 210 = rw (lt-leb (length (take 257 ds)) destination_limit (omega (arith, cut))) in
    same-call w room most ds (take 257 ds) roomy roomy' (over ∙ sym over')
    (λ z.
    let few = (passed most (take 257 ds) w z).few in
    absurd (omega (arith, few, cut))))
