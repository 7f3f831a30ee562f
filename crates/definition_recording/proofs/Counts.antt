-- A call that tells only events of addresses, and lists no table, leaves the row counts.
-- Assumes nothing.
use Rattle.std.specs.Prelude.{ℕ, ◌≡◌, refl, false, ◌||◌, List, [], ◌∷◌, eqb, length, drop}
use Rattle.std.proofs.Common.{sym, ap, subst, ◌∙◌, arith, eqb-true, ltb-false, get_or-take}
use Rattle.std.proofs.lemmas.Bool.{leb-false}
use Rattle.lists.specs.Lists.{Row, any}
use Rattle.lists.specs.Bools.{cond-case, or-false}
use Rattle.definition.specs.State.{State}
use Rattle.definition.specs.Words.{base_size, decode, base, state_of, table_count, row_counts, row_counts_at}
use Rattle.definition.specs.Call.{Call}
use Rattle.definition.specs.Step.{step}
use Rattle.definition.proofs.Preservation.Step.{Held, step-held}
use Rattle.definition_parts.specs.Rule.{more_tables}
use Rattle.definition_parts.proofs.Changed.{tables-counted}
use Rattle.definition_recording.specs.Recording.{Rebuilt, rows, refused, kind, of_routes, fit_address_event, event, next, rebuild_from}
use Rattle.definition_recording.specs.Statement.{events_by}
use Rattle.definition_recording.proofs.Theorem.{step-again}
use Rattle.definition_recording.proofs.Tables.{step-lists}

-- ---- events of addresses rebuild nothing
abbrev Stays : List Row → Rebuilt → Type 0
Stays l (rows m) = m ≡ l
Stays l (refused n) = Unit {0}

event-stays : (e : Row) (l : List Row) → of_routes e ≡ false → Stays l (event e l)
unfolding event
event-stays e l h =
    let few = leb-false 3 (kind e) h in
    cond-case (Stays l) (eqb (kind e) 1 || eqb (kind e) 2) (λ a. cond-case (Stays l) (fit_address_event e) (λ b. refl) (λ b. tt))
    (λ a. cond-case (Stays l) (eqb (kind e) 3) (λ b. absurd (omega (arith, few, eqb-true (kind e) 3 b)))
    (λ b. cond-case (Stays l) (eqb (kind e) 4) (λ d. absurd (omega (arith, few, eqb-true (kind e) 4 d)))
    (λ d. cond-case (Stays l) (eqb (kind e) 5) (λ f. absurd (omega (arith, few, eqb-true (kind e) 5 f)))
    (λ f. cond-case (Stays l) (eqb (kind e) 6) (λ g. absurd (omega (arith, few, eqb-true (kind e) 6 g))) (λ g. tt)))))

rebuild-stays : (events l : List Row) → any of_routes events ≡ false → Stays l (rebuild_from events l)
unfolding rebuild_from
rebuild-stays [] l h = refl
rebuild-stays (e ∷ events) l h =
    let o = or-false (of_routes e) (any of_routes events) h in
    go (event e l) (event-stays e l o.0) (rebuild-stays events l o.1)
  where
    go : (r : Rebuilt) → Stays l r → Stays l (rebuild_from events l) → Stays l (next r (rebuild_from events))
    go (rows m) s t = rw s t
    go (refused n) s t = tt

-- ---- so the routes stay
routes-stay : (c : Call) (w : List ℕ) → any of_routes (events_by c (step c w).reply) ≡ false → (state_of (step c w).words).routes ≡ (state_of w).routes
routes-stay c w h =
    subst (Stays (state_of w).routes) (step-again c w) (rebuild-stays (events_by c (step c w).reply) (state_of w).routes h)

-- ---- and where no table is listed, the row counts
counts-by : (st later : State) → later.routes ≡ st.routes → later.tables ≡ st.tables → row_counts later ≡ row_counts st
unfolding row_counts
counts-by st later r t = rw (r, t)

pub row_counts-stay : (c : Call) (w v : List ℕ) → Held w → v ≡ base (step c w).words → any of_routes (events_by c (step c w).reply) ≡ false
    → more_tables w v ≡ false → row_counts (decode v) ≡ drop row_counts_at w
row_counts-stay c w v h e none few =
    let later = (step c w).words in
    let lists = step-lists c w in
    let counted : table_count v ≡ length (state_of later).tables =
    ap table_count e ∙ get_or-take base_size later 2 0 (omega arith) ∙ tables-counted later (step-held c w h)
    in
    let same = lists.same (omega (arith, lists.longer, ltb-false (table_count w) (table_count v) few, tables-counted w h, counted)) in
    ap (λ (x : List ℕ). row_counts (decode x)) e ∙ counts-by (state_of w) (state_of later) (routes-stay c w none) same ∙ sym h.counts
