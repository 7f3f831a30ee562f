-- When a test says whether a step changes the state; and what it comes to where tables are listed.
-- Assumes nothing.
use Rattle.std.specs.Prelude.{ℕ, ◌<◌, ◌≤◌, ◌≡◌, refl, Bool, true, false, cond, ◌||◌, List, [], ◌∷◌, eqb, ltb, length}
use Rattle.std.proofs.Common.{sym, ap, ◌∙◌, arith, length-append, ltb-true, ltb-false, lt-ltb, le-ltb}
use Rattle.lists.specs.Lists.{Row, among}
use Rattle.lists.specs.Bools.{cond-case}
use Rattle.layout.specs.Route.{before}
use Rattle.definition.specs.State.{State, Out, also}
use Rattle.definition.specs.Reference.Lookup.{main_table, local_table}
use Rattle.definition.specs.Reference.Insert.{add_table, list_table, create4}
use Rattle.definition.specs.Reference.Addresses.{Outcome}
use Rattle.definition.specs.Step.{answered, result}
use Rattle.definition_parts.specs.Rule.{has_events}

-- the test says whether the state is another one afterwards
abbrev pub Says : State → State → Bool → Type 0
Says before after true = after ≡ before → ⊥
Says before after false = after ≡ before

-- such a test is right with the tables too: where it says no, no table is new
pub with-tables : (before after : State) (a : Bool) → Says before after a → Says before after (a || ltb (length before.tables) (length after.tables))
with-tables before after true s = s
with-tables before after false s =
    let none : ltb (length before.tables) (length after.tables) ≡ false =
    le-ltb (length before.tables) (length after.tables) (omega (arith, ap (λ (st : State). length st.tables) s))
    in
    rw none s

-- a step that says so by a number that differs
pub by-number : (before after : State) (f : State → ℕ) → f after < f before → after ≡ before → ⊥
by-number before after f h e = omega (arith, h, ap f e)

-- one that emits something and leaves another state
pub loud-says : (before : State) (o : Out) → 1 ≤ length o.emitted → (o.state ≡ before → ⊥) → Says before o.state (ltb 0 (length o.emitted))
loud-says before o h s = rw (lt-ltb 0 (length o.emitted) h) s

-- ---- tables
add-longer : (t : ℕ) (l : List ℕ) → length l ≤ length (add_table t l)
add-longer t l = cond-case (λ (m : List ℕ). length l ≤ length m) (among t l) (λ e. omega arith) (λ e. omega (arith, length-append l (t ∷ [])))

add-same : (t : ℕ) (l : List ℕ) → length (add_table t l) ≡ length l → add_table t l ≡ l
add-same t l =
    cond-case (λ (m : List ℕ). length m ≡ length l → m ≡ l) (among t l) (λ e h. refl) (λ e h. absurd (omega (arith, length-append l (t ∷ []))))

list-longer : (t : ℕ) (l : List ℕ) → length l ≤ length (list_table t l)
unfolding list_table
list-longer t l =
    let first : length l ≤ length (cond (eqb t local_table) (add_table main_table l) l) =
    cond-case (λ (m : List ℕ). length l ≤ length m) (eqb t local_table) (λ e. add-longer main_table l) (λ e. omega arith)
    in
    omega (arith, add-longer t (cond (eqb t local_table) (add_table main_table l) l))

list-same : (t : ℕ) (l : List ℕ) → length (list_table t l) ≡ length l → list_table t l ≡ l
unfolding list_table
list-same t l =
    cond-case (λ (m : List ℕ). length (add_table t m) ≡ length l → add_table t m ≡ l) (eqb t local_table)
    (λ e h.
    let k = add-same main_table l (omega (arith, add-longer main_table l, add-longer t (add_table main_table l))) in
    ap (add_table t) k ∙ add-same t l (ap (λ (m : List ℕ). length (add_table t m)) (sym k) ∙ h))
    (λ e h. add-same t l h)

pub create-same : (t : ℕ) (st : State) → length (create4 t st).tables ≡ length st.tables → create4 t st ≡ st
unfolding create4
create-same t st h = λ i. record { addresses = st.addresses; routes = st.routes; tables = list-same t st.tables h i }

pub create-longer : (t : ℕ) (st : State) → length st.tables ≤ length (create4 t st).tables
unfolding create4
create-longer t st = list-longer t st.tables

-- "events or more tables"
abbrev pub events_or_tables : State → Outcome → Bool
events_or_tables st o = has_events (answered o) || ltb (length st.tables) (length (result o).tables)

pub nothing-emitted : (l : List Row) → ltb 0 (length l) ≡ false → length l ≡ 0
nothing-emitted l h = omega (arith, ltb-false 0 (length l) h)

pub grown : (before after : State) → ltb (length before.tables) (length after.tables) ≡ true → after ≡ before → ⊥
grown before after h e = omega (arith, ltb-true (length before.tables) (length after.tables) h, ap (λ (s : State). length s.tables) e)

pub also-loud : (o : Out) (g : State → Out) → 1 ≤ length o.emitted → 1 ≤ length (also o g).emitted
unfolding also
also-loud o g h = omega (arith, length-append o.emitted (g o.state).emitted)
