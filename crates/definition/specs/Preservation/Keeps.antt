-- Steps that keep a state fit, tell of rows of an event's size, and never leave a list longer than the greatest length that they count.
-- Assumes nothing.
use Rattle.std.specs.Prelude.{ℕ, ◌≤◌, ◌≡◌, refl, Bool, true, List, [], ◌∷◌, eqb, length}
use Rattle.std.proofs.Common.{arith}
use Rattle.lists.specs.Lists.{Row, all}
use Rattle.lists.specs.Rows.{sized}
use Rattle.lists.specs.All.{all_append, all_head, all_tail, all_always}
use Rattle.layout.specs.Address.{fit_address}
use Rattle.definition.specs.State.{State, Sizes, Out, sizes, becomes, stays, also, through, with_addresses, with_routes, with_tables}
use Rattle.definition.specs.Words.{none_twice, fit_state}
use Rattle.definition.specs.Reference.Addresses.{Outcome, goes, refused}
use Rattle.definition.specs.Preservation.Fit.{Invariant, FitRoutes, fit-state, state-fit}

-- each list is no longer than counted
pub record Covers (a b : Sizes) : Type 0 where
  pub of_addresses : a.addresses ≤ b.addresses
  pub of_routes : a.routes ≤ b.routes
  pub of_tables : a.tables ≤ b.tables

-- what a step leaves is fit, what it emits are event rows, and its peak covers what it leaves
pub record Kept (o : Out) : Type 0 where
  pub fit : Invariant o.state
  pub events : sized 34 o.emitted ≡ true
  pub covers : Covers (sizes o.state) o.peak

pub record Keeps (f : State → Out) : Type 0 where
  pub kept : (st : State) → Invariant st → Kept (f st)

-- of an outcome
abbrev pub KeptOutcome : Outcome → Type 0
KeptOutcome (goes o) = Kept o
KeptOutcome (refused n st) = Invariant st

pub record KeepsOutcome (f : State → Outcome) : Type 0 where
  pub kept : (st : State) → Invariant st → KeptOutcome (f st)

-- ---- states
pub fit-addresses : (st : State) (l : List Row) → Invariant st → all fit_address l ≡ true → Invariant (with_addresses l st)
fit-addresses st l f h = record { of_addresses = h; of_routes = f.of_routes; of_tables = f.of_tables }

pub fit-routes : (st : State) (l : List Row) → Invariant st → FitRoutes l → Invariant (with_routes l st)
fit-routes st l f h = record { of_addresses = f.of_addresses; of_routes = h; of_tables = f.of_tables }

pub fit-tables : (st : State) (l : List ℕ) → Invariant st → none_twice l ≡ true → Invariant (with_tables l st)
fit-tables st l f h = record { of_addresses = f.of_addresses; of_routes = f.of_routes; of_tables = h }

-- ---- steps
pub becomes-kept : (st : State) (rows : List Row) → sized 34 rows ≡ true → Invariant st → Kept (becomes st rows)
becomes-kept st rows e f = record { fit = f; events = e; covers = record { of_addresses = omega arith; of_routes = omega arith; of_tables = omega arith } }

pub stays_keeps : Keeps stays
stays_keeps = record { kept = λ st f. becomes-kept st [] refl f }

pub also_kept : (o : Out) (g : State → Out) → Kept o → Keeps g → Kept (also o g)
unfolding also
also_kept o g h k =
    let later = k.kept o.state h.fit in
    let c = later.covers in
    record { fit = later.fit; events = all_append (λ r. eqb (length r) 34) o.emitted (g o.state).emitted h.events later.events; covers = record { of_addresses = omega (arith, c.of_addresses); of_routes = omega (arith, c.of_routes); of_tables = omega (arith, c.of_tables) } }

pub through_keeps : {A : Type 0} (f : A → State → Out) (p : A → Bool) (l : List A) → ((x : A) → p x ≡ true → Keeps (f x)) → all p l ≡ true
    → Keeps (through f l)
unfolding through
through_keeps f p [] g h = stays_keeps
through_keeps f p (x ∷ l) g h =
    record { kept = λ st s. also_kept (f x st) (through f l) ((g x (all_head p x l h)).kept st s) (through_keeps f p l g (all_tail p x l h)) }

pub through-each : {A : Type 0} (f : A → State → Out) (l : List A) → ((x : A) → Keeps (f x)) → Keeps (through f l)
through-each f l g = through_keeps f (λ x. true) l (λ x h. g x) (all_always (λ x. true) l (λ x. refl))

-- the same with the test that a state is fit
pub keeps_fit : (f : State → Out) → Keeps f → (st : State) → fit_state st ≡ true → fit_state (f st).state ≡ true
keeps_fit f k st h = state-fit (f st).state (k.kept st (fit-state st h)).fit
