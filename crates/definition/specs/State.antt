-- The reference's state, lists without limits, and what a step of it leaves.
use Rattle.std.specs.Prelude.{ℕ, max, List, [], ◌∷◌, ◌++◌, length}
use Rattle.lists.specs.Lists.{Row}

-- the addresses in order; the routes of every table in their order; the tables listed, the oldest first
pub record State : Type 0 where
  pub addresses : List Row
  pub routes : List Row
  pub tables : List ℕ

abbrev pub empty : State
empty = record { addresses = []; routes = []; tables = [] }

-- how long each list is
pub record Sizes : Type 0 where
  pub addresses : ℕ
  pub routes : ℕ
  pub tables : ℕ

abbrev pub sizes : State → Sizes
sizes st =
    record {
      addresses = length st.addresses;
      routes = length st.routes;
      tables = length st.tables;
    }

abbrev pub most : Sizes → Sizes → Sizes
most a b =
    record {
      addresses = max a.addresses b.addresses;
      routes = max a.routes b.routes;
      tables = max a.tables b.tables;
    }

-- What a step leaves: the state afterwards, the event rows that it emitted, and the greatest length that each list had after any of
-- its changes. The start isn't counted: the lists of a call keep to their limits before its first change.
pub record Out : Type 0 where
  pub state : State
  pub emitted : List Row
  pub peak : Sizes

-- the state becomes st, and rows are emitted
abbrev pub becomes : State → List Row → Out
becomes st rows = record { state = st; emitted = rows; peak = sizes st }

-- nothing is done: st is the state as it was
abbrev pub stays : State → Out
stays st = becomes st []

-- one step and then another on the state that the first left
unfoldable pub also : Out → (State → Out) → Out
also o f =
    let p = f o.state in
    record {
      state = p.state;
      emitted = o.emitted ++ p.emitted;
      peak = most o.peak p.peak;
    }

-- a step for each element, in order
unfoldable pub through : {A : Type 0} → (A → State → Out) → List A → State → Out
through f [] st = stays st
through f (x ∷ l) st = also (f x st) (through f l)

-- the state with other addresses, routes or tables
abbrev pub with_addresses : List Row → State → State
with_addresses l st = record { addresses = l; routes = st.routes; tables = st.tables }

abbrev pub with_routes : List Row → State → State
with_routes l st = record { addresses = st.addresses; routes = l; tables = st.tables }

abbrev pub with_tables : List ℕ → State → State
with_tables l st = record { addresses = st.addresses; routes = st.routes; tables = l }
