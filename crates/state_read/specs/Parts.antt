-- The tables in use, of words that hold a state.
-- Assumes nothing.
use Rattle.std.specs.Prelude.{ℕ, ◌≡◌, List}
use Rattle.std.proofs.Common.{ap}
use Rattle.lists.specs.Lists.{among}
use Rattle.definition.specs.State.{State}
use Rattle.definition.specs.Reference.Lookup.{listed}
use Rattle.state.specs.Represents.{Represents}
use Rattle.state.specs.Change.{tables-at}
use Rattle.state_tables.specs.Listed.{tables_of}

pub listed-there : {w : List ℕ} {st : State} → Represents w st → (t : ℕ) → among t (tables_of w) ≡ listed t st
listed-there h t = ap (among t) (tables-at h)
