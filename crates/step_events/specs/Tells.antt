-- What a change to a state has told.
use Rattle.std.specs.Prelude.{ℕ, ◌+◌, ◌*◌, ◌≤◌, ◌≡◌, List, length}
use Rattle.lists.specs.Lists.{Row, flat, put}
use Rattle.step_events.specs.declared.change.Change.{Change}

-- b is lent the same words as a
pub record SamePlaces (a b : Change) : Type 0 where
  pub state : b.state.words.ghost_name ≡ a.state.words.ghost_name
  pub events : b.events.ghost_name ≡ a.events.ghost_name

-- b tells these rows more than a, behind those that a tells
pub record Tells (rows : List Row) (a b : Change) : Type 0 where
  pub told : b.told ≡ a.told + length rows
  pub words : b.events.now ≡ put (34 * a.told) (flat rows) a.events.now
  pub long : length b.events.now ≡ length a.events.now
  pub places : SamePlaces a b

-- b tells n rows more than a at most, and may tell as many in all
pub record TellsAtMost (n : ℕ) (a b : Change) : Type 0 where
  pub told : b.told ≤ a.told + n
  pub long : length b.events.now ≡ length a.events.now
