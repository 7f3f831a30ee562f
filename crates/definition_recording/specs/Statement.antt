-- What is claimed of recordings (document 02, Paper 9): of whole runs from the empty state, refused calls included.
use Rattle.std.specs.Prelude.{ℕ, ◌≤◌, ◌≡◌, ◌↔◌, true, cond, List, [], ◌∷◌, ◌++◌}
use Rattle.lists.specs.Lists.{Row, flat}
use Rattle.definition.specs.Words.{state_of}
use Rattle.definition.specs.Call.{Call, Reply, valued, written}
use Rattle.definition.specs.Step.{alters, semantics, step, listing_room}
use Rattle.definition.specs.Noninterference.Statement.{empty_words, after}
use Rattle.definition_recording.specs.Recording.{rebuild_call, same_rows, same_call}

-- the events that a call wrote: the rows that a call which changes the state writes are events
abbrev pub events_by : Call → Reply → List Row
events_by c r = cond (alters (semantics c).action) r.rows []

-- a recording of a run: the events of its calls, in order
unfoldable pub recording : List Call → List ℕ → List Row
recording [] w = []
recording (c ∷ cs) w = events_by c (step c w).reply ++ recording cs (step c w).words

-- as words, one event row after the other
abbrev pub recorded : List Call → List ℕ
recorded calls = flat (recording calls empty_words)

-- the route rows after a run
abbrev pub routes_after : List Call → List Row
routes_after calls = (state_of (after calls empty_words)).routes

-- "For every run from empty the rebuilt rows equal the table's, in order"; rebuilt into any buffer that suffices
abbrev pub Recording : Type 0
Recording = (calls : List Call) (room : ℕ) → listing_room ≤ room → rebuild_call room (recorded calls) ≡ written (routes_after calls)

-- And so two runs' recordings rebuild the same rows exactly if these are the same after both.
abbrev pub SameRecordings : Type 0
SameRecordings =
    (cs ds : List Call) → same_call (recorded cs) (recorded ds) ≡ valued (cond (same_rows (routes_after cs) (routes_after ds)) 1 0)

-- "the same rows in the same order" are equal lists
abbrev pub SameRows : Type 0
SameRows = (l m : List Row) → same_rows l m ≡ true ↔ l ≡ m
