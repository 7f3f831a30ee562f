-- What a step on a change that had told nothing was, by what it left in the places that it was lent.
use Rattle.std.specs.Prelude.{ℕ, ◌/◌, ◌≡◌, Bool, true, false, ◌&&◌, ◌||◌, List, Ok, Err, ltb, length, take, drop}
use Rattle.std.specs.Prelude.{Result as Answer}
use denote.Ref.{MutBor}
use Rattle.std.specs.Simd.{first_chunks}
use Rattle.std.specs.Result.{result_unwrap_or}
use Rattle.std.specs.Fn.{Once, FnOnceTakesAtMut, FnOnceReturnsAtMut}
use Rattle.lists.specs.Lists.{Row, any}
use Rattle.layout.specs.Event as Event
use Rattle.definition.specs.Words.{base_size, row_counts_at, decode, well_formed, base, row_counts, table_count}
use Rattle.definition_recording.specs.Recording.{of_routes}
use Rattle.refusal.specs.declared.Refusal.{Refusal}
use Rattle.step_events.specs.declared.change.Change.{Change}
use Rattle.call_change.specs.declared.Ended.{Ended}
use Rattle.call_change.specs.Count.{leaving}

-- a change of the words w and the event buffer ev, of which nothing is told
pub record Begins (w ev : List ℕ) (a : Change) : Type 0 where
  pub words : a.state.words.now ≡ w
  pub buffer : a.events.now ≡ ev
  pub none : a.told ≡ 0

-- what a step answers, with how many rows it told; whether it told one
abbrev pub telling : Change → Answer (Unit {0}) Refusal → Answer ℕ Refusal
telling b (Ok u) = Ok b.told
telling b (Err e) = Err e

abbrev pub told_some : Answer ℕ Refusal → Bool
told_some (Ok n) = ltb 0 n
told_some (Err e) = false

-- the rows that it told, of the event buffer; one that is refused told none
abbrev pub told_rows : Answer ℕ Refusal → List ℕ → List Row
told_rows r ev = take (result_unwrap_or r 0) (first_chunks Event.size (length ev / Event.size) ev)

-- the predicates of a step
abbrev pub Step : Type 0 → Type 1
Step F = Once F (MutBor Change × Unit {0}) (Answer (Unit {0}) Refusal × (MutBor Change × Unit {0}))

module _ {F : Type 0} (g : Step F) (f : F) where
  abbrev pub Takes : List ℕ → List ℕ → Type 0
  Takes w ev = (a : Change) → Begins w ev a → FnOnceTakesAtMut g f a

  -- it went from one change to another: what is handed back holds what it left, on the places of the other
  pub record Went (w ev : MutBor (List ℕ)) (l : Ended) : Type 0 where
    pub from : Change
    pub to : Change
    pub gave : Answer (Unit {0}) Refusal
    pub begins : Begins w.now ev.now from
    pub ran : FnOnceReturnsAtMut g f from gave to
    pub state_from : from.state.words.ghost_name ≡ w.ghost_name
    pub state_to : l.words.ghost_name ≡ to.state.words.ghost_name
    pub left : l.words.now ≡ to.state.words.now
    pub events_from : from.events.ghost_name ≡ ev.ghost_name
    pub events_to : l.events.ghost_name ≡ to.events.ghost_name
    pub rows : l.events.now ≡ to.events.now
    pub answer : l.told ≡ telling to gave

  -- it went from one change to another; where that still is on the places of the first, they hold what it left
  pub record Ran (w w' ev ev' : List ℕ) (r : Answer ℕ Refusal) : Type 0 where
    pub from : Change
    pub to : Change
    pub gave : Answer (Unit {0}) Refusal
    pub begins : Begins w ev from
    pub ran : FnOnceReturnsAtMut g f from gave to
    pub left : from.state.words.ghost_name ≡ to.state.words.ghost_name → w' ≡ to.state.words.now
    pub rows : from.events.ghost_name ≡ to.events.ghost_name → ev' ≡ to.events.now
    pub answer : r ≡ telling to gave

  -- the same on the words of a state: what was lent are those of the lists, which become `lists`; what is behind them is settled, if the
  -- row counts are still true where no route was told and no table came
  pub record Counts (other : Bool) (w w' ev ev' : List ℕ) (r : Answer ℕ Refusal) : Type 0 where
    pub lists : List ℕ
    pub long : length lists ≡ base_size
    pub ran : Ran (base w) lists ev ev' r
    pub words : well_formed lists ≡ true → (any of_routes (told_rows r ev') ≡ false → ltb (table_count w) (table_count lists) ≡ false → row_counts (decode lists) ≡ drop row_counts_at w)
        → w' ≡ leaving ((told_some r && other) || ltb (table_count w) (table_count lists)) w lists
