-- What is claimed of the change count and of listings in parts (document 02, Paper 6), of runs on any words at all: calls, refused ones
-- included, and parts taken at any moment with any number of rows.
use Rattle.std.specs.Prelude.{ℕ, suc, ◌<◌, ◌≤◌, ◌≡◌, ◌≢◌, ◌↔◌, Bool, true, cond, not, ◌&&◌, List, [], ◌∷◌, eqb, ltb}
use mathlib.Core.Logic.{◌⊎◌}
use Rattle.lists.specs.Lists.{Row, all, any, each, eq_row}
use Rattle.definition.specs.Words.{base, state_of, largest_count, change_count}
use Rattle.definition.specs.Call.{Call, Reply}
use Rattle.definition.specs.Step.{step}
use Rattle.definition.specs.Reference.Source.{dump4}
use Rattle.definition_parts.specs.Parts.{dump4_begin_call, dump4_next_call}

-- ---- a run
-- "every other call is allowed in between": a call, or a part of the listing, lent so much room and asked for so many rows
pub data Act : Type 0 where
  call : Call → Act
  next : (room rows : ℕ) → Act

-- the state's words afterwards: a part leaves them
unfoldable pub words_after : List Act → List ℕ → List ℕ
words_after [] w = w
words_after (Act.call c ∷ acts) w = words_after acts (step c w).words
words_after (Act.next room rows ∷ acts) w = words_after acts w

-- the cursor afterwards: each part is lent the one that the part before returned, the first one k
unfoldable pub cursor_after : List Act → List ℕ → List ℕ → List ℕ
cursor_after [] w k = k
cursor_after (Act.call c ∷ acts) w k = cursor_after acts (step c w).words k
cursor_after (Act.next room rows ∷ acts) w k = cursor_after acts w (dump4_next_call room k rows w).cursor

-- what these parts reply
unfoldable pub continued : List Act → List ℕ → List ℕ → List Reply
continued [] w k = []
continued (Act.call c ∷ acts) w k = continued acts (step c w).words k
continued (Act.next room rows ∷ acts) w k =
    let p = dump4_next_call room k rows w in
    p.reply ∷ continued acts w p.cursor

-- a listing: begun on the words w, with whatever stands in the cursor, and continued while the acts happen
unfoldable pub listing : ℕ → List ℕ → ℕ → List Act → List ℕ → List Reply
listing room cursor rows acts w =
    let p = dump4_begin_call room cursor rows w in
    p.reply ∷ continued acts w p.cursor

-- ---- the count
-- "It goes up by one for each call, refused or not, that changes an address, a row or a table, and stops at its largest value"
abbrev pub CountRises : Type 0
CountRises =
    (c : Call) (w : List ℕ) →
    change_count (step c w).words
    ≡ cond (not (eq_row (base w) (base (step c w).words)) && ltb (change_count w) largest_count) (suc (change_count w)) (change_count w)

-- The count tells: where it is the start's and not the largest, the addresses, routes and tables are the start's. (Two words of 32 bits
-- hold no more than the largest: not the largest is below it; Counting, `count-most`.)
abbrev pub CountTells : Type 0
CountTells =
    (acts : List Act) (w : List ℕ) →
    change_count (words_after acts w) ≡ change_count w →
    change_count w < largest_count →
    base (words_after acts w) ≡ base w

-- ---- the mark
-- "A part carries netlink's mark for an interrupted dump, 0x10, exactly if the count is not the start's or is at its largest": of a part
-- that isn't refused; else it is 0
pub record Marked (r : Reply) (count start : ℕ) : Type 0 where
  pub mark : r.number ≡ 0 → (r.present ≡ 0x10) ↔ ((count ≢ start) ⊎ (count ≡ largest_count))
  pub none : r.number ≡ 0 → (r.present ≡ 0) ↔ ((count ≡ start) × (count ≢ largest_count))

-- Of the part that begins a listing on the words w, and of each part that continues it after whatever happened.
abbrev pub PartsMarked : Type 0
PartsMarked =
    (room : ℕ) (cursor : List ℕ) (rows : ℕ) (w : List ℕ) →
    (dump4_begin_call room cursor rows w).reply.number ≡ 0 →
    Marked (dump4_begin_call room cursor rows w).reply (change_count w) (change_count w)
    × ((acts : List Act) (room' rows' : ℕ) →
    Marked (dump4_next_call room' (cursor_after acts w (dump4_begin_call room cursor rows w).cursor) rows' (words_after acts w)).reply
    (change_count (words_after acts w)) (change_count w))

-- ---- the listing
-- the parts' rows, one part after the other
abbrev pub together : List Reply → List Row
together parts = each (λ r. r.rows) parts

-- a part reaches the end
abbrev pub complete : List Reply → Bool
complete parts = any (λ r. eqb r.second 1) parts

-- no part has the mark
abbrev pub unmarked : List Reply → Bool
unmarked parts = all (λ r. eqb r.present 0) parts

-- no call of the run changes an address, a row or a table
abbrev pub Unchanged : List Act → List ℕ → Type 0
Unchanged [] w = Unit {0}
Unchanged (Act.call c ∷ acts) w = (base (step c w).words ≡ base w) × Unchanged acts (step c w).words
Unchanged (Act.next room rows ∷ acts) w = Unchanged acts w

-- "A listing that saw no change gives what `dump4` gave at its start": one that wasn't refused as it began and was continued, by parts of
-- any sizes at any moments, until one reached the end (or further), be the count at its largest or not
abbrev pub SawNoChange : Type 0
SawNoChange =
    (room : ℕ) (cursor : List ℕ) (rows : ℕ) (acts : List Act) (w : List ℕ) →
    (dump4_begin_call room cursor rows w).reply.number ≡ 0 →
    Unchanged acts w →
    complete (listing room cursor rows acts w) ≡ true →
    together (listing room cursor rows acts w) ≡ dump4 (state_of w)

-- The count says that there was none, where after all that happened it is the start's and not the largest; then no part has the mark.
pub record Whole (parts : List Reply) (w : List ℕ) : Type 0 where
  pub rows : together parts ≡ dump4 (state_of w)
  pub clean : unmarked parts ≡ true

abbrev pub InParts : Type 0
InParts =
    (room : ℕ) (cursor : List ℕ) (rows : ℕ) (acts : List Act) (w : List ℕ) →
    (dump4_begin_call room cursor rows w).reply.number ≡ 0 →
    change_count (words_after acts w) ≡ change_count w →
    change_count w < largest_count →
    complete (listing room cursor rows acts w) ≡ true →
    Whole (listing room cursor rows acts w) w

-- And so a host may go by the marks alone: parts of any sizes, taken at any moments of a run in which no part has the mark, until one
-- reaches the end, are together the listing of the start, whatever else happened meanwhile.
abbrev pub MarkTells : Type 0
MarkTells =
    (room : ℕ) (cursor : List ℕ) (rows : ℕ) (acts : List Act) (w : List ℕ) →
    (dump4_begin_call room cursor rows w).reply.number ≡ 0 →
    change_count w ≤ largest_count →
    complete (listing room cursor rows acts w) ≡ true →
    unmarked (listing room cursor rows acts w) ≡ true →
    together (listing room cursor rows acts w) ≡ dump4 (state_of w)
