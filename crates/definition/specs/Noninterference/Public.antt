-- A run of the code, as its caller sees it, and the claim of two runs about it. The contract of each public call says what Made says:
-- its numbers, the words that it leaves and what it writes to the buffer that it is lent are those of `step` (Step, `…Call`).
use Rattle.std.specs.Prelude.{ℕ, ◌≡◌, Bool, true, cond, not, List, [], ◌∷◌, eqb, length}
use Rattle.lists.specs.Lists.{Row, all, flat, put, chop}
use Rattle.definition.specs.Words.{state_of}
use Rattle.definition.specs.Call.{Call, Reply, Numbers, numbers, replied}
use Rattle.definition.specs.Step.{Buffer, unlent, for_events, for_listing, for_row, semantics, step}
use Rattle.definition.specs.Noninterference.Statement.{Choice, struck, Agree, empty_words, compared, view}

-- ---- one call
-- a buffer as long as the call says; where it takes none, any words
abbrev pub Lent : Buffer → List ℕ → Type 0
Lent unlent b = Unit {0}
Lent (for_events room) b = length b ≡ room
Lent (for_listing room) b = length b ≡ room
Lent (for_row room) b = length b ≡ room

-- the words that it has room for
abbrev pub room_of : Buffer → ℕ
room_of unlent = 0
room_of (for_events room) = room
room_of (for_listing room) = room
room_of (for_row room) = room

-- the call c, on a state of the words w, lent a buffer of the words b, gave the numbers n, and left the words w' and the buffer b'
pub record Made (c : Call) (w b : List ℕ) (n : Numbers) (w' b' : List ℕ) : Type 0 where
  pub lent : Lent (semantics c).lent b
  pub reply : n ≡ numbers (step c w).reply
  pub words : w' ≡ (step c w).words
  pub buffer : b' ≡ put 0 (flat (step c w).reply.rows) b

-- ---- a run
-- all that is seen of a call: its numbers, and its buffer's words afterwards
pub record Seen : Type 0 where
  pub numbers : Numbers
  pub buffer : List ℕ

-- calls one after the other, each on the words that the last one left and lent a buffer with whatever words in it
pub data Ran : List Call → List ℕ → List Seen → List ℕ → Type 0 where
  none : (w : List ℕ) → Ran [] w [] w
  next : (c : Call) (cs : List Call) (w b : List ℕ) (s : Seen) (w' : List ℕ) (ss : List Seen) (w'' : List ℕ) → Made c w b s.numbers w' s.buffer → Ran cs w' ss w'' → Ran (c ∷ cs) w (s ∷ ss) w''

-- ---- what is read from a buffer
-- the words of a row, and how many rows: the value says it, and a lookup that isn't refused has one
abbrev pub width : Buffer → ℕ
width unlent = 0
width (for_events room) = 34
width (for_listing room) = 32
width (for_row room) = 32

abbrev pub many : Buffer → Numbers → ℕ
many unlent n = 0
many (for_events room) n = n.value
many (for_listing room) n = n.value
many (for_row room) n = cond (eqb n.number 0) 1 0

abbrev pub rows_read : Buffer → Seen → List Row
rows_read k s = chop (width k) (many k s.numbers) s.buffer

-- the numbers, and the rows so read
abbrev pub read_back : Call → Seen → Reply
read_back c s = replied s.numbers (rows_read (semantics c).lent s)

-- ---- two runs
-- what is compared (Statement), of each call that isn't struck, in order
unfoldable pub answers : (ℕ → Bool) → List Call → List Seen → List Reply
answers chosen [] ss = []
answers chosen (c ∷ cs) [] = []
answers chosen (c ∷ cs) (s ∷ ss) =
    let rest = answers chosen cs ss in
    cond (struck chosen c) rest (compared chosen c (read_back c s) ∷ rest)

-- no call gave 203
abbrev pub spared : List Seen → Bool
spared ss = all (λ s. not (eqb s.numbers.number 203)) ss

-- The claim, of two whole runs of the code.
pub record Equal (chosen : ℕ → Bool) (cs ds : List Call) (ss ts : List Seen) (w v : List ℕ) : Type 0 where
  pub same_answers : answers chosen cs ss ≡ answers chosen ds ts
  pub afterwards : view chosen (state_of w) ≡ view chosen (state_of v)

abbrev pub CodeRuns : Type 0
CodeRuns =
    (chosen : ℕ → Bool) →
    Choice chosen →
    (cs ds : List Call) (ss ts : List Seen) (w v : List ℕ) →
    Agree chosen cs ds →
    Ran cs empty_words ss w →
    Ran ds empty_words ts v →
    spared ss ≡ true →
    spared ts ≡ true →
    Equal chosen cs ds ss ts w v
