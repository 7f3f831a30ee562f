-- Paper 6 in literals: what counts as a change, the count's words, and parts of a listing. Each side of an example is computed.
use Rattle.std.specs.Prelude.{ℕ, ◌≡◌, refl, List, [], ◌∷◌, ◌++◌, map, take, drop}
use Rattle.lists.specs.Lists.{Row, zeros}
use Rattle.definition.specs.Call.{Call, Reply}
use Rattle.definition.specs.Step.{step, event_room}
use Rattle.definition.specs.Computing.{computing}
use Rattle.definition.specs.Examples.{ip, up, ask_v4, del_v4, reply}
use Rattle.definition_parts.specs.Parts.{PartResult, part, part_from, dump4_begin_call, dump4_next_call}
use Rattle.definition_parts.specs.Statement.{Act, continued, listing}

-- ---- the count
-- calls on a state without an address, a row or a table, with a count's low and high word; each call's number and value, the three counts
-- and the change count's words afterwards
pub record Counting : Type 0 where
  pub low : ℕ
  pub high : ℕ
  pub calls : List Call
  pub numbers : List ℕ
  pub values : List ℕ
  pub lists : List ℕ
  pub count : List ℕ

-- what either side has of it
pub record Counts : Type 0 where
  pub numbers : List ℕ
  pub values : List ℕ
  pub lists : List ℕ
  pub count : List ℕ

abbrev start : ℕ → ℕ → List ℕ
start low high = zeros 9507 ++ (low ∷ high ∷ zeros 32)

abbrev runs : List Call → List ℕ → List ℕ → List ℕ → Counts
runs [] w ns vs = record { numbers = ns; values = vs; lists = take 3 w; count = take 2 (drop 9507 w) }
runs (c ∷ cs) w ns vs =
    let r = step c w in
    runs cs r.words (ns ++ (r.reply.number ∷ [])) (vs ++ (r.reply.value ∷ []))

abbrev given : Counting → Counts
given e = runs e.calls (start e.low e.high) [] []

abbrev said : Counting → Counts
said e = record { numbers = e.numbers; values = e.values; lists = e.lists; count = e.count }

-- a route of a table, of a length over 32 or not
abbrev route : ℕ → ℕ → ℕ → Call
route t dst len =
    Call.add_route4 (t ∷ dst ∷ len ∷ 0 ∷ 0 ∷ 6 ∷ 4 ∷ 0 ∷ 0 ∷ 0 ∷ 0 ∷ 0 ∷ 0 ∷ 0 ∷ 0x400 ∷ 0 ∷ (zeros 17 ++ (1 ∷ []))) event_room

unfoldable pub countings : List Counting
countings =
    -- one more for an `up` that brings an address, routes and tables; an idle `up` doesn't count
    record { low = 0; high = 0; calls = up ∷ up ∷ []; numbers = 0 ∷ 0 ∷ []; values = 4 ∷ 0 ∷ []; lists = 1 ∷ 3 ∷ 2 ∷ []; count = 1 ∷ 0 ∷ [] }
    -- a refused add_route4 (length 33) that lists its table does; one that lists none doesn't
    ∷ record {
      low = 0;
      high = 0;
      calls = route 7 0 33 ∷ route 7 0 33 ∷ [];
      numbers = 22 ∷ 22 ∷ [];
      values = 0 ∷ 0 ∷ [];
      lists = 0 ∷ 0 ∷ 1 ∷ [];
      count = 1 ∷ 0 ∷ [];
    }
    -- an address replaced by an equal one tells an event and doesn't count; with other lifetimes it does
    ∷ record {
      low = 0;
      high = 0;
      calls = ask_v4 (ip 10 1 0 5) 24 9 9 0 ∷ ask_v4 (ip 10 1 0 5) 24 9 9 1 ∷ ask_v4 (ip 10 1 0 5) 24 9 8 1 ∷ [];
      numbers = 0 ∷ 0 ∷ 0 ∷ [];
      values = 4 ∷ 1 ∷ 1 ∷ [];
      lists = 1 ∷ 3 ∷ 2 ∷ [];
      count = 2 ∷ 0 ∷ [];
    }
    -- `down` tells an event each time and takes routes the first time only; an address that isn't there is 99
    ∷ record {
      low = 0;
      high = 0;
      calls = up ∷ Call.down event_room ∷ Call.down event_room ∷ del_v4 (ip 10 1 0 9) ∷ [];
      numbers = 0 ∷ 0 ∷ 0 ∷ 99 ∷ [];
      values = 4 ∷ 1 ∷ 1 ∷ 0 ∷ [];
      lists = 1 ∷ 2 ∷ 2 ∷ [];
      count = 2 ∷ 0 ∷ [];
    }
    -- an `expire` before anything is due doesn't count; one that marks an address does, and one that takes it
    ∷ record {
      low = 0;
      high = 0;
      calls = ask_v4 (ip 10 1 0 5) 24 9 8 0 ∷ Call.expire event_room 0 20000000 ∷ Call.expire event_room 8000000000 20000000 ∷ Call.expire event_room 9000000000 20000000 ∷ [];
      numbers = 0 ∷ 0 ∷ 0 ∷ 0 ∷ [];
      values = 4 ∷ 0 ∷ 1 ∷ 5 ∷ [];
      lists = 0 ∷ 0 ∷ 2 ∷ [];
      count = 3 ∷ 0 ∷ [];
    }
    -- into the high word; and no further than the largest
    ∷ record { low = 4294967295; high = 6; calls = up ∷ []; numbers = 0 ∷ []; values = 4 ∷ []; lists = 1 ∷ 3 ∷ 2 ∷ []; count = 0 ∷ 7 ∷ [] }
    ∷ record {
      low = 4294967294;
      high = 4294967295;
      calls = up ∷ route 7 0 33 ∷ [];
      numbers = 0 ∷ 22 ∷ [];
      values = 4 ∷ 0 ∷ [];
      lists = 1 ∷ 3 ∷ 3 ∷ [];
      count = 4294967295 ∷ 4294967295 ∷ [];
    }
    ∷ []

pub counts-as-said : map given countings ≡ map said countings
unfolding countings computing
counts-as-said = refl

-- ---- parts
-- three routes of table 255, as dump4 lists them
abbrev network : Row
network = 255 ∷ ip 127 0 0 0 ∷ 8 ∷ 0 ∷ 0 ∷ 2 ∷ 2 ∷ 254 ∷ 1 ∷ ip 127 0 0 1 ∷ 0 ∷ 0 ∷ 1 ∷ 0 ∷ 0 ∷ zeros 17

abbrev host : Row
host = 255 ∷ ip 127 0 0 1 ∷ 32 ∷ 0 ∷ 0 ∷ 2 ∷ 2 ∷ 254 ∷ 1 ∷ ip 127 0 0 1 ∷ 0 ∷ 0 ∷ 1 ∷ 0 ∷ 0 ∷ zeros 17

abbrev broadcast : Row
broadcast = 255 ∷ ip 127 255 255 255 ∷ 32 ∷ 0 ∷ 0 ∷ 3 ∷ 2 ∷ 253 ∷ 1 ∷ ip 127 0 0 1 ∷ 0 ∷ 0 ∷ 1 ∷ 0 ∷ 0 ∷ zeros 17

-- the words after `up`, with a change count of 1 and three rows of the second table
abbrev up_words : List ℕ
up_words =
    1 ∷ 3 ∷ 2 ∷ ip 127 0 0 1 ∷ ip 127 0 0 1 ∷ 8 ∷ 0 ∷ 0 ∷ 254 ∷ 128 ∷ 0 ∷ 2 ∷ 28524
    ∷ (zeros 1270 ++ (network ++ (host ++ (broadcast ++ (zeros 8096 ++ (254 ∷ 255 ∷ (zeros 30 ++ (1 ∷ 0 ∷ 0 ∷ 3 ∷ zeros 30))))))))

pub up-leaves : (step up (start 0 0)).words ≡ up_words
unfolding computing
up-leaves = refl

abbrev gives : Reply → List ℕ → PartResult
gives r k = record { reply = r; cursor = k }

-- a listing of two parts: whatever stands in the cursor, it begins; each part says how many rows, the mark, whether it reaches the end
pub first-part : dump4_begin_call 64 (7 ∷ 8 ∷ 9 ∷ []) 2 up_words ≡ gives (reply 0 0 2 0 (network ∷ host ∷ [])) (2 ∷ 1 ∷ 0 ∷ [])
unfolding dump4_begin_call part_from part computing
first-part = refl

pub second-part : dump4_next_call 8192 (2 ∷ 1 ∷ 0 ∷ []) 256 up_words ≡ gives (reply 0 0 1 1 (broadcast ∷ [])) (3 ∷ 1 ∷ 0 ∷ [])
unfolding dump4_next_call part_from part computing
second-part = refl

-- the same as a run, with an idle `up` and a refused part in between
pub two-parts : listing 64 (7 ∷ 8 ∷ 9 ∷ []) 2 (Act.call up ∷ Act.next 8192 257 ∷ Act.next 32 1 ∷ []) up_words
    ≡ reply 0 0 2 0 (network ∷ host ∷ []) ∷ reply 202 0 0 0 [] ∷ reply 0 0 1 1 (broadcast ∷ []) ∷ []
unfolding listing continued dump4_begin_call dump4_next_call part_from part computing
two-parts = refl

-- a change in between: the part goes on by place in what is listed now, and has the mark
pub changed-between : listing 32 (0 ∷ 0 ∷ 0 ∷ []) 1 (Act.call (Call.down event_room) ∷ Act.next 32 1 ∷ []) up_words
    ≡ reply 0 0 1 0 (network ∷ []) ∷ reply 0 16 1 1 (host ∷ []) ∷ []
unfolding listing continued dump4_begin_call dump4_next_call part_from part computing
changed-between = refl

-- the end: all rows at once, and nothing to list; a place at the end and one past it give no row and finish it
unfoldable pub ends : List PartResult
ends =
    dump4_begin_call 96 (0 ∷ 0 ∷ 0 ∷ []) 3 up_words
    ∷ dump4_begin_call 32 (0 ∷ 0 ∷ 0 ∷ []) 1 (start 0 0)
    ∷ dump4_next_call 32 (3 ∷ 1 ∷ 0 ∷ []) 1 up_words
    ∷ dump4_next_call 8192 (4294967295 ∷ 1 ∷ 0 ∷ []) 256 up_words
    ∷ []

pub ends-as-said : ends
    ≡ gives (reply 0 0 3 1 (network ∷ host ∷ broadcast ∷ [])) (3 ∷ 1 ∷ 0 ∷ [])
    ∷ gives (reply 0 0 0 1 []) (0 ∷ 0 ∷ 0 ∷ [])
    ∷ gives (reply 0 0 0 1 []) (3 ∷ 1 ∷ 0 ∷ [])
    ∷ gives (reply 0 0 0 1 []) (4294967295 ∷ 1 ∷ 0 ∷ [])
    ∷ []
unfolding ends dump4_begin_call dump4_next_call part_from part computing
ends-as-said = refl

-- the mark: a count that isn't the start's, by either word; the largest count, from the first part on
unfoldable pub marks : List PartResult
marks =
    dump4_next_call 32 (2 ∷ 0 ∷ 0 ∷ []) 1 up_words
    ∷ dump4_next_call 32 (2 ∷ 1 ∷ 1 ∷ []) 1 up_words
    ∷ dump4_begin_call 32 (0 ∷ 0 ∷ 0 ∷ []) 1 (start 4294967295 4294967295)
    ∷ dump4_next_call 32 (0 ∷ 4294967295 ∷ 4294967295 ∷ []) 1 (start 4294967295 4294967295)
    ∷ []

pub marks-as-said : marks
    ≡ gives (reply 0 16 1 1 (broadcast ∷ [])) (3 ∷ 0 ∷ 0 ∷ [])
    ∷ gives (reply 0 16 1 1 (broadcast ∷ [])) (3 ∷ 1 ∷ 1 ∷ [])
    ∷ gives (reply 0 16 0 1 []) (0 ∷ 4294967295 ∷ 4294967295 ∷ [])
    ∷ gives (reply 0 16 0 1 []) (0 ∷ 4294967295 ∷ 4294967295 ∷ [])
    ∷ []
unfolding marks dump4_begin_call dump4_next_call part_from part computing
marks-as-said = refl

-- refusals, which leave the cursor
unfoldable pub refusals : List PartResult
refusals =
    -- 200: a cursor of other than three words, a state of other words, a buffer without room for the rows asked for (257: for 256)
    dump4_begin_call 32 (0 ∷ 0 ∷ []) 1 (start 0 0)
    ∷ dump4_next_call 32 (0 ∷ 0 ∷ 0 ∷ 0 ∷ []) 1 (start 0 0)
    ∷ dump4_next_call 32 (0 ∷ 0 ∷ 0 ∷ []) 1 (zeros 9507)
    ∷ dump4_begin_call 31 (0 ∷ 0 ∷ 0 ∷ []) 1 (start 0 0)
    ∷ dump4_begin_call 8160 (0 ∷ 0 ∷ 0 ∷ []) 257 (start 0 0)
    -- 201, before 202: a count of addresses over 64
    ∷ dump4_begin_call 0 (5 ∷ 5 ∷ 5 ∷ []) 0 (65 ∷ zeros 9540)
    -- 202: no row asked for, or over 256
    ∷ dump4_begin_call 0 (5 ∷ 5 ∷ 5 ∷ []) 0 (start 0 0)
    ∷ dump4_next_call 8192 (5 ∷ 5 ∷ 5 ∷ []) 257 (start 0 0)
    ∷ []

pub refusals-as-said : refusals
    ≡ gives (reply 200 0 0 0 []) (0 ∷ 0 ∷ [])
    ∷ gives (reply 200 0 0 0 []) (0 ∷ 0 ∷ 0 ∷ 0 ∷ [])
    ∷ gives (reply 200 0 0 0 []) (0 ∷ 0 ∷ 0 ∷ [])
    ∷ gives (reply 200 0 0 0 []) (0 ∷ 0 ∷ 0 ∷ [])
    ∷ gives (reply 200 0 0 0 []) (0 ∷ 0 ∷ 0 ∷ [])
    ∷ gives (reply 201 0 0 0 []) (5 ∷ 5 ∷ 5 ∷ [])
    ∷ gives (reply 202 0 0 0 []) (5 ∷ 5 ∷ 5 ∷ [])
    ∷ gives (reply 202 0 0 0 []) (5 ∷ 5 ∷ 5 ∷ [])
    ∷ []
unfolding refusals dump4_begin_call dump4_next_call part_from part computing
refusals-as-said = refl
