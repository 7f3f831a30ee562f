-- Document 01's marked examples, "Legs flown by hand": each a row of one table, and one theorem for the table. A run starts from
-- words that are all zero and gives every call the words that the one before it left. What is expected is literal: each reply whole,
-- with every word of every row written, and of the words left the three counts and the 32 table numbers.
use Rattle.std.specs.Prelude.{ℕ, zero, suc, ◌+◌, ◌*◌, ◌≡◌, refl, Bool, false, List, [], ◌∷◌, ◌++◌, map, take, drop}
use Rattle.lists.specs.Lists.{Row, any, zeros}
use Rattle.prefix.specs.Mask.{mask}
use Rattle.definition.specs.Call.{Call, Reply}
use Rattle.definition.specs.Reference.Lookup.{fits}
use Rattle.definition.specs.Words.{state_size, tables_at}
use Rattle.definition.specs.Step.{step, event_room}
use Rattle.definition.specs.Computing.{computing}

-- ---- what is asked
abbrev pub ip : ℕ → ℕ → ℕ → ℕ → ℕ
ip a b c d = ((a * 256 + b) * 256 + c) * 256 + d

abbrev pub up : Call
up = Call.up event_room 0

abbrev pub down : Call
down = Call.down event_room

-- an address equal to local, no broadcast, the label lo, the device up: local, prefix, valid, preferred, whether it replaces
abbrev pub ask_v4 : ℕ → ℕ → ℕ → ℕ → ℕ → Call
ask_v4 local prefix valid preferred replace =
    Call.add_v4 (local ∷ local ∷ prefix ∷ 0 ∷ 0 ∷ 0 ∷ 0 ∷ 0 ∷ 2 ∷ 28524 ∷ 0 ∷ 0 ∷ 0 ∷ 0 ∷ valid ∷ preferred ∷ replace ∷ 1 ∷ []) event_room 0

-- one that lasts as long as it is preferred, not replacing
abbrev pub add_v4 : ℕ → ℕ → ℕ → Call
add_v4 local prefix life = ask_v4 local prefix life life 0

-- by the local address alone
abbrev pub del_v4 : ℕ → Call
del_v4 local = Call.del_v4 (1 ∷ local ∷ zeros 9) event_room

-- a route of table 254, proto 4 and scope 0, neither source nor gateway nor metrics, NLM_F_CREATE, the device up
abbrev pub add_route4 : ℕ → ℕ → ℕ → ℕ → ℕ → Call
add_route4 dst len tos kind oif =
    Call.add_route4 (254 ∷ dst ∷ len ∷ tos ∷ 0 ∷ kind ∷ 4 ∷ 0 ∷ 0 ∷ 0 ∷ 0 ∷ 0 ∷ oif ∷ 0 ∷ 0x400 ∷ 0 ∷ (zeros 17 ++ (1 ∷ []))) event_room

-- a blackhole of table 254 with a preferred source: what is asked for, and the row
abbrev pub add_blackhole : ℕ → ℕ → Call
add_blackhole dst source =
    Call.add_route4 (254 ∷ dst ∷ 32 ∷ 0 ∷ 0 ∷ 6 ∷ 4 ∷ 0 ∷ 1 ∷ source ∷ 0 ∷ 0 ∷ 0 ∷ 0 ∷ 0x400 ∷ 0 ∷ (zeros 17 ++ (1 ∷ []))) event_room

abbrev pub blackhole : ℕ → ℕ → Row
blackhole dst source = 254 ∷ dst ∷ 32 ∷ 0 ∷ 0 ∷ 6 ∷ 4 ∷ 0 ∷ 1 ∷ source ∷ 0 ∷ 0 ∷ 0 ∷ 0 ∷ 0 ∷ zeros 17

-- ---- a row of the table
pub data Example : Type 0 where
  -- the mask of a prefix
  masks : (prefix value : ℕ) → Example
  -- the calls of a run, what they reply, the counts and the table numbers afterwards
  run : (calls : List Call) (replies : List Reply) (counts tables : List ℕ) → Example
  -- a route row that fits a flow to an address for no tos
  never : (row : Row) (ip : ℕ) → Example

-- what either side of the theorem has of it
pub data Side : Type 0 where
  equals : ℕ → Side
  answers : List Reply → (counts tables : List ℕ) → Side
  passes : Bool → Side

-- what a run replies and leaves
abbrev pub runs : List Call → List ℕ → List Reply → Side
runs [] w done = answers done (take 3 w) (take 32 (drop tables_at w))
runs (c ∷ cs) w done =
    let r = step c w in
    runs cs r.words (done ++ (r.reply ∷ []))

-- the numbers below n
abbrev under : ℕ → List ℕ
under zero = []
under (suc n) = n ∷ under n

-- what the definitions give
abbrev pub given : Example → Side
given (masks p v) = equals (mask p)
given (run cs rs ns ts) = runs cs (zeros state_size) []
given (never r a) = passes (any (λ t. fits (record { ip = a; tos = t; scope = 0; oif = 0 }) r) (under 256))

-- what document 01 says
abbrev pub said : Example → Side
said (masks p v) = equals v
said (run cs rs ns ts) = answers rs ns ts
said (never r a) = passes false

-- ---- what is said
-- a reply: number, present, value, second, rows
abbrev pub reply : ℕ → ℕ → ℕ → ℕ → List Row → Reply
reply number present value second rows =
    record { number = number; present = present; value = value; second = second; rows = rows }

-- An address's event: kind (1 new, 2 deleted) and 0; local, address, prefix; broadcast present, broadcast, scope, flags (128
-- permanent, 1 secondary), proto; label length and label; priority, valid, preferred; created, changed; zeros.
-- A route's event: kind (3 new, 4 deleted), flags; table, dst, len, tos, priority, kind, proto, scope; prefsrc present, prefsrc,
-- gateway present, gateway; device, onlink, uses_gateway; metrics. A lookup's row lacks the first two.
abbrev pub up_said : Reply
up_said =
    reply 0 0 4 0
    ((1 ∷ 0 ∷ ip 127 0 0 1 ∷ ip 127 0 0 1 ∷ 8 ∷ 0 ∷ 0 ∷ 254 ∷ 128 ∷ 0 ∷ 2 ∷ 28524 ∷ 0 ∷ 0 ∷ 0 ∷ 0 ∷ 0 ∷ 0 ∷ 0 ∷ 0 ∷ 0 ∷ 0 ∷ zeros 12)
    ∷ (3 ∷ 0x600 ∷ 255 ∷ ip 127 0 0 1 ∷ 32 ∷ 0 ∷ 0 ∷ 2 ∷ 2 ∷ 254 ∷ 1 ∷ ip 127 0 0 1 ∷ 0 ∷ 0 ∷ 1 ∷ 0 ∷ 0 ∷ zeros 17)
    ∷ (3 ∷ 0x600 ∷ 255 ∷ ip 127 0 0 0 ∷ 8 ∷ 0 ∷ 0 ∷ 2 ∷ 2 ∷ 254 ∷ 1 ∷ ip 127 0 0 1 ∷ 0 ∷ 0 ∷ 1 ∷ 0 ∷ 0 ∷ zeros 17)
    ∷ (3 ∷ 0x600 ∷ 255 ∷ ip 127 255 255 255 ∷ 32 ∷ 0 ∷ 0 ∷ 3 ∷ 2 ∷ 253 ∷ 1 ∷ ip 127 0 0 1 ∷ 0 ∷ 0 ∷ 1 ∷ 0 ∷ 0 ∷ zeros 17)
    ∷ [])

-- 10.1.0.5/24 comes, with its flags, valid and preferred
abbrev pub five_said : ℕ → ℕ → Reply
five_said flags life =
    reply 0 0 4 0
    ((1 ∷ 0 ∷ ip 10 1 0 5 ∷ ip 10 1 0 5 ∷ 24 ∷ 0 ∷ 0 ∷ 0 ∷ flags ∷ 0 ∷ 2 ∷ 28524 ∷ 0 ∷ 0 ∷ 0 ∷ 0 ∷ life ∷ life ∷ 0 ∷ 0 ∷ 0 ∷ 0 ∷ zeros 12)
    ∷ (3 ∷ 0x600 ∷ 255 ∷ ip 10 1 0 5 ∷ 32 ∷ 0 ∷ 0 ∷ 2 ∷ 2 ∷ 254 ∷ 1 ∷ ip 10 1 0 5 ∷ 0 ∷ 0 ∷ 1 ∷ 0 ∷ 0 ∷ zeros 17)
    ∷ (3 ∷ 0x600 ∷ 255 ∷ ip 10 1 0 0 ∷ 24 ∷ 0 ∷ 0 ∷ 2 ∷ 2 ∷ 254 ∷ 1 ∷ ip 10 1 0 5 ∷ 0 ∷ 0 ∷ 1 ∷ 0 ∷ 0 ∷ zeros 17)
    ∷ (3 ∷ 0x600 ∷ 255 ∷ ip 10 1 0 255 ∷ 32 ∷ 0 ∷ 0 ∷ 3 ∷ 2 ∷ 253 ∷ 1 ∷ ip 10 1 0 5 ∷ 0 ∷ 0 ∷ 1 ∷ 0 ∷ 0 ∷ zeros 17)
    ∷ [])

unfoldable pub examples : List Example
examples =
    -- Masks: prefix 0 gives 0; 1 gives 2,147,483,648; 32 gives 4,294,967,295.
    masks 0 0
    ∷ masks 1 2147483648
    ∷ masks 32 4294967295
    -- up on empty: four events, NewAddr4 then routes 127.0.0.1/32 kind 2, 127.0.0.0/8 kind 2, 127.255.255.255/32 kind 3, flags
    -- 0x600; tables 254, 255. up again: no event.
    ∷ run (up ∷ up ∷ []) (up_said ∷ reply 0 0 0 0 [] ∷ []) (1 ∷ 3 ∷ 2 ∷ []) (254 ∷ 255 ∷ zeros 30)
    -- Then 127.5.6.7: the /8 row, source 127.0.0.1. 10.0.0.1: 101, and source says 127.0.0.1.
    ∷ run
    (up
    ∷ Call.lookup4 32 (ip 127 5 6 7)
    ∷ Call.source (ip 127 5 6 7)
    ∷ Call.lookup4 32 (ip 10 0 0 1)
    ∷ Call.source (ip 10 0 0 1)
    ∷ [])
    (up_said
    ∷ reply 0 0 0 0
    ((255 ∷ ip 127 0 0 0 ∷ 8 ∷ 0 ∷ 0 ∷ 2 ∷ 2 ∷ 254 ∷ 1 ∷ ip 127 0 0 1 ∷ 0 ∷ 0 ∷ 1 ∷ 0 ∷ 0 ∷ zeros 17) ∷ [])
    ∷ reply 0 0 (ip 127 0 0 1) 0 []
    ∷ reply 101 0 0 0 []
    ∷ reply 0 0 (ip 127 0 0 1) 0 []
    ∷ [])
    (1 ∷ 3 ∷ 2 ∷ []) (254 ∷ 255 ∷ zeros 30)
    -- Add 10.1.0.5/24, then 10.1.0.6/24, each with address equal to local, no broadcast, device up: four events, then two; the
    -- second is secondary, its route's prefsrc 10.1.0.5.
    -- Delete 10.1.0.5: DelAddr .6, DelRoute .6/32, DelAddr .5, DelRoute 10.1.0.0/24, 10.1.0.255/32, .5/32. (Since document 02, Paper 9,
    -- event 6 stands behind them: it was the last address. So it does below.)
    ∷ run (add_v4 (ip 10 1 0 5) 24 4294967295 ∷ add_v4 (ip 10 1 0 6) 24 4294967295 ∷ del_v4 (ip 10 1 0 5) ∷ [])
    (five_said 128 0
    ∷ reply 0 0 2 0
    ((1 ∷ 0 ∷ ip 10 1 0 6 ∷ ip 10 1 0 6 ∷ 24 ∷ 0 ∷ 0 ∷ 0 ∷ 129 ∷ 0 ∷ 2 ∷ 28524 ∷ 0 ∷ 0 ∷ 0 ∷ 0 ∷ 0 ∷ 0 ∷ 0 ∷ 0 ∷ 0 ∷ 0 ∷ zeros 12)
    ∷ (3 ∷ 0x600 ∷ 255 ∷ ip 10 1 0 6 ∷ 32 ∷ 0 ∷ 0 ∷ 2 ∷ 2 ∷ 254 ∷ 1 ∷ ip 10 1 0 5 ∷ 0 ∷ 0 ∷ 1 ∷ 0 ∷ 0 ∷ zeros 17)
    ∷ [])
    ∷ reply 0 0 7 0
    ((2 ∷ 0 ∷ ip 10 1 0 6 ∷ ip 10 1 0 6 ∷ 24 ∷ 0 ∷ 0 ∷ 0 ∷ 129 ∷ 0 ∷ 2 ∷ 28524 ∷ 0 ∷ 0 ∷ 0 ∷ 0 ∷ 0 ∷ 0 ∷ 0 ∷ 0 ∷ 0 ∷ 0 ∷ zeros 12)
    ∷ (4 ∷ 0 ∷ 255 ∷ ip 10 1 0 6 ∷ 32 ∷ 0 ∷ 0 ∷ 2 ∷ 2 ∷ 254 ∷ 1 ∷ ip 10 1 0 5 ∷ 0 ∷ 0 ∷ 1 ∷ 0 ∷ 0 ∷ zeros 17)
    ∷ (2 ∷ 0 ∷ ip 10 1 0 5 ∷ ip 10 1 0 5 ∷ 24 ∷ 0 ∷ 0 ∷ 0 ∷ 128 ∷ 0 ∷ 2 ∷ 28524 ∷ 0 ∷ 0 ∷ 0 ∷ 0 ∷ 0 ∷ 0 ∷ 0 ∷ 0 ∷ 0 ∷ 0 ∷ zeros 12)
    ∷ (4 ∷ 0 ∷ 255 ∷ ip 10 1 0 0 ∷ 24 ∷ 0 ∷ 0 ∷ 2 ∷ 2 ∷ 254 ∷ 1 ∷ ip 10 1 0 5 ∷ 0 ∷ 0 ∷ 1 ∷ 0 ∷ 0 ∷ zeros 17)
    ∷ (4 ∷ 0 ∷ 255 ∷ ip 10 1 0 255 ∷ 32 ∷ 0 ∷ 0 ∷ 3 ∷ 2 ∷ 253 ∷ 1 ∷ ip 10 1 0 5 ∷ 0 ∷ 0 ∷ 1 ∷ 0 ∷ 0 ∷ zeros 17)
    ∷ (4 ∷ 0 ∷ 255 ∷ ip 10 1 0 5 ∷ 32 ∷ 0 ∷ 0 ∷ 2 ∷ 2 ∷ 254 ∷ 1 ∷ ip 10 1 0 5 ∷ 0 ∷ 0 ∷ 1 ∷ 0 ∷ 0 ∷ zeros 17)
    ∷ (6 ∷ zeros 33)
    ∷ [])
    ∷ [])
    (0 ∷ 0 ∷ 2 ∷ []) (254 ∷ 255 ∷ zeros 30)
    -- Valid 10, changed 0: kept at 9,979,999,999, gone at 9,980,000,000.
    ∷ run (add_v4 (ip 10 1 0 5) 24 10 ∷ Call.expire event_room 9979999999 20000000 ∷ []) (five_said 0 10 ∷ reply 0 0 0 0 [] ∷ []) (1 ∷ 3 ∷ 2 ∷ [])
    (254 ∷ 255 ∷ zeros 30)
    ∷ run (add_v4 (ip 10 1 0 5) 24 10 ∷ Call.expire event_room 9980000000 20000000 ∷ [])
    (five_said 0 10
    ∷ reply 0 0 5 0
    ((2 ∷ 0 ∷ ip 10 1 0 5 ∷ ip 10 1 0 5 ∷ 24 ∷ 0 ∷ 0 ∷ 0 ∷ 0 ∷ 0 ∷ 2 ∷ 28524 ∷ 0 ∷ 0 ∷ 0 ∷ 0 ∷ 10 ∷ 10 ∷ 0 ∷ 0 ∷ 0 ∷ 0 ∷ zeros 12)
    ∷ (4 ∷ 0 ∷ 255 ∷ ip 10 1 0 0 ∷ 24 ∷ 0 ∷ 0 ∷ 2 ∷ 2 ∷ 254 ∷ 1 ∷ ip 10 1 0 5 ∷ 0 ∷ 0 ∷ 1 ∷ 0 ∷ 0 ∷ zeros 17)
    ∷ (4 ∷ 0 ∷ 255 ∷ ip 10 1 0 255 ∷ 32 ∷ 0 ∷ 0 ∷ 3 ∷ 2 ∷ 253 ∷ 1 ∷ ip 10 1 0 5 ∷ 0 ∷ 0 ∷ 1 ∷ 0 ∷ 0 ∷ zeros 17)
    ∷ (4 ∷ 0 ∷ 255 ∷ ip 10 1 0 5 ∷ 32 ∷ 0 ∷ 0 ∷ 2 ∷ 2 ∷ 254 ∷ 1 ∷ ip 10 1 0 5 ∷ 0 ∷ 0 ∷ 1 ∷ 0 ∷ 0 ∷ zeros 17)
    ∷ (6 ∷ zeros 33)
    ∷ [])
    ∷ [])
    (0 ∷ 0 ∷ 2 ∷ []) (254 ∷ 255 ∷ zeros 30)
    -- Main blackhole 10.1.0.7/32 beside local 10.1.0.0/24: lookup gives 22.
    ∷ run (add_v4 (ip 10 1 0 5) 24 4294967295 ∷ add_route4 (ip 10 1 0 7) 32 0 6 0 ∷ Call.lookup4 32 (ip 10 1 0 7) ∷ [])
    (five_said 128 0
    ∷ reply 0 0 1 0 ((3 ∷ 0x600 ∷ 254 ∷ ip 10 1 0 7 ∷ 32 ∷ 0 ∷ 0 ∷ 6 ∷ 4 ∷ 0 ∷ 0 ∷ 0 ∷ 0 ∷ 0 ∷ 0 ∷ 0 ∷ 0 ∷ zeros 17) ∷ [])
    ∷ reply 22 0 0 0 []
    ∷ [])
    (1 ∷ 4 ∷ 2 ∷ []) (254 ∷ 255 ∷ zeros 30)
    -- Throw 10.3.0.0/16, 253 not listed: 101.
    ∷ run (add_route4 (ip 10 3 0 0) 16 0 9 0 ∷ Call.lookup4 32 (ip 10 3 0 1) ∷ [])
    (reply 0 0 1 0 ((3 ∷ 0x600 ∷ 254 ∷ ip 10 3 0 0 ∷ 16 ∷ 0 ∷ 0 ∷ 9 ∷ 4 ∷ 0 ∷ 0 ∷ 0 ∷ 0 ∷ 0 ∷ 0 ∷ 0 ∷ 0 ∷ zeros 17) ∷ [])
    ∷ reply 101 0 0 0 []
    ∷ [])
    (0 ∷ 1 ∷ 1 ∷ []) (254 ∷ zeros 31)
    -- Row tos 8, flow tos 0xe8: fits. Row tos 32 never fits.
    ∷ run (add_route4 (ip 10 4 0 0) 16 8 1 1 ∷ Call.lookup4_flow 32 (ip 10 4 0 1) 0xe8 0 ∷ [])
    (reply 0 0 1 0 ((3 ∷ 0x600 ∷ 254 ∷ ip 10 4 0 0 ∷ 16 ∷ 8 ∷ 0 ∷ 1 ∷ 4 ∷ 0 ∷ 0 ∷ 0 ∷ 0 ∷ 0 ∷ 1 ∷ 0 ∷ 0 ∷ zeros 17) ∷ [])
    ∷ reply 0 0 0 0 ((254 ∷ ip 10 4 0 0 ∷ 16 ∷ 8 ∷ 0 ∷ 1 ∷ 4 ∷ 0 ∷ 0 ∷ 0 ∷ 0 ∷ 0 ∷ 1 ∷ 0 ∷ 0 ∷ zeros 17) ∷ [])
    ∷ [])
    (0 ∷ 1 ∷ 1 ∷ []) (254 ∷ zeros 31)
    ∷ never (254 ∷ ip 10 4 0 0 ∷ 16 ∷ 32 ∷ 0 ∷ 1 ∷ 4 ∷ 0 ∷ 0 ∷ 0 ∷ 0 ∷ 0 ∷ 1 ∷ 0 ∷ 0 ∷ zeros 17) (ip 10 4 0 1)
    ∷ []

-- Document 02, Paper 2: valid 0 and preferred above valid are 22, after 202, before 17, replacing or not; preferred equal to valid
-- is taken.
unfoldable pub lifetimes : List Example
lifetimes =
    run
    (ask_v4 (ip 10 1 0 5) 24 0 0 0
    ∷ ask_v4 (ip 10 1 0 5) 24 10 20 0
    ∷ ask_v4 (ip 10 1 0 5) 33 10 20 0
    ∷ ask_v4 (ip 10 1 0 5) 24 10 10 0
    ∷ ask_v4 (ip 10 1 0 5) 24 0 0 0
    ∷ ask_v4 (ip 10 1 0 5) 24 10 4294967295 1
    ∷ ask_v4 (ip 10 1 0 5) 24 10 10 0
    ∷ [])
    (reply 22 0 0 0 [] ∷ reply 22 0 0 0 [] ∷ reply 202 0 0 0 [] ∷ five_said 0 10 ∷ reply 22 0 0 0 [] ∷ reply 22 0 0 0 [] ∷ reply 17 0 0 0 [] ∷ [])
    (1 ∷ 3 ∷ 2 ∷ []) (254 ∷ 255 ∷ zeros 30)
    ∷ []

-- Document 02, Paper 9: event 5 on every `down`, though no row went; event 6 when the last address goes, behind that address's other
-- events, and not when another one goes; both with zeros after their number. Main rows that fall by their prefsrc have each its DelRoute4
-- with flags 0, in list order, after the address's other events and before event 6.
unfoldable pub device_events : List Example
device_events =
    run (down ∷ up ∷ add_v4 (ip 127 0 0 9) 8 4294967295 ∷ down ∷ down ∷ del_v4 (ip 127 0 0 9) ∷ del_v4 (ip 127 0 0 1) ∷ [])
    (reply 0 0 1 0 ((5 ∷ zeros 33) ∷ [])
    ∷ up_said
    ∷ reply 0 0 2 0
    ((1 ∷ 0 ∷ ip 127 0 0 9 ∷ ip 127 0 0 9 ∷ 8 ∷ 0 ∷ 0 ∷ 0 ∷ 129 ∷ 0 ∷ 2 ∷ 28524 ∷ 0 ∷ 0 ∷ 0 ∷ 0 ∷ 0 ∷ 0 ∷ 0 ∷ 0 ∷ 0 ∷ 0 ∷ zeros 12)
    ∷ (3 ∷ 0x600 ∷ 255 ∷ ip 127 0 0 9 ∷ 32 ∷ 0 ∷ 0 ∷ 2 ∷ 2 ∷ 254 ∷ 1 ∷ ip 127 0 0 1 ∷ 0 ∷ 0 ∷ 1 ∷ 0 ∷ 0 ∷ zeros 17)
    ∷ [])
    ∷ reply 0 0 1 0 ((5 ∷ zeros 33) ∷ [])
    ∷ reply 0 0 1 0 ((5 ∷ zeros 33) ∷ [])
    ∷ reply 0 0 2 0
    ((2 ∷ 0 ∷ ip 127 0 0 9 ∷ ip 127 0 0 9 ∷ 8 ∷ 0 ∷ 0 ∷ 0 ∷ 129 ∷ 0 ∷ 2 ∷ 28524 ∷ 0 ∷ 0 ∷ 0 ∷ 0 ∷ 0 ∷ 0 ∷ 0 ∷ 0 ∷ 0 ∷ 0 ∷ zeros 12)
    ∷ (4 ∷ 0 ∷ 255 ∷ ip 127 0 0 9 ∷ 32 ∷ 0 ∷ 0 ∷ 2 ∷ 2 ∷ 254 ∷ 1 ∷ ip 127 0 0 1 ∷ 0 ∷ 0 ∷ 1 ∷ 0 ∷ 0 ∷ zeros 17)
    ∷ [])
    ∷ reply 0 0 4 0
    ((2 ∷ 0 ∷ ip 127 0 0 1 ∷ ip 127 0 0 1 ∷ 8 ∷ 0 ∷ 0 ∷ 254 ∷ 128 ∷ 0 ∷ 2 ∷ 28524 ∷ 0 ∷ 0 ∷ 0 ∷ 0 ∷ 0 ∷ 0 ∷ 0 ∷ 0 ∷ 0 ∷ 0 ∷ zeros 12)
    ∷ (4 ∷ 0 ∷ 255 ∷ ip 127 0 0 0 ∷ 8 ∷ 0 ∷ 0 ∷ 2 ∷ 2 ∷ 254 ∷ 1 ∷ ip 127 0 0 1 ∷ 0 ∷ 0 ∷ 1 ∷ 0 ∷ 0 ∷ zeros 17)
    ∷ (4 ∷ 0 ∷ 255 ∷ ip 127 0 0 1 ∷ 32 ∷ 0 ∷ 0 ∷ 2 ∷ 2 ∷ 254 ∷ 1 ∷ ip 127 0 0 1 ∷ 0 ∷ 0 ∷ 1 ∷ 0 ∷ 0 ∷ zeros 17)
    ∷ (6 ∷ zeros 33)
    ∷ [])
    ∷ [])
    (0 ∷ 0 ∷ 2 ∷ []) (254 ∷ 255 ∷ zeros 30)
    ∷ run
    (add_v4 (ip 10 1 0 5) 24 4294967295
    ∷ add_blackhole (ip 10 3 0 2) (ip 10 1 0 5)
    ∷ add_blackhole (ip 10 3 0 1) (ip 10 1 0 5)
    ∷ del_v4 (ip 10 1 0 5)
    ∷ [])
    (five_said 128 0
    ∷ reply 0 0 1 0 ((3 ∷ 0x600 ∷ blackhole (ip 10 3 0 2) (ip 10 1 0 5)) ∷ [])
    ∷ reply 0 0 1 0 ((3 ∷ 0x600 ∷ blackhole (ip 10 3 0 1) (ip 10 1 0 5)) ∷ [])
    ∷ reply 0 0 7 0
    ((2 ∷ 0 ∷ ip 10 1 0 5 ∷ ip 10 1 0 5 ∷ 24 ∷ 0 ∷ 0 ∷ 0 ∷ 128 ∷ 0 ∷ 2 ∷ 28524 ∷ 0 ∷ 0 ∷ 0 ∷ 0 ∷ 0 ∷ 0 ∷ 0 ∷ 0 ∷ 0 ∷ 0 ∷ zeros 12)
    ∷ (4 ∷ 0 ∷ 255 ∷ ip 10 1 0 0 ∷ 24 ∷ 0 ∷ 0 ∷ 2 ∷ 2 ∷ 254 ∷ 1 ∷ ip 10 1 0 5 ∷ 0 ∷ 0 ∷ 1 ∷ 0 ∷ 0 ∷ zeros 17)
    ∷ (4 ∷ 0 ∷ 255 ∷ ip 10 1 0 255 ∷ 32 ∷ 0 ∷ 0 ∷ 3 ∷ 2 ∷ 253 ∷ 1 ∷ ip 10 1 0 5 ∷ 0 ∷ 0 ∷ 1 ∷ 0 ∷ 0 ∷ zeros 17)
    ∷ (4 ∷ 0 ∷ 255 ∷ ip 10 1 0 5 ∷ 32 ∷ 0 ∷ 0 ∷ 2 ∷ 2 ∷ 254 ∷ 1 ∷ ip 10 1 0 5 ∷ 0 ∷ 0 ∷ 1 ∷ 0 ∷ 0 ∷ zeros 17)
    ∷ (4 ∷ 0 ∷ blackhole (ip 10 3 0 1) (ip 10 1 0 5))
    ∷ (4 ∷ 0 ∷ blackhole (ip 10 3 0 2) (ip 10 1 0 5))
    ∷ (6 ∷ zeros 33)
    ∷ [])
    ∷ [])
    (0 ∷ 0 ∷ 2 ∷ []) (254 ∷ 255 ∷ zeros 30)
    ∷ []

pub as_document_01_says : map given examples ≡ map said examples
unfolding examples computing
as_document_01_says = refl

pub as_document_02_says : map given (lifetimes ++ device_events) ≡ map said (lifetimes ++ device_events)
unfolding lifetimes device_events computing
as_document_02_says = refl
