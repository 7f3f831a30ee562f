-- Paper 9 in literals: what each event rebuilds, which are refused, and two recordings. Each side of an example is computed.
use Rattle.std.specs.Prelude.{ℕ, zero, suc, ◌≡◌, refl, List, [], ◌∷◌, ◌++◌, map}
use Rattle.lists.specs.Lists.{Row, zeros}
use Rattle.definition.specs.Call.{Call, Reply}
use Rattle.definition.specs.Computing.{computing}
use Rattle.definition.specs.Examples.{ip, up, down, del_v4, reply}
use Rattle.definition.specs.Noninterference.Statement.{empty_words}
use Rattle.definition_recording.specs.Recording.{Rebuilt, rows, refused, kind, added_row, deleted_row, event, rebuild_from, rebuilt, rebuild_call, same_call}
use Rattle.definition_recording.specs.Statement.{recording, recorded}

-- ---- rows: blackhole routes of 10.0.0.0/8 in 254, told apart by their proto, with a priority; device routes with a scope
abbrev plain : ℕ → ℕ → Row
plain proto priority = 254 ∷ ip 10 0 0 0 ∷ 8 ∷ 0 ∷ priority ∷ 6 ∷ proto ∷ 0 ∷ 0 ∷ 0 ∷ 0 ∷ 0 ∷ 0 ∷ 0 ∷ 0 ∷ zeros 17

abbrev linked : ℕ → ℕ → Row
linked dst scope = 254 ∷ dst ∷ 32 ∷ 0 ∷ 0 ∷ 1 ∷ 4 ∷ scope ∷ 0 ∷ 0 ∷ 0 ∷ 0 ∷ 1 ∷ 0 ∷ 0 ∷ zeros 17

-- ---- events in literals
abbrev new : ℕ → Row → Row
new f r = 3 ∷ f ∷ r

abbrev gone : Row → Row
gone r = 4 ∷ 0 ∷ r

-- 10.1.0.5/24 with the label lo
abbrev address : Row
address = ip 10 1 0 5 ∷ ip 10 1 0 5 ∷ 24 ∷ 0 ∷ 0 ∷ 0 ∷ 128 ∷ 0 ∷ 2 ∷ 28524 ∷ zeros 10

-- ---- what is rebuilt
unfoldable pub rebuildings : List Rebuilt
rebuildings =
    -- nothing; an address
    rebuild_from [] []
    ∷ rebuild_from ((1 ∷ 0 ∷ (address ++ zeros 12)) ∷ (2 ∷ 0 ∷ (address ++ zeros 12)) ∷ []) []
    -- before the alike rows; with 0x800 after them; with 0x100 in place of the first, whatever other flags say
    ∷ rebuild_from (new 0x600 (plain 3 0) ∷ new 0x400 (plain 4 0) ∷ new 0xc00 (plain 5 0) ∷ []) []
    ∷ rebuild_from (new 0x600 (plain 3 0) ∷ new 0x400 (plain 4 0) ∷ new 0xd00 (plain 5 0) ∷ []) []
    -- rows that aren't alike stand in the order of routes: the priority rises
    ∷ rebuild_from (new 0 (plain 3 7) ∷ new 0x800 (plain 4 0) ∷ new 0x800 (plain 5 9) ∷ []) []
    -- a row goes, all others stay
    ∷ rebuild_from (new 0 (plain 3 0) ∷ new 0 (plain 4 0) ∷ gone (plain 3 0) ∷ []) []
    -- 5 takes the device's rows but those of scope 254; 6 takes these too
    ∷ rebuild_from (new 0 (plain 3 0) ∷ new 0 (linked 1 253) ∷ new 0 (linked 2 254) ∷ (5 ∷ zeros 33) ∷ []) []
    ∷ rebuild_from (new 0 (plain 3 0) ∷ new 0 (linked 1 253) ∷ new 0 (linked 2 254) ∷ (6 ∷ zeros 33) ∷ []) []
    ∷ []

pub rebuilt_as_said : rebuildings
    ≡ rows []
    ∷ rows []
    ∷ rows (plain 4 0 ∷ plain 3 0 ∷ plain 5 0 ∷ [])
    ∷ rows (plain 5 0 ∷ plain 3 0 ∷ [])
    ∷ rows (plain 4 0 ∷ plain 3 7 ∷ plain 5 9 ∷ [])
    ∷ rows (plain 4 0 ∷ [])
    ∷ rows (linked 2 254 ∷ plain 3 0 ∷ [])
    ∷ rows (plain 3 0 ∷ [])
    ∷ []
unfolding rebuildings rebuild_from event added_row deleted_row computing
rebuilt_as_said = refl

-- ---- what is refused
unfoldable pub refusals : List Rebuilt
refusals =
    -- 208: kinds 0 and 7, whatever the other words; of an earlier event before 209 of a later one, and after one
    rebuild_from ((0 ∷ 65536 ∷ zeros 32) ∷ []) []
    ∷ rebuild_from ((7 ∷ zeros 33) ∷ []) []
    ∷ rebuild_from ((7 ∷ zeros 33) ∷ gone (plain 3 0) ∷ []) []
    ∷ rebuild_from (gone (plain 3 0) ∷ (7 ∷ zeros 33) ∷ []) []
    -- 209: an unfit address (prefix 33), its flags, a word behind it
    ∷ rebuild_from ((1 ∷ 0 ∷ (ip 10 1 0 5 ∷ ip 10 1 0 5 ∷ 33 ∷ zeros 29)) ∷ []) []
    ∷ rebuild_from ((2 ∷ 1 ∷ (address ++ zeros 12)) ∷ []) []
    ∷ rebuild_from ((1 ∷ 0 ∷ (address ++ (zeros 11 ++ (1 ∷ [])))) ∷ []) []
    -- an unfit route (tos 256), flags over 65,535, flags of a deletion
    ∷ rebuild_from (new 0 (254 ∷ ip 10 0 0 0 ∷ 8 ∷ 256 ∷ 0 ∷ 6 ∷ zeros 26) ∷ []) []
    ∷ rebuild_from (new 65536 (plain 3 0) ∷ []) []
    ∷ rebuild_from (new 0 (plain 3 0) ∷ (4 ∷ 1 ∷ plain 3 0) ∷ []) []
    -- words behind the numbers 5 and 6
    ∷ rebuild_from ((5 ∷ 1 ∷ zeros 32) ∷ []) []
    ∷ rebuild_from ((6 ∷ (zeros 32 ++ (1 ∷ []))) ∷ []) []
    -- event 6 before a deletion of a row that it takes
    ∷ rebuild_from (new 0 (linked 2 254) ∷ (6 ∷ zeros 33) ∷ gone (linked 2 254) ∷ []) []
    -- a deletion of a row not there; a replacement with no alike row; an addition of a row there, by it, and by the row replaced
    ∷ rebuild_from (new 0 (plain 3 0) ∷ gone (plain 4 0) ∷ []) []
    ∷ rebuild_from (new 0 (plain 3 0) ∷ new 0x100 (plain 4 1) ∷ []) []
    ∷ rebuild_from (new 0 (plain 3 0) ∷ new 0 (plain 4 0) ∷ new 0x800 (plain 3 0) ∷ []) []
    ∷ rebuild_from (new 0 (plain 3 0) ∷ new 0 (plain 4 0) ∷ new 0x100 (plain 3 0) ∷ []) []
    ∷ rebuild_from (new 0 (plain 3 0) ∷ new 0x100 (plain 3 0) ∷ []) []
    ∷ []

pub refused_as_said : refusals
    ≡ refused 208 ∷ refused 208 ∷ refused 208 ∷ refused 209
    ∷ refused 209 ∷ refused 209 ∷ refused 209
    ∷ refused 209 ∷ refused 209 ∷ refused 209
    ∷ refused 209 ∷ refused 209
    ∷ refused 209
    ∷ refused 209 ∷ refused 209 ∷ refused 209 ∷ refused 209 ∷ refused 209
    ∷ []
unfolding refusals rebuild_from event added_row deleted_row computing
refused_as_said = refl

-- 256 rows, and one more
abbrev many : ℕ → List Row
many zero = []
many (suc n) = plain 3 n ∷ many n

pub no_257th : rebuild_from (new 0 (plain 4 0) ∷ []) (many 256) ≡ refused 209
unfolding rebuild_from event added_row computing
no_257th = refl

-- ---- on words
abbrev one : List ℕ
one = new 0 (plain 3 0)

unfoldable pub calls : List Reply
calls =
    rebuild_call 8192 [] ∷ rebuild_call 8192 one
    -- 200: not whole rows, no room; before what an event says
    ∷ rebuild_call 8192 (zeros 35)
    ∷ rebuild_call 8191 (zeros 34)
    -- the same, not the same, in another order
    ∷ same_call one one
    ∷ same_call one []
    ∷ same_call (one ++ new 0 (plain 4 0)) (one ++ new 0x800 (plain 4 0))
    -- 200 for either; then the first
    ∷ same_call (zeros 34) (zeros 33)
    ∷ same_call (gone (plain 3 0)) (zeros 34)
    ∷ same_call one (zeros 34)
    ∷ []

pub calls_as_said : calls
    ≡ reply 0 0 0 0 [] ∷ reply 0 0 1 0 (plain 3 0 ∷ [])
    ∷ reply 200 0 0 0 []
    ∷ reply 200 0 0 0 []
    ∷ reply 0 0 1 0 []
    ∷ reply 0 0 0 0 []
    ∷ reply 0 0 0 0 []
    ∷ reply 200 0 0 0 []
    ∷ reply 209 0 0 0 []
    ∷ reply 208 0 0 0 []
    ∷ []
unfolding calls rebuild_call same_call rebuilt rebuild_from event added_row deleted_row computing
calls_as_said = refl

-- ---- a run: up, down, and the last address gone; the kinds of its events, and what they rebuild before and after the last call
unfoldable pub run : List Call
run = up ∷ down ∷ []

abbrev host : Row
host = 255 ∷ ip 127 0 0 1 ∷ 32 ∷ 0 ∷ 0 ∷ 2 ∷ 2 ∷ 254 ∷ 1 ∷ ip 127 0 0 1 ∷ 0 ∷ 0 ∷ 1 ∷ 0 ∷ 0 ∷ zeros 17

abbrev network : Row
network = 255 ∷ ip 127 0 0 0 ∷ 8 ∷ 0 ∷ 0 ∷ 2 ∷ 2 ∷ 254 ∷ 1 ∷ ip 127 0 0 1 ∷ 0 ∷ 0 ∷ 1 ∷ 0 ∷ 0 ∷ zeros 17

pub kinds_as_said : map kind (recording (run ++ (del_v4 (ip 127 0 0 1) ∷ [])) empty_words) ≡ 1 ∷ 3 ∷ 3 ∷ 3 ∷ 5 ∷ 2 ∷ 4 ∷ 4 ∷ 6 ∷ []
unfolding run recording computing
kinds_as_said = refl

pub run_as_said : rebuild_call 8192 (recorded run) ≡ reply 0 0 2 0 (network ∷ host ∷ [])
unfolding run recording rebuild_call rebuilt rebuild_from event added_row deleted_row computing
run_as_said = refl
