-- Recordings as bytes, in literals. Each side of an example is computed.
use Rattle.std.specs.Prelude.{ℕ, ◌≡◌, refl, List, [], ◌∷◌, ◌++◌}
use Rattle.lists.specs.Lists.{Row, zeros}
use Rattle.endian.specs.Endian.{words_of, bytes_of}
use Rattle.definition.specs.Call.{Reply}
use Rattle.definition.specs.Computing.{computing}
use Rattle.definition.specs.Examples.{ip, reply}
use Rattle.definition_recording.specs.Recording.{added_row, deleted_row, event, rebuild_from, rebuilt, rebuild_call, same_call}
use Rattle.definition_bytes.specs.Recording.{rebuild_on_bytes, same_on_bytes}

-- blackhole routes of 10.0.0.0/8 in 254, told apart by their proto; one that is put in, and one that goes
abbrev plain : ℕ → Row
plain proto = 254 ∷ ip 10 0 0 0 ∷ 8 ∷ 0 ∷ 0 ∷ 6 ∷ proto ∷ 0 ∷ 0 ∷ 0 ∷ 0 ∷ 0 ∷ 0 ∷ 0 ∷ 0 ∷ zeros 17

abbrev new : ℕ → ℕ → List ℕ
new flags proto = bytes_of (3 ∷ flags ∷ plain proto)

abbrev gone : ℕ → List ℕ
gone proto = bytes_of (4 ∷ 0 ∷ plain proto)

unfoldable calls : List Reply
calls =
    rebuild_on_bytes 32768 (new 0 3 ++ new 0 4) ∷ rebuild_on_bytes 32768 (new 0 3 ++ new 0x800 4)
    -- 200: a byte is missing, in the recording and in the room
    ∷ rebuild_on_bytes 32768 (zeros 135)
    ∷ rebuild_on_bytes 32767 (new 0 3)
    -- a deletion of a row that isn't there, an event of no kind
    ∷ rebuild_on_bytes 32768 (new 0 3 ++ gone 4)
    ∷ rebuild_on_bytes 32768 (zeros 136)
    -- the same, in another order; 200 of the second before what the first says
    ∷ same_on_bytes (new 0 3 ++ new 0 4 ++ gone 3) (new 0 4)
    ∷ same_on_bytes (new 0 3 ++ new 0 4) (new 0 3 ++ new 0x800 4)
    ∷ same_on_bytes (zeros 136) (zeros 135)
    ∷ []

calls_as_said : calls
    ≡ reply 0 0 2 0 (plain 4 ∷ plain 3 ∷ []) ∷ reply 0 0 2 0 (plain 3 ∷ plain 4 ∷ [])
    ∷ reply 200 0 0 0 []
    ∷ reply 200 0 0 0 []
    ∷ reply 209 0 0 0 []
    ∷ reply 208 0 0 0 []
    ∷ reply 0 0 1 0 []
    ∷ reply 0 0 0 0 []
    ∷ reply 200 0 0 0 []
    ∷ []
unfolding calls rebuild_on_bytes same_on_bytes rebuild_call same_call rebuilt rebuild_from event added_row deleted_row words_of bytes_of computing
calls_as_said = refl
