-- Recordings of events on bytes (document 02, Paper 9): 200 where these aren't whole event rows, else the calls on their words.
use Rattle.std.specs.Prelude.{ℕ, ◌*◌, ◌%◌, Bool, ◌&&◌, List, eqb, leb, length}
use Rattle.endian.specs.Endian.{words_of}
use Rattle.layout.specs.Event as Event
use Rattle.definition.specs.Call.{Reply}
use Rattle.definition.specs.Step.{listing_room}
use Rattle.definition_recording.specs.Recording.{rebuild_call, same_call}
use Rattle.definition_bytes.specs.Bytes.{on_bytes}

abbrev pub whole_bytes : List ℕ → Bool
whole_bytes b = eqb (length b % (4 * Event.size)) 0

-- lent rows of so many bytes
unfoldable pub rebuild_on_bytes : ℕ → List ℕ → Reply
rebuild_on_bytes room recording =
    on_bytes (whole_bytes recording && leb (4 * listing_room) room) (rebuild_call listing_room (words_of recording))

unfoldable pub same_on_bytes : List ℕ → List ℕ → Reply
same_on_bytes first second = on_bytes (whole_bytes first && whole_bytes second) (same_call (words_of first) (words_of second))
