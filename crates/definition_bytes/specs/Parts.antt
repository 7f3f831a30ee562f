-- A part of a listing on bytes (document 02, Paper 6): where there are as many bytes as there must be, it is the part on their words, its
-- cursor given back as bytes.
use Rattle.std.specs.Prelude.{ℕ, ◌*◌, min, Bool, ◌&&◌, List, eqb, leb, length}
use Rattle.endian.specs.Endian.{words_of}
use Rattle.layout.specs.Route as Route
use Rattle.definition.specs.Step.{listing_room}
use Rattle.definition_bytes.specs.Bytes.{on_bytes, state_fits, state_on}
use Rattle.definition_parts.specs.Parts.{PartResult, cursor_size, part_limit, dump4_begin_call, dump4_next_call}

-- a state, a cursor of three words, and a listing buffer with room for the rows asked for
abbrev pub part_suffices : ℕ → List ℕ → ℕ → List ℕ → Bool
part_suffices room cursor rows state =
    state_fits state && (eqb (length cursor) (4 * cursor_size) && leb (4 * (Route.size * min rows part_limit)) room)

-- what a part on words comes to
abbrev pub part_on_bytes : Bool → PartResult → List ℕ → PartResult
part_on_bytes fit inner cursor = record { reply = on_bytes fit inner.reply; cursor = state_on fit cursor inner.cursor }

-- Lent a listing buffer of so many bytes and the cursor's bytes. The call on words is lent room for any number of rows.
unfoldable pub dump4_begin_on_bytes : ℕ → List ℕ → ℕ → List ℕ → PartResult
dump4_begin_on_bytes room cursor rows state =
    part_on_bytes (part_suffices room cursor rows state) (dump4_begin_call listing_room (words_of cursor) rows (words_of state)) cursor

unfoldable pub dump4_next_on_bytes : ℕ → List ℕ → ℕ → List ℕ → PartResult
dump4_next_on_bytes room cursor rows state =
    part_on_bytes (part_suffices room cursor rows state) (dump4_next_call listing_room (words_of cursor) rows (words_of state)) cursor
