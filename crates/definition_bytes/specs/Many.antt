-- Destinations looked up together on bytes (document 02, Paper 10): where there are as many bytes as there must be, it is the call on
-- their words.
use Rattle.std.specs.Prelude.{ℕ, ◌*◌, ◌%◌, Bool, ◌&&◌, List, eqb, leb, length}
use Rattle.endian.specs.Endian.{words_of}
use Rattle.definition.specs.Call.{Reply}
use Rattle.definition_bytes.specs.Bytes.{on_bytes, state_fits}
use Rattle.definition_many.specs.Many.{answer_size, lookup4_many_call}

-- a state, destinations of whole words, and room for an answer to each
abbrev pub many_suffices : ℕ → List ℕ → List ℕ → Bool
many_suffices room destinations state =
    state_fits state && (eqb (length destinations % 4) 0 && leb (4 * (answer_size * length (words_of destinations))) room)

-- Lent a buffer for answers of so many bytes. The call on words is lent room for all of them.
unfoldable pub lookup4_many_on_bytes : ℕ → List ℕ → List ℕ → Reply
lookup4_many_on_bytes room destinations state =
    on_bytes (many_suffices room destinations state)
    (lookup4_many_call (answer_size * length (words_of destinations)) (words_of destinations) (words_of state)).reply
