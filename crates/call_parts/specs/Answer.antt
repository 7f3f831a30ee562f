-- What a part promises of its answer, by the definition's part.
use Rattle.std.specs.Prelude.{ℕ, cond, List, [], ◌∷◌, get_or}
use Rattle.definition.specs.Call.{Numbers}
use Rattle.definition_parts.specs.Parts.{interrupted_mark, begun, PartResult, part_from}
use Rattle.call_parts.specs.declared.Part.{Part}
use Rattle.call_parts.specs.declared.Place.{Place}
use Rattle.call_parts.specs.declared.Place.TheVariants.{Start, Cursor}

-- the numbers of an answer
abbrev pub part_by : Part → Numbers
part_by p = record { number = 0; present = cond p.interrupted interrupted_mark 0; value = p.rows; second = cond p.complete 1 0 }

-- the first part, or the one behind the last
abbrev pub from : Place → List ℕ → List ℕ → List ℕ
from Start k w = begun w
from Cursor k w = k

abbrev pub part_call : Place → ℕ → List ℕ → ℕ → List ℕ → PartResult
part_call place room k rows w = part_from (from place k w) room k rows w

-- the three words that it goes on from
abbrev pub cursor_of : Place → List ℕ → List ℕ → List ℕ
cursor_of place k w = get_or (from place k w) 0 0 ∷ get_or (from place k w) 1 0 ∷ get_or (from place k w) 2 0 ∷ []
