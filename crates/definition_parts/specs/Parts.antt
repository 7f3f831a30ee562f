-- Listings taken in parts (document 02, Paper 6): what dump4_begin and dump4_next reply, and leave of the cursor that they are lent, on any
-- words. They change no word of the state; a part's rows stand at the start of the listing buffer, as in `dump4`.
use Rattle.std.specs.Prelude.{ℕ, ◌+◌, ◌*◌, min, Bool, true, cond, not, ◌&&◌, ◌||◌, List, [], ◌∷◌, eqb, leb, length, get_or, take, drop}
use Rattle.lists.specs.Lists.{Row}
use Rattle.definition.specs.Words.{base_size, state_of, change_count, largest_count}
use Rattle.definition.specs.Call.{Reply, refusal}
use Rattle.definition.specs.Step.{Checks, checked, unless}
use Rattle.definition.specs.Reference.Source.{dump4}
use Rattle.layout.specs.Route as Route

-- ---- the cursor: "the next place (place plus rows) and the start's change count that the part before returned", in three words
abbrev pub cursor_size : ℕ
cursor_size = 3

abbrev pub cursor_place : List ℕ → ℕ
cursor_place k = get_or k 0 0

abbrev pub cursor_count : List ℕ → ℕ
cursor_count k = get_or k 1 0 + get_or k 2 0 * 4294967296

-- where a listing of the words w begins
abbrev pub begun : List ℕ → List ℕ
begun w = 0 ∷ get_or (drop base_size w) 0 0 ∷ get_or (drop base_size w) 1 0 ∷ []

-- where it goes on after n rows
abbrev pub further : ℕ → List ℕ → List ℕ
further n k = (cursor_place k + n) ∷ get_or k 1 0 ∷ get_or k 2 0 ∷ []

-- ---- a part
-- "A part carries netlink's mark for an interrupted dump, 0x10, exactly if the count is not the start's or is at its largest"
abbrev pub interrupted_mark : ℕ
interrupted_mark = 0x10

abbrev pub mark_of : ℕ → ℕ → ℕ
mark_of count start = cond (not (eqb count start) || eqb count largest_count) interrupted_mark 0

-- "by place in `dump4` order": so many rows of the list from a place on
abbrev pub part_rows : ℕ → ℕ → List Row → List Row
part_rows place rows l = take rows (drop place l)

-- no row of the list stands behind the place; "a place past the end gives no row and finishes it"
abbrev pub end_reached : ℕ → List Row → Bool
end_reached place l = leb (length l) place

-- what a part comes to: its reply, and the cursor's words
pub record PartResult : Type 0 where
  pub reply : Reply
  pub cursor : List ℕ

-- so many rows of the words w from the cursor k on: "each part also returns its number of rows, the mark or 0, and whether it reaches
-- the end"
unfoldable pub part : ℕ → List ℕ → List ℕ → PartResult
part rows k w =
    let l = dump4 (state_of w) in
    let given = part_rows (cursor_place k) rows l in
    let next = cursor_place k + length given in
    record {
      reply =
          record {
            number = 0;
            present = mark_of (change_count w) (cursor_count k);
            value = length given;
            second = cond (end_reached next l) 1 0;
            rows = given;
          };
      cursor = further (length given) k;
    }

-- ---- the calls
-- "with 1 to 256 rows at a time (else 202)"
abbrev pub part_limit : ℕ
part_limit = 256

-- a cursor of three words, a listing buffer with room for the rows asked for
abbrev pub part_checks : ℕ → List ℕ → ℕ → Checks
part_checks room cursor rows =
    record {
      buffers = eqb (length cursor) cursor_size && leb (Route.size * min rows part_limit) room;
      row = true;
      request = unless (leb 1 rows && leb rows part_limit) 202;
    }

-- a part from k on, by a call that was lent the cursor's words: 200, 201 and 202 leave these
unfoldable pub part_from : List ℕ → ℕ → List ℕ → ℕ → List ℕ → PartResult
part_from k room cursor rows w =
    let n = checked (part_checks room cursor rows) w in
    cond (eqb n 0) (part rows k w) (record { reply = refusal n; cursor = cursor })

-- lent a listing buffer of so many words and the cursor's words, and asked for so many rows: the first part looks at nothing in the
-- cursor, the others go on from it
unfoldable pub dump4_begin_call : ℕ → List ℕ → ℕ → List ℕ → PartResult
dump4_begin_call room cursor rows w = part_from (begun w) room cursor rows w

unfoldable pub dump4_next_call : ℕ → List ℕ → ℕ → List ℕ → PartResult
dump4_next_call room cursor rows w = part_from cursor room cursor rows w
