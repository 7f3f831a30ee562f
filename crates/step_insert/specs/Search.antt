-- The run of rows of one destination, length and table, as a search from the first row finds it (document 02, Paper 3).
-- Said of any list of rows; among ordered rows the run has all rows of its key.
use Rattle.std.specs.Prelude.{ℕ, ◌+◌, ◌≡◌, refl, Bool, cond, not, List, [], ◌∷◌, ltb, length, drop}
use Rattle.lists.specs.Lists.{Row, eq_row}
use Rattle.lists.specs.Place.{place_of}
use Rattle.layout.specs.Route.{before, table, dst, len}

-- a row's table, destination and length, as a row with nothing else in it: `before` orders keys as it orders rows
abbrev pub key : Row → Row
key r = table r ∷ dst r ∷ len r ∷ []

-- the row comes before the new one's key in the rows' order
abbrev pub in_front : Row → Row → Bool
in_front new r = before (key r) (key new)

-- the row has the new one's key
abbrev pub in_run : Row → Row → Bool
in_run new r = eq_row (key new) (key r)

-- how many rows pass from the first on, up to the first that doesn't
abbrev pub leading : (Row → Bool) → List Row → ℕ
leading p l = place_of (λ r. not (p r)) l

-- the rows in front of the run
unfoldable pub run_start : Row → List Row → ℕ
run_start new l = leading (in_front new) l

-- those, and from there on the rows of the run
unfoldable pub run_end : Row → List Row → ℕ
run_end new l = run_start new l + leading (in_run new) (drop (run_start new l) l)

-- the rows up to and with the first one after the run, or all if none follows
unfoldable pub rows_read : Row → List Row → ℕ
rows_read new l = cond (ltb (run_end new l) (length l)) (run_end new l + 1) (length l)

-- ---- computed: rows of a table, a destination, a length and a tos
row : ℕ → ℕ → ℕ → Row
row d l tos = 254 ∷ d ∷ l ∷ tos ∷ []

rows : List Row
rows = row 10 32 0 ∷ row 20 24 8 ∷ row 20 24 0 ∷ row 20 8 0 ∷ []

abbrev found : Row → List Row → List ℕ
found new l = run_start new l ∷ run_end new l ∷ rows_read new l ∷ []

-- a run of two tos; one that no row follows; none, between rows and behind them
examples : (found (row 20 24 4) rows ≡ 1 ∷ 3 ∷ 4 ∷ [])
    × (found (row 20 8 0) rows ≡ 3 ∷ 4 ∷ 4 ∷ [])
    × (found (row 20 16 0) rows ≡ 3 ∷ 3 ∷ 4 ∷ [])
    × (found (row 30 8 0) rows ≡ 4 ∷ 4 ∷ 4 ∷ [])
unfolding before run_start run_end rows_read row rows
examples = (refl, refl, refl, refl)
