-- A listing as text, in ASCII (document 01: "one bracketed form a line: the count of rows printed; then table, (dst len), kind, tos, priority").
use Rattle.std.specs.Prelude.{ℕ, zero, suc, ◌+◌, ◌/◌, ◌%◌, cond, List, [], ◌∷◌, ◌++◌, ltb, length}
use Rattle.lists.specs.Lists.{Row, each}
use Rattle.layout.specs.Route.{table, dst, len, tos, priority, kind}

-- ---- characters
abbrev pub space : ℕ
space = 32

abbrev pub opens : ℕ
opens = 40

abbrev pub closes : ℕ
closes = 41

abbrev pub point : ℕ
point = 46

abbrev pub line_end : ℕ
line_end = 10

-- "(routes " and "(refused "
abbrev pub routes_word : List ℕ
routes_word = 40 ∷ 114 ∷ 111 ∷ 117 ∷ 116 ∷ 101 ∷ 115 ∷ 32 ∷ []

abbrev pub refused_word : List ℕ
refused_word = 40 ∷ 114 ∷ 101 ∷ 102 ∷ 117 ∷ 115 ∷ 101 ∷ 100 ∷ 32 ∷ []

-- ---- numbers
-- the last digit of n
abbrev pub digit : ℕ → ℕ
digit n = 48 + n % 10

-- the digits of n, k of them at most: those of the tenth part where there is one, then the last
abbrev pub digits_in : ℕ → ℕ → List ℕ
digits_in zero n = []
digits_in (suc k) n = cond (ltb n 10) [] (digits_in k (n / 10)) ++ (digit n ∷ [])

-- a number has no more digits than itself and one
unfoldable pub digits : ℕ → List ℕ
digits n = digits_in (suc n) n

-- an address: its four bytes, the highest first, with points between
unfoldable pub dotted : ℕ → List ℕ
dotted ip =
    digits (ip / 16777216 % 256)
    ++ (point ∷ [])
    ++ digits (ip / 65536 % 256)
    ++ (point ∷ [])
    ++ digits (ip / 256 % 256)
    ++ (point ∷ [])
    ++ digits (ip % 256)

-- ---- lines
-- a number between two characters, a destination, a number that ends a line
abbrev pub between : ℕ → ℕ → ℕ → List ℕ
between a n b = (a ∷ []) ++ (digits n ++ (b ∷ []))

abbrev pub bracketed : ℕ → ℕ → List ℕ
bracketed ip n = (opens ∷ []) ++ (dotted ip ++ (space ∷ [])) ++ (digits n ++ (closes ∷ []))

abbrev pub ending : ℕ → List ℕ
ending n = digits n ++ (closes ∷ []) ++ (line_end ∷ [])

-- (table (dst len) kind tos priority)
unfoldable pub line : Row → List ℕ
line r =
    between opens (table r) space
    ++ bracketed (dst r) (len r)
    ++ between space (kind r) space
    ++ (digits (tos r) ++ (space ∷ []))
    ++ ending (priority r)

-- (routes n)
unfoldable pub count_line : ℕ → List ℕ
count_line n = routes_word ++ ending n

-- (refused n)
unfoldable pub refused_line : ℕ → List ℕ
refused_line n = refused_word ++ ending n

-- the count of the rows, then a line for each
unfoldable pub render : List Row → List ℕ
render rows = count_line (length rows) ++ each line rows
