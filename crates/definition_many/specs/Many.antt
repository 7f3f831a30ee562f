-- Destinations looked up together (document 02, Paper 10): what lookup4_many replies on any words. It changes no word of the state; the
-- answers stand at the start of the buffer that it is lent, as the rows of a listing do.
use Rattle.std.specs.Prelude.{ℕ, ◌+◌, ◌*◌, Bool, true, false, cond, not, ◌&&◌, List, [], ◌∷◌, map, leb, length}
use Rattle.std.proofs.Math.Option.{Option, none, some}
use Rattle.lists.specs.Lists.{Row, keep, pairwise, zeros}
use Rattle.lists.specs.Count.{count}
use Rattle.layout.specs.Route as Route
use Rattle.layout.specs.Route.{table, dst}
use Rattle.definition.specs.State.{State}
use Rattle.definition.specs.Call.{Reply}
use Rattle.definition.specs.Step.{Result, Checks, unless, reading}
use Rattle.definition.specs.Reference.Lookup.{Found, route, no_route, answer, flow_to, settled, together, main_table, default_table, listed, lookup4}

-- ---- the answers
-- "Each answer takes 33 words, the number or 0 and the row or zeros"
abbrev pub answer_size : ℕ
answer_size = 1 + Route.size

abbrev pub answer_words : Found → Row
answer_words (route r) = 0 ∷ r
answer_words (no_route n) = n ∷ zeros Route.size

-- "for each what `lookup4` gives, refusals included"
unfoldable pub answers : State → List ℕ → List Row
answers st ds = map (λ d. answer_words (lookup4 st d)) ds

-- ---- the rows weighed
abbrev pub last : List ℕ → Option ℕ
last [] = none
last (d ∷ []) = some d
last (d ∷ e ∷ ds) = last (e ∷ ds)

-- the row's "dst is not above the last destination"; where there is none, no row's is
abbrev pub up_to : Option ℕ → Row → Bool
up_to none r = false
up_to (some d) r = leb (dst r) d

-- how many rows of a set of tables that is of
abbrev pub weighed : (ℕ → Bool) → List Row → List ℕ → ℕ
weighed tables rows ds = count (λ r. tables (table r) && up_to (last ds) r) rows

-- "for which the first set had none or a throw"
abbrev pub leads_on : State → ℕ → Bool
leads_on st d = not (settled (answer (together main_table) (flow_to d) st.routes))

-- "the rows of 254 and 255 whose dst is not above the last destination, plus, if 253 is listed, the rows of 253 whose dst is not above
-- the last destination for which the first set had none or a throw"
unfoldable pub rows_weighed : State → List ℕ → ℕ
rows_weighed st ds =
    weighed (together main_table) st.routes ds
    + cond (listed default_table st) (weighed (together default_table) st.routes (keep (leads_on st) ds)) 0

-- ---- the call
-- "up to 256 in rising order, equal ones allowed"
abbrev pub destination_limit : ℕ
destination_limit = 256

abbrev pub rising : List ℕ → Bool
rising ds = pairwise leb ds

-- "Errors: 210 more than 256, 211 not rising, in that order after 201", 0 for neither
abbrev pub unfit_destinations : List ℕ → ℕ
unfit_destinations ds = cond (leb (length ds) destination_limit) (unless (rising ds) 211) 210

-- an answer buffer of so many words: "a shorter buffer is met by 200", also where there are too many destinations
abbrev pub many_checks : ℕ → List ℕ → Checks
many_checks room ds =
    record { buffers = leb (answer_size * length ds) room; row = true; request = unfit_destinations ds }

-- "The reply carries the number of rows weighed"
abbrev pub many_reply : List ℕ → State → Reply
many_reply ds st = record { number = 0; present = 0; value = rows_weighed st ds; second = 0; rows = answers st ds }

unfoldable pub lookup4_many_call : ℕ → List ℕ → List ℕ → Result
lookup4_many_call room ds w = reading (many_checks room ds) (many_reply ds) w
