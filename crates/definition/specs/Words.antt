-- The state as 9,541 words, and when words are a state (document 01, "The state, words of 32 bits"; document 02, Papers 6 and 8, for
-- the change count and the row counts behind the lists).
use Rattle.std.specs.Prelude.{ℕ, suc, ◌+◌, ◌*◌, ◌-◌, ◌/◌, ◌%◌, Bool, cond, not, ◌&&◌, List, [], ◌∷◌, ◌++◌, eqb, leb, ltb, length, get_or, take, drop, map}
use Rattle.lists.specs.Lists.{Row, all, keep, pairwise, eq_row, all_zero, flat, pad, span, chop}
use Rattle.layout.specs.Address as Address
use Rattle.layout.specs.Route as Route
use Rattle.layout.specs.Address.{fit_address}
use Rattle.layout.specs.Route.{fit_route, before, table}
use Rattle.definition.specs.State.{State, Sizes}

-- ---- the limits, which the port adds
abbrev pub address_limit : ℕ
address_limit = 64

abbrev pub route_limit : ℕ
route_limit = 256

abbrev pub table_limit : ℕ
table_limit = 32

-- each list keeps to its limit
abbrev pub within : Sizes → Bool
within s = leb s.addresses address_limit && leb s.routes route_limit && leb s.tables table_limit

-- ---- the layout: three counts, 64 address rows, 256 route rows, 32 table numbers; where each part begins, and its words
abbrev pub addresses_at : ℕ
addresses_at = 3

abbrev pub addresses_size : ℕ
addresses_size = address_limit * Address.size

abbrev pub routes_at : ℕ
routes_at = addresses_at + addresses_size

abbrev pub routes_size : ℕ
routes_size = route_limit * Route.size

abbrev pub tables_at : ℕ
tables_at = routes_at + routes_size

-- the words of the three lists, 9,507
abbrev pub base_size : ℕ
base_size = tables_at + table_limit

-- the words behind them: the change count's low and high word, and a row count for each place in the list of tables
abbrev pub count_size : ℕ
count_size = 2

abbrev pub row_counts_at : ℕ
row_counts_at = base_size + count_size

abbrev pub behind_size : ℕ
behind_size = count_size + table_limit

abbrev pub state_size : ℕ
state_size = base_size + behind_size

-- unused rows are zero
unfoldable pub encode : State → List ℕ
encode st =
    length st.addresses
    ∷ length st.routes
    ∷ length st.tables
    ∷ (pad addresses_size (flat st.addresses) ++ (pad routes_size (flat st.routes) ++ pad table_limit st.tables))

abbrev pub address_count : List ℕ → ℕ
address_count w = get_or w 0 0

abbrev pub route_count : List ℕ → ℕ
route_count w = get_or w 1 0

abbrev pub table_count : List ℕ → ℕ
table_count w = get_or w 2 0

unfoldable pub decode : List ℕ → State
decode w =
    record {
      addresses = chop Address.size (address_count w) (drop addresses_at w);
      routes = chop Route.size (route_count w) (drop routes_at w);
      tables = span tables_at (table_count w) w;
    }

-- ---- well-formed
-- no number twice
unfoldable pub none_twice : List ℕ → Bool
none_twice l = pairwise (λ a b. not (eqb a b)) l

-- routes are ordered, not strictly, and pairwise distinct
unfoldable pub ordered : List Row → Bool
ordered l = pairwise (λ a b. not (before b a)) l

unfoldable pub distinct : List Row → Bool
distinct l = pairwise (λ a b. not (eq_row a b)) l

-- the lists could be those of a well-formed state, but for their limits
unfoldable pub fit_state : State → Bool
fit_state st =
    all fit_address st.addresses
    && all fit_route st.routes
    && ordered st.routes
    && distinct st.routes
    && none_twice st.tables

-- the words behind those in use
unfoldable pub unused_zero : List ℕ → Bool
unused_zero w =
    all_zero (span (addresses_at + Address.size * address_count w) (addresses_size - Address.size * address_count w) w)
    && all_zero (span (routes_at + Route.size * route_count w) (routes_size - Route.size * route_count w) w)
    && all_zero (span (tables_at + table_count w) (table_limit - table_count w) w)

-- document 01's well-formed: counts keep to their limits, rows and tables are fit, and what isn't in use is 0
unfoldable pub well_formed : List ℕ → Bool
well_formed w =
    leb (address_count w) address_limit
    && leb (route_count w) route_limit
    && leb (table_count w) table_limit
    && fit_state (decode w)
    && unused_zero w

-- ---- what a call sees of the words that it is lent, and what it leaves
-- the words of the lists
abbrev pub base : List ℕ → List ℕ
base w = take base_size w

-- the state that they hold
abbrev pub state_of : List ℕ → State
state_of w = decode (base w)

-- ---- the row counts (document 02, Paper 8)
-- how many of the rows are a table's
abbrev pub rows_of_table : ℕ → List Row → ℕ
rows_of_table t rows = length (keep (λ r. eqb (table r) t) rows)

-- "Store the count beside each listed table, 32 words at the end of the state": at a table's place in the list the number of its rows,
-- 0 at the places not in use. Rows of tables that aren't listed are counted nowhere.
unfoldable pub row_counts : State → List ℕ
row_counts st = pad table_limit (map (λ t. rows_of_table t st.routes) st.tables)

unfoldable pub counts_true : List ℕ → Bool
counts_true w = eq_row (drop row_counts_at w) (row_counts (state_of w))

-- "A wrong count makes a state not well-formed"
abbrev pub formed : List ℕ → Bool
formed w = well_formed (base w) && counts_true w

-- ---- the change count (document 02, Paper 6): 64 bits in the two words behind the lists; any count is well-formed
abbrev pub largest_count : ℕ
largest_count = 18446744073709551615

abbrev pub change_count : List ℕ → ℕ
change_count w = get_or (drop base_size w) 0 0 + get_or (drop base_size w) 1 0 * 4294967296

abbrev pub count_words : ℕ → List ℕ
count_words n = n % 4294967296 ∷ n / 4294967296 ∷ []

-- an address, a row or a table is another one where the state becomes st: the words of the lists aren't the same
unfoldable pub changed : List ℕ → State → Bool
changed w st = not (eq_row (base w) (encode st))

-- "It goes up by one for each call, refused or not, that changes an address, a row or a table, and stops at its largest value": the
-- count's words after a call on w, by whether it changes one
unfoldable pub counted : Bool → List ℕ → List ℕ
counted changes w =
    cond (changes && ltb (change_count w) largest_count) (count_words (suc (change_count w))) (span base_size count_size w)

-- the words that a call on w leaves, where the state becomes st
abbrev pub leaves : List ℕ → State → List ℕ
leaves w st = encode st ++ (counted (changed w st) w ++ row_counts st)
