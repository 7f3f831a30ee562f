-- Paper 10 in literals. Each side of an example is computed.
use Rattle.std.specs.Prelude.{ℕ, suc, ◌-◌, ◌≡◌, refl, List, [], ◌∷◌, map}
use Rattle.lists.specs.Lists.{Row, zeros}
use Rattle.definition.specs.State.{State}
use Rattle.definition.specs.Words.{state_size}
use Rattle.definition.specs.Call.{Reply}
use Rattle.definition.specs.Computing.{computing}
use Rattle.definition.specs.Examples.{ip, reply}
use Rattle.definition_many.specs.Many.{answers, rows_weighed, lookup4_many_call}

-- a route: its table, destination, length, tos and kind
abbrev row : ℕ → ℕ → ℕ → ℕ → ℕ → Row
row table dst len tos kind = table ∷ dst ∷ len ∷ tos ∷ 0 ∷ kind ∷ 4 ∷ 0 ∷ zeros 24

-- in 254 10.0.0.0/8 and in it a row with a tos, a throw and, behind them, an unreachable row of 255; rows of 253 and of a private table
abbrev ten : Row
ten = row 254 (ip 10 0 0 0) 8 0 1

abbrev marked : Row
marked = row 254 (ip 10 2 0 0) 16 8 1

abbrev throwing : Row
throwing = row 254 (ip 10 2 0 0) 16 0 9

abbrev below : Row
below = row 253 (ip 10 2 3 0) 24 0 1

abbrev own : Row
own = row 7 (ip 10 3 0 0) 16 0 6

abbrev beside : Row
beside = row 253 (ip 10 4 0 0) 16 0 1

abbrev lost : Row
lost = row 255 (ip 10 9 0 0) 16 0 7

abbrev far : Row
far = row 253 (ip 192 0 2 0) 24 0 1

abbrev routes : List Row
routes = ten ∷ marked ∷ throwing ∷ below ∷ own ∷ beside ∷ lost ∷ far ∷ []

-- with 253 listed, and without
abbrev listing : State
listing = record { addresses = []; routes = routes; tables = 254 ∷ 253 ∷ 7 ∷ [] }

abbrev without253 : State
without253 = record { addresses = []; routes = routes; tables = 254 ∷ 255 ∷ 7 ∷ [] }

-- what is weighed and answered
pub record Weighing : Type 0 where
  pub state : State
  pub destinations : List ℕ
  pub rows : ℕ
  pub answers : List Row

pub record Weighs : Type 0 where
  pub rows : ℕ
  pub answers : List Row

abbrev given : Weighing → Weighs
given e = record { rows = rows_weighed e.state e.destinations; answers = answers e.state e.destinations }

abbrev said : Weighing → Weighs
said e = record { rows = e.rows; answers = e.answers }

unfoldable pub weighings : List Weighing
weighings =
    -- no destinations: nothing is weighed
    record { state = listing; destinations = []; rows = 0; answers = [] }
    -- the last destination's own row is weighed, those behind it aren't; equal destinations get equal answers; 253 is not walked
    ∷ record {
      state = listing;
      destinations = ip 10 0 0 0 ∷ ip 10 0 0 0 ∷ [];
      rows = 1;
      answers = (0 ∷ ten) ∷ (0 ∷ ten) ∷ [];
    }
    -- a throw leads on to 253, whose rows are weighed up to the last destination that does, not up to the last of all: four rows of 254
    -- and 255, one of 253; 7 is private, so 10.3.0.1 is ten's
    ∷ record {
      state = listing;
      destinations = ip 9 255 255 255 ∷ ip 10 2 3 4 ∷ ip 10 2 4 4 ∷ ip 10 3 0 1 ∷ ip 10 9 1 1 ∷ [];
      rows = 5;
      answers = (101 ∷ zeros 32) ∷ (0 ∷ below) ∷ (101 ∷ zeros 32) ∷ (0 ∷ ten) ∷ (113 ∷ zeros 32) ∷ [];
    }
    -- .. and to none while 253 isn't listed
    ∷ record {
      state = without253;
      destinations = ip 10 2 3 4 ∷ ip 192 0 2 1 ∷ [];
      rows = 4;
      answers = (101 ∷ zeros 32) ∷ (101 ∷ zeros 32) ∷ [];
    }
    -- the last destination leads on: all rows of 253 up to it
    ∷ record { state = listing; destinations = ip 192 0 2 1 ∷ []; rows = 7; answers = (0 ∷ far) ∷ [] }
    ∷ []

pub weighs_as_said : map given weighings ≡ map said weighings
unfolding weighings answers rows_weighed computing
weighs_as_said = refl

-- ---- refusals
-- a state without an address, a row or a table; one that isn't well-formed, with a count of addresses over 64
abbrev nothing : List ℕ
nothing = zeros state_size

abbrev broken : List ℕ
broken = 65 ∷ zeros (state_size - 1)

unfoldable pub refusals : List Reply
refusals =
    -- 200: another state's length, answers without room, also for more than 256
    (lookup4_many_call 33 (0 ∷ []) (zeros (suc state_size))).reply
    ∷ (lookup4_many_call 65 (5 ∷ 4 ∷ []) broken).reply
    ∷ (lookup4_many_call 8480 (zeros 257) broken).reply
    -- 201, before 210 and 211
    ∷ (lookup4_many_call 66 (5 ∷ 4 ∷ []) broken).reply
    ∷ (lookup4_many_call 8481 (zeros 257) broken).reply
    -- 210, before 211
    ∷ (lookup4_many_call 8481 (zeros 257) nothing).reply
    ∷ (lookup4_many_call 8481 (1 ∷ zeros 256) nothing).reply
    -- 211
    ∷ (lookup4_many_call 66 (5 ∷ 4 ∷ []) nothing).reply
    -- none of them: no destinations, equal ones
    ∷ (lookup4_many_call 0 [] nothing).reply
    ∷ (lookup4_many_call 70 (5 ∷ 5 ∷ []) nothing).reply
    ∷ []

pub refusals_as_said : refusals
    ≡ reply 200 0 0 0 []
    ∷ reply 200 0 0 0 []
    ∷ reply 200 0 0 0 []
    ∷ reply 201 0 0 0 []
    ∷ reply 201 0 0 0 []
    ∷ reply 210 0 0 0 []
    ∷ reply 210 0 0 0 []
    ∷ reply 211 0 0 0 []
    ∷ reply 0 0 0 0 []
    ∷ reply 0 0 0 0 ((101 ∷ zeros 32) ∷ (101 ∷ zeros 32) ∷ [])
    ∷ []
unfolding refusals lookup4_many_call answers rows_weighed computing
refusals_as_said = refl
