-- The fourteen calls as data, and what they reply.
use Rattle.std.specs.Prelude.{ℕ, List, [], ◌∷◌, length}
use Rattle.std.proofs.Math.Option.{Option, none, some}
use Rattle.lists.specs.Lists.{Row}
use Rattle.definition.specs.Reference.Lookup.{Found}

-- A call with its arguments: requests and rows as words, an event or listing buffer by its length alone. A row buffer (rowRoom)
-- is where a lookup's row goes. The clock and the allowance of expire are nanoseconds.
pub data Call : Type 0 where
  up : (events now : ℕ) → Call
  down : (events : ℕ) → Call
  add_v4 : (request : Row) (events now : ℕ) → Call
  del_v4 : (request : Row) (events : ℕ) → Call
  expire : (events now allowance : ℕ) → Call
  add_route4 : (request : Row) (events : ℕ) → Call
  del_route4 : (request : Row) (events : ℕ) → Call
  dump4 : (listing : ℕ) → Call
  lookup4 : (rowRoom ip : ℕ) → Call
  lookup4_flow : (rowRoom ip tos oif : ℕ) → Call
  local4 : (ip : ℕ) → Call
  source4 : (row : Row) (ip : ℕ) → Call
  source : (ip : ℕ) → Call
  select4 : (dstPresent dst scope : ℕ) → Call

-- A reply: the number is 0, or the refusal's number and then all else is 0. What the call wrote into the buffer that it was lent,
-- from its start, are the rows: events, a listing, or a lookup's one row.
pub record Reply : Type 0 where
  pub number : ℕ
  pub present : ℕ
  pub value : ℕ
  pub second : ℕ
  pub rows : List Row

abbrev pub refusal : ℕ → Reply
refusal n = record { number = n; present = 0; value = 0; second = 0; rows = [] }

abbrev pub valued : ℕ → Reply
valued v = record { number = 0; present = 0; value = v; second = 0; rows = [] }

abbrev pub written : List Row → Reply
written rows = record { number = 0; present = 0; value = length rows; second = 0; rows = rows }

abbrev pub optionally : Option ℕ → Reply
optionally none = record { number = 0; present = 0; value = 0; second = 0; rows = [] }
optionally (some v) = record { number = 0; present = 1; value = v; second = 0; rows = [] }

abbrev pub found_row : Found → Reply
found_row (Found.route r) = record { number = 0; present = 0; value = 0; second = 0; rows = r ∷ [] }
found_row (Found.no_route n) = refusal n

-- the numbers of a reply; the rows that a call wrote stand in the buffer that it was lent
pub record Numbers : Type 0 where
  pub number : ℕ
  pub present : ℕ
  pub value : ℕ
  pub second : ℕ

abbrev pub numbers : Reply → Numbers
numbers r = record { number = r.number; present = r.present; value = r.value; second = r.second }

-- the reply of these numbers and rows
abbrev pub replied : Numbers → List Row → Reply
replied n rows = record { number = n.number; present = n.present; value = n.value; second = n.second; rows = rows }
