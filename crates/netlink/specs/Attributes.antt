-- Attributes in a list of bytes, as netlink(7) lays them out: two bytes of length with the header's four, two bytes of code, the
-- payload, and padding up to a multiple of four. Numbers stand with the lowest byte first.
use Rattle.std.specs.Prelude.{ℕ, zero, suc, ◌+◌, ◌-◌, ◌*◌, ◌/◌, ◌%◌, Bool, cond, ◌&&◌, List, [], ◌∷◌, eqb, leb, ltb, length, get_or, take, drop}
use Rattle.std.proofs.Math.Option.{Option, none, some}

pub record Attribute : Type 0 where
  pub code : ℕ
  pub payload : List ℕ

-- the attributes at the start of some bytes, and the bytes behind the last of them
pub record Parsed : Type 0 where
  pub attributes : List Attribute
  pub spare : List ℕ

-- two bytes as a number
abbrev pub u16 : List ℕ → ℕ → ℕ
u16 l i = get_or l i 0 + 256 * get_or l (i + 1) 0

-- up to a multiple of four
abbrev pub padded : ℕ → ℕ
padded n = (n + 3) / 4 * 4

-- an attribute begins the bytes: its length covers its header and doesn't pass the end
unfoldable pub whole : List ℕ → Bool
whole l = leb 4 (u16 l 0) && leb (u16 l 0) (length l)

-- that attribute; the top two bits of the code don't count
unfoldable pub first : List ℕ → Attribute
first l = record { code = u16 l 2 % 16384; payload = take (u16 l 0 - 4) (drop 4 l) }

abbrev pub more : Attribute → Parsed → Parsed
more a p = record { attributes = a ∷ p.attributes; spare = p.spare }

-- what stands k bytes further on: one attribute after the other as long as one begins (Laws has the equation without the k)
unfoldable pub parsed_from : ℕ → List ℕ → Parsed
parsed_from k [] = record { attributes = []; spare = [] }
parsed_from (suc k) (b ∷ l) = parsed_from k l
parsed_from zero (b ∷ l) =
    cond (whole (b ∷ l))
    (more (first (b ∷ l)) (parsed_from (padded (u16 (b ∷ l) 0) - 1) l))
    (record { attributes = []; spare = b ∷ l })

abbrev pub parsed : List ℕ → Parsed
parsed l = parsed_from 0 l

abbrev pub attributes : List ℕ → List Attribute
attributes l = (parsed l).attributes

-- every length is right: behind the attributes stand at most three spare bytes
abbrev pub right : List ℕ → Bool
right l = ltb (length (parsed l).spare) 4

-- the payload of the last attribute of a code
unfoldable pub last_after : ℕ → Option (List ℕ) → List Attribute → Option (List ℕ)
last_after c o [] = o
last_after c o (a ∷ l) = last_after c (cond (eqb a.code c) (some a.payload) o) l

abbrev pub last : ℕ → List Attribute → Option (List ℕ)
last c l = last_after c none l
