-- The number that refuses a message, in steps: its header, its type, ifaddrmsg or rtmsg, and what the walk over its attributes finds.
use Rattle.std.specs.Prelude.{ℕ, ◌-◌, Bool, ◌&&◌, ◌||◌, cond, List, eqb, leb, take, drop}
use Rattle.netlink.specs.Codes.{inet}
use Rattle.lists.specs.Lists.{all}
use Rattle.netlink.specs.Attributes.{attributes, right}
use Rattle.netlink.specs.Reader.{family, is_address, attributes_at, nested_right, sizes}

-- a family, by whether the lengths and the sizes are right
abbrev pub judged : ℕ → Bool → Bool → ℕ
judged f lengths sizes = cond lengths (cond (eqb f inet) (cond sizes 0 206) 205) 204

-- the bytes of the attributes
abbrev pub body_of : ℕ → List ℕ → ℕ → List ℕ
body_of t m end = take (end - attributes_at t) (drop (attributes_at t) m)

-- the lengths, for a type and the bytes of the attributes
abbrev pub lengths_of : ℕ → List ℕ → Bool
lengths_of t b = right b && (is_address t || all nested_right (attributes b))

-- of a message of a type, whose header says where it ends
abbrev pub number_for : ℕ → List ℕ → ℕ → ℕ
number_for t m end =
    cond (leb (attributes_at t) end) (judged (family m) (lengths_of t (body_of t m end)) (sizes t (attributes (body_of t m end)))) 204
