-- What the functions of the attributes answer.
use Rattle.std.specs.Prelude.{ℕ, ◌≡◌, Bool, List, Option, None, Some, ltb, length, drop}
use Rattle.netlink.specs.Attributes.{more, parsed, attributes}
use Rattle.netlink.specs.Attributes as Reader
use Rattle.netlink.specs.Laws.{end}
use Rattle.netlink_attributes.specs.declared.Attribute.{Attribute}
use Rattle.netlink_attributes.specs.declared.Attributes.{Attributes}

-- an attribute that was read, as the definitions have it
abbrev pub shown : Attribute → Reader.Attribute
shown a = record { code = a.code; payload = a.payload.now }

-- the bytes that are left
abbrev pub rest : Attributes → List ℕ
rest s = drop s.at s.bytes.now

-- they are no attribute's header
abbrev pub short : List ℕ → Bool
short l = ltb (length l) 4

-- the attributes that are still to come
abbrev pub ahead : Attributes → List Reader.Attribute
ahead s = attributes (rest s)

-- the first attribute is given, or none begins and nothing moves
abbrev pub Gives : Attributes → Option Attribute → Attributes → Type 0
Gives s None t = (parsed (rest s) ≡ end (rest s)) × (rest t ≡ rest s)
Gives s (Some a) t = parsed (rest s) ≡ more (shown a) (parsed (rest t))
