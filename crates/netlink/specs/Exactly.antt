-- The reasons for which a message is refused, and what one that isn't refused before its sizes is: the theorems that 204, 205 and 206 are
-- exactly these stand in proofs/Exactly.antt.
-- Assumes nothing.
use Rattle.std.specs.Prelude.{ℕ, ◌≤◌, ◌<◌, ◌≡◌, Bool, true, ◌||◌, List, ◌∷◌, ◌++◌, length}
use Rattle.std.proofs.Math.Bool.{false}
use Rattle.std.proofs.Math.Option.{none}
use Rattle.netlink.specs.Codes.{rtm_new_addr, inet, ifa_local, rta_metrics}
use Rattle.netlink.specs.Attributes.{Attribute, u16, parsed, attributes, last}
use Rattle.netlink.specs.Reader.{message_length, message_type, family, is_address, is_route, attributes_at, body, sized_in}

-- ---- the reasons
-- the bytes begin with an attribute's header, whose length is below its four bytes or passes the end
pub data BadAttribute (l : List ℕ) : Type 0 where
  below-header : 4 ≤ length l → u16 l 0 < 4 → BadAttribute l
  past_end : 4 ≤ length l → length l < u16 l 0 → BadAttribute l

-- the bytes behind the last whole attribute
abbrev pub spare : List ℕ → List ℕ
spare l = (parsed l).spare

-- one of the four types
abbrev pub known : ℕ → Bool
known t = is_address t || is_route t

pub data BadLength (m : List ℕ) : Type 0 where
  short : length m < 16 → BadLength m
  -- the header's own: below the header, or past the end
  below : message_length m < 16 → BadLength m
  past : length m < message_length m → BadLength m
  -- below the end of ifaddrmsg or rtmsg
  family-header : known (message_type m) ≡ true → message_length m < attributes_at (message_type m) → BadLength m
  attribute : known (message_type m) ≡ true → BadAttribute (spare (body m)) → BadLength m
  -- inside a route's metrics
  nested : (p q : List Attribute) (a : Attribute) → is_route (message_type m) ≡ true → attributes (body m) ≡ p ++ (a ∷ q)
      → a.code ≡ rta_metrics → BadAttribute (spare a.payload) → BadLength m

pub data Other (m : List ℕ) : Type 0 where
  other-type : known (message_type m) ≡ false → Other m
  other-family : (family m ≡ inet → ⊥) → Other m

pub data WrongSize (m : List ℕ) : Type 0 where
  size : (p q : List Attribute) (a : Attribute) → attributes (body m) ≡ p ++ (a ∷ q) → sized_in (message_type m) a ≡ false → WrongSize m
  no_local : message_type m ≡ rtm_new_addr → last ifa_local (attributes (body m)) ≡ none → WrongSize m

-- ---- a message that isn't refused before its sizes
pub record Shaped (m : List ℕ) : Type 0 where
  pub long : 16 ≤ length m
  pub covers : attributes_at (message_type m) ≤ message_length m
  pub ends : message_length m ≤ length m
  pub one_of-four : known (message_type m) ≡ true
