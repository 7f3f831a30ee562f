-- A message as a list of bytes, written. What a header, an attribute and its padding are is what the reader reads
-- (netlink/specs/Attributes, Reader).
use Rattle.std.specs.Prelude.{ℕ, ◌+◌, ◌-◌, ◌/◌, ◌%◌, Bool, true, cond, ◌&&◌, List, [], ◌∷◌, ◌++◌, ltb, length}
use Rattle.lists.specs.Lists.{each, zeros}
use Rattle.netlink.specs.Attributes.{Attribute, padded}

-- ---- numbers: two and four bytes, the lowest first; an address, the highest first
abbrev pub bytes2 : ℕ → List ℕ
bytes2 n = n % 256 ∷ n / 256 % 256 ∷ []

abbrev pub bytes4 : ℕ → List ℕ
bytes4 n = n % 256 ∷ n / 256 % 256 ∷ n / 65536 % 256 ∷ n / 16777216 % 256 ∷ []

abbrev pub address_bytes : ℕ → List ℕ
address_bytes n = n / 16777216 % 256 ∷ n / 65536 % 256 ∷ n / 256 % 256 ∷ n % 256 ∷ []

-- ---- an attribute: its length with the header's four, its code ("Codes bear no flag bits"), the payload, and zeros up to a
-- multiple of four ("padding is zero and counts in the message's length")
unfoldable pub written : Attribute → List ℕ
written a =
    bytes2 (4 + length a.payload)
    ++ (bytes2 a.code ++ (a.payload ++ zeros (padded (length a.payload) - length a.payload)))

-- it can be written: the code leaves the top two bits free, and the length has two bytes
abbrev pub writable : Attribute → Bool
writable a = ltb a.code 16384 && ltb (length a.payload + 4) 65536

-- ---- what a message may hold: an attribute, and whether it is there
pub record Entry : Type 0 where
  pub attribute : Attribute
  pub present : Bool

abbrev pub when : Bool → ℕ → List ℕ → Entry
when b c p = record { attribute = record { code = c; payload = p }; present = b }

abbrev pub always : ℕ → List ℕ → Entry
always c p = when true c p

-- absent values give no attribute
abbrev pub present : Entry → List Attribute
present e = cond e.present (e.attribute ∷ []) []

abbrev pub presents : List Entry → List Attribute
presents t = each present t

-- the bytes of the attributes that are there, one behind the other
unfoldable pub written_all : List Entry → List ℕ
written_all t = each written (presents t)

-- ---- netlink's header (length, type, flags, sequence, port), then ifaddrmsg or rtmsg, then attributes
unfoldable pub message : (type flags sequence port : ℕ) (head : List ℕ) (t : List Entry) → List ℕ
message type flags sequence port head t =
    bytes4 (16 + length head + length (written_all t))
    ++ (bytes2 type ++ (bytes2 flags ++ (bytes4 sequence ++ (bytes4 port ++ (head ++ written_all t)))))
