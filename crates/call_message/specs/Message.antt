-- The call that reads a message into a request (document 02, Paper 1), for any bytes.
use Rattle.std.specs.Prelude.{ℕ, ◌*◌, cond, List, [], ◌∷◌, leb, length}
use Rattle.lists.specs.Lists.{Row}
use Rattle.layout.specs.Request.{del_route4_size}
use Rattle.netlink.specs.Reader.{Answer, refused, asked, read}
use Rattle.definition.specs.Call.{Reply, refusal}

-- a reply with a request: its type, how many words it has, and the words as the one row
abbrev pub requested : ℕ → Row → Reply
requested t q = record { number = 0; present = 0; value = t; second = length q; rows = q ∷ [] }

abbrev pub replied : Answer → Reply
replied (refused n) = refusal n
replied (asked t q) = requested t q

-- the request goes into a buffer with room for the longest one
unfoldable pub read_call : (room up : ℕ) (message : List ℕ) → Reply
read_call room up message = cond (leb del_route4_size room) (replied (read up message)) (refusal 200)

-- on bytes: a buffer with room for as many words, which are given back as bytes
abbrev pub read_on_bytes : (room up : ℕ) (message : List ℕ) → Reply
read_on_bytes room up message = cond (leb (4 * del_route4_size) room) (read_call del_route4_size up message) (refusal 200)
