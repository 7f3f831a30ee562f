-- A run of the code on bytes, as its caller sees it, and the claim of two runs about it. The contract of each public call on bytes
-- (crate interface4) is what Made says: where there are as many bytes as there must be, it is the call on their words, given back as bytes.
use Rattle.std.specs.Prelude.{ℕ, ◌*◌, ◌≡◌, refl, Bool, true, cond, not, ◌&&◌, List, [], ◌∷◌, map, eqb, leb, length, take}
use Rattle.lists.specs.Lists.{flat, put, keep, zeros}
use Rattle.endian.specs.Endian.{words_of, bytes_of}
use Rattle.endian.specs.Laws.{Below}
use Rattle.layout.specs.Route as Route
use Rattle.layout.specs.Request.{add_v4_size, del_v4_size, add_route4_size, del_route4_size}
use Rattle.definition.specs.Words.{state_size}
use Rattle.definition.specs.Call.{Call, Reply, Numbers, numbers, refusal}
use Rattle.definition.specs.Step.{Result, alters, Buffer, unlent, for_events, for_listing, for_row, semantics, step, request_is, event_room, listing_room}
use Rattle.definition.specs.Noninterference.Statement.{Choice, struck}
use Rattle.definition.specs.Noninterference.Public.{Lent, Seen, spared, Equal}

-- ---- on bytes: 200 where there are not as many as there must be
abbrev pub on_bytes : Bool → Reply → Reply
on_bytes fit r = cond fit r (refusal 200)

-- a state's bytes
abbrev pub state_fits : List ℕ → Bool
state_fits b = eqb (length b) (4 * state_size)

-- a row handed over, of n bytes; other bytes are no row
abbrev pub row_words : ℕ → List ℕ → List ℕ
row_words n b = cond (eqb (length b) n) (words_of b) []

-- the state's bytes after a changing call
abbrev pub state_on : Bool → List ℕ → List ℕ → List ℕ
state_on fit b w = cond fit (bytes_of w) b

-- ---- a call on bytes: `Call` with its request or row as bytes, and its buffer by how many bytes
-- what it hands over beside the state: nothing, a request of so many words, or a row of so many, where other bytes are no row
pub data Handed : Type 0 where
  nothing : Handed
  request : (size : ℕ) (bytes : List ℕ) → Handed
  row : (size : ℕ) (bytes : List ℕ) → Handed

-- the room that it needs of the bytes that it is lent: no buffer, or one of at least so many words
pub data Room : Type 0 where
  without : Room
  at_least : (size bytes : ℕ) → Room

abbrev pub room_for : Buffer → Room
room_for unlent = without
room_for (for_events bytes) = at_least event_room bytes
room_for (for_listing bytes) = at_least listing_room bytes
room_for (for_row bytes) = at_least Route.size bytes

abbrev pub room_on : Call → Room
room_on c = room_for (semantics c).lent

-- what a call on words checks of the words in their place. A request has more than the one that is left of it where bytes lack
-- (request_in)
abbrev pub handed_is : Handed → List ℕ → Bool → Bool
handed_is nothing words rest = rest
handed_is (request size q) words rest = leb 2 size && (request_is size words && rest)
handed_is (row size b) words rest = rest

abbrev pub room_is : Room → ℕ → Bool
room_is without words = true
room_is (at_least size bytes) words = leb size words

-- of a call on words: whether it changes the state, and whether it takes what it is handed and lent
pub record Traits : Type 0 where
  pub changes : Bool
  pub buffers : Bool

abbrev pub traits : Call → Traits
traits c = record { changes = alters (semantics c).action; buffers = (semantics c).checks.buffers }

-- The one table: what each call hands over, and the call on words that is made of the words handed and the words of room. That one is
-- of the same kind, and checks just these.
pub record Marshalled (c : Call) : Type 0 where
  pub handed : Handed
  pub call : List ℕ → ℕ → Call
  pub same : (words : List ℕ) (room : ℕ) → traits (call words room)
      ≡ record { changes = (traits c).changes; buffers = handed_is handed words (room_is (room_on c) room) }

abbrev pub marshalled : (c : Call) → Marshalled c
marshalled (Call.up events now) = record { handed = nothing; call = λ w room. Call.up room now; same = λ w room. refl }
marshalled (Call.down events) = record { handed = nothing; call = λ w room. Call.down room; same = λ w room. refl }
marshalled (Call.add_v4 q events now) = record { handed = request add_v4_size q; call = λ w room. Call.add_v4 w room now; same = λ w room. refl }
marshalled (Call.del_v4 q events) = record { handed = request del_v4_size q; call = λ w room. Call.del_v4 w room; same = λ w room. refl }
marshalled (Call.expire events now allowance) = record { handed = nothing; call = λ w room. Call.expire room now allowance; same = λ w room. refl }
marshalled (Call.add_route4 q events) = record { handed = request add_route4_size q; call = λ w room. Call.add_route4 w room; same = λ w room. refl }
marshalled (Call.del_route4 q events) = record { handed = request del_route4_size q; call = λ w room. Call.del_route4 w room; same = λ w room. refl }
marshalled (Call.dump4 listing) = record { handed = nothing; call = λ w room. Call.dump4 room; same = λ w room. refl }
marshalled (Call.lookup4 rowRoom ip) = record { handed = nothing; call = λ w room. Call.lookup4 room ip; same = λ w room. refl }
marshalled (Call.lookup4_flow rowRoom ip tos oif) =
    record { handed = nothing; call = λ w room. Call.lookup4_flow room ip tos oif; same = λ w room. refl }
marshalled (Call.local4 ip) = record { handed = nothing; call = λ w room. Call.local4 ip; same = λ w room. refl }
marshalled (Call.source4 r ip) = record { handed = row Route.size r; call = λ w room. Call.source4 w ip; same = λ w room. refl }
marshalled (Call.source ip) = record { handed = nothing; call = λ w room. Call.source ip; same = λ w room. refl }
marshalled (Call.select4 dstPresent dst scope) =
    record { handed = nothing; call = λ w room. Call.select4 dstPresent dst scope; same = λ w room. refl }

-- a state, and a buffer of at least n bytes
abbrev pub with : List ℕ → ℕ → ℕ → Bool
with s n room = state_fits s && leb n room

abbrev pub lends : Room → List ℕ → Bool
lends without s = state_fits s
lends (at_least size bytes) s = with s (4 * size) bytes

abbrev pub hands : Handed → Bool → Bool
hands nothing rest = rest
hands (request size q) rest = eqb (length q) (4 * size) && rest
hands (row size b) rest = rest

-- there are as many bytes as there must be
abbrev pub suffices : Call → List ℕ → Bool
suffices c s = hands (marshalled c).handed (lends (room_on c) s)

-- then it is this call on words
abbrev pub given : Handed → List ℕ
given nothing = []
given (request size q) = words_of q
given (row size b) = row_words (4 * size) b

abbrev pub least : Room → ℕ
least without = 0
least (at_least size bytes) = size

abbrev pub inner : Call → Call
inner c = (marshalled c).call (given (marshalled c).handed) (least (room_on c))

-- the words that a call leaves and writes are of 32 bits: the code holds them as u32
pub record Narrow (r : Result) : Type 0 where
  pub words : Below 4294967296 r.words
  pub rows : Below 4294967296 (flat r.reply.rows)

-- the call c, on a state of the bytes s, lent a buffer of the bytes b, gave the numbers n, and left the bytes s' and the buffer b'
pub record Made (c : Call) (s b : List ℕ) (n : Numbers) (s' b' : List ℕ) : Type 0 where
  pub lent : Lent (semantics c).lent b
  pub reply : n ≡ numbers (on_bytes (suffices c s) (step (inner c) (words_of s)).reply)
  pub state : s' ≡ cond (alters (semantics c).action) (state_on (suffices c s) s (step (inner c) (words_of s)).words) s
  pub buffer : b' ≡ put 0 (bytes_of (flat (on_bytes (suffices c s) (step (inner c) (words_of s)).reply).rows)) b
  pub narrow : suffices c s ≡ true → Narrow (step (inner c) (words_of s))

-- calls one after the other, each on the bytes that the last one left and lent a buffer with whatever bytes in it
pub data Ran : List Call → List ℕ → List Seen → List ℕ → Type 0 where
  none : (s : List ℕ) → Ran [] s [] s
  next : (c : Call) (cs : List Call) (s b : List ℕ) (x : Seen) (s' : List ℕ) (xs : List Seen) (s'' : List ℕ) → Made c s b x.numbers s' x.buffer → Ran cs s' xs s'' → Ran (c ∷ cs) s (x ∷ xs) s''

-- ---- two runs
-- the call by its words. Of a request that hasn't its bytes the first word is left, which names the table, and nothing of a buffer
-- that doesn't suffice: both are refused
abbrev pub request_in : ℕ → List ℕ → List ℕ
request_in k q = cond (eqb (length q) (4 * k)) (words_of q) (take 1 (words_of q))

abbrev pub room_in : ℕ → ℕ → ℕ
room_in k n = cond (leb (4 * k) n) k 0

abbrev pub handed_in : Handed → List ℕ
handed_in nothing = []
handed_in (request size q) = request_in size q
handed_in (row size b) = row_words (4 * size) b

abbrev pub lent_in : Room → ℕ
lent_in without = 0
lent_in (at_least size bytes) = room_in size bytes

abbrev pub as_words : Call → Call
as_words c = (marshalled c).call (handed_in (marshalled c).handed) (lent_in (room_on c))

-- what is seen, its buffer read as words
abbrev pub in_words : Seen → Seen
in_words x = record { numbers = x.numbers; buffer = words_of x.buffer }

-- the same calls with the same bytes, but for those struck
abbrev pub Agree : (ℕ → Bool) → List Call → List Call → Type 0
Agree chosen cs ds = keep (λ c. not (struck chosen (as_words c))) cs ≡ keep (λ c. not (struck chosen (as_words c))) ds

abbrev pub empty_bytes : List ℕ
empty_bytes = zeros (4 * state_size)

-- The claim, of two whole runs of the code on bytes: the answers read from the buffers, and what is read from the states, are equal.
abbrev pub ByteRuns : Type 0
ByteRuns =
    (chosen : ℕ → Bool) →
    Choice chosen →
    (cs ds : List Call) (xs ys : List Seen) (s t : List ℕ) →
    Agree chosen cs ds →
    Ran cs empty_bytes xs s →
    Ran ds empty_bytes ys t →
    spared xs ≡ true →
    spared ys ≡ true →
    Equal chosen (map as_words cs) (map as_words ds) (map in_words xs) (map in_words ys) (words_of s) (words_of t)
