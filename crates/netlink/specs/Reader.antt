-- The reader of one rtnetlink message (document 02, Paper 1): its lengths, its type and family, its sizes, its fields, in that order.
use Rattle.std.specs.Prelude.{ℕ, ◌+◌, ◌-◌, ◌*◌, Bool, true, false, cond, ◌&&◌, ◌||◌, not, List, [], ◌∷◌, ◌++◌, map, eqb, leb, ltb, length, get_or, take, drop}
use Rattle.std.proofs.Math.Option.{Option, none, some}
use Rattle.lists.specs.Lists.{Row, all, any, keep, each, until, zeros, pad}
use Rattle.layout.specs.Flags.{has_bit}
use Rattle.netlink.specs.Codes.{rtm_new_addr, rtm_del_addr, rtm_new_route, rtm_del_route, inet, replace_bit, excl_bit, rtax_max}
use Rattle.netlink.specs.Codes.{ifa_address, ifa_local, ifa_label, ifa_broadcast, ifa_cacheinfo, ifa_flags, ifa_rt_priority, ifa_proto}
use Rattle.netlink.specs.Codes.{rta_dst, rta_oif, rta_gateway, rta_priority, rta_prefsrc, rta_metrics, rta_table}
use Rattle.netlink.specs.Attributes.{Attribute, u16, attributes, right, last}

-- ---- numbers
-- four bytes from a place on
abbrev pub u32 : List ℕ → ℕ → ℕ
u32 l i = u16 l i + 65536 * u16 l (i + 2)

-- an address stands with the highest byte first
abbrev pub address : List ℕ → ℕ
address p = get_or p 3 0 + 256 * get_or p 2 0 + 65536 * get_or p 1 0 + 16777216 * get_or p 0 0

abbrev pub number : List ℕ → ℕ
number p = u32 p 0

abbrev pub byte : List ℕ → ℕ
byte p = get_or p 0 0

abbrev pub flag : Bool → ℕ
flag b = cond b 1 0

abbrev pub forever : ℕ
forever = 0xffff_ffff

-- ---- the header: length, type, flags, sequence, port; then ifaddrmsg or rtmsg, which begins with the family
abbrev pub message_length : List ℕ → ℕ
message_length m = u32 m 0

abbrev pub message_type : List ℕ → ℕ
message_type m = u16 m 4

abbrev pub message_flags : List ℕ → ℕ
message_flags m = u16 m 6

abbrev pub family : List ℕ → ℕ
family m = get_or m 16 0

abbrev pub is_address : ℕ → Bool
is_address t = eqb t rtm_new_addr || eqb t rtm_del_addr

abbrev pub is_route : ℕ → Bool
is_route t = eqb t rtm_new_route || eqb t rtm_del_route

-- the bytes up to the attributes: netlink's 16, and ifaddrmsg's 8 or rtmsg's 12
abbrev pub attributes_at : ℕ → ℕ
attributes_at t = cond (is_address t) 24 28

-- netlink's header is there, and its length covers it and doesn't pass the end
unfoldable pub headed : List ℕ → Bool
headed m = leb 16 (length m) && leb 16 (message_length m) && leb (message_length m) (length m)

-- the message's bytes from its attributes on; bytes past the message are ignored
abbrev pub body : List ℕ → List ℕ
body m = take (message_length m - attributes_at (message_type m)) (drop (attributes_at (message_type m)) m)

-- ---- lengths: 204
abbrev pub nested_right : Attribute → Bool
nested_right a = not (eqb a.code rta_metrics) || right a.payload

-- none is below its header or passes the end, of ifaddrmsg or rtmsg, of an attribute, of one inside a route's metrics
unfoldable pub lengths : List ℕ → Bool
lengths m =
    leb (attributes_at (message_type m)) (message_length m)
    && right (body m)
    && (is_address (message_type m) || all nested_right (attributes (body m)))

-- ---- sizes: 206
-- an attribute that has a field is as long as the field: pairs of a code and its bytes
abbrev pub sized : List (ℕ × ℕ) → Attribute → Bool
sized table a = all (λ s. not (eqb a.code s.0) || eqb (length a.payload) s.1) table

abbrev pub fours : List ℕ → List (ℕ × ℕ)
fours l = map (λ c. (c, 4)) l

-- a label ends at its first zero byte
abbrev pub label : List ℕ → List ℕ
label p = until (eqb 0) p

abbrev pub labelled : Attribute → Bool
labelled a = not (eqb a.code ifa_label) || leb (length (label a.payload)) 15

-- one of type 0 is skipped, and a type above 17 is no metric
abbrev pub is_metric : Attribute → Bool
is_metric a = leb 1 a.code && leb a.code rtax_max

abbrev pub metric_sized : Attribute → Bool
metric_sized a = not (is_metric a) || eqb (length a.payload) 4

abbrev pub metrics_sized : Attribute → Bool
metrics_sized a = not (eqb a.code rta_metrics) || all metric_sized (attributes a.payload)

-- what has a field, by the message's type
abbrev pub sized_in : ℕ → Attribute → Bool
sized_in t a =
    cond (eqb t rtm_new_addr)
    (sized ((ifa_cacheinfo, 16) ∷ (ifa_proto, 1) ∷ fours (ifa_address ∷ ifa_local ∷ ifa_broadcast ∷ ifa_flags ∷ ifa_rt_priority ∷ [])) a && labelled a)
    (cond (eqb t rtm_del_addr) (sized (fours (ifa_address ∷ ifa_local ∷ [])) a && labelled a)
    (sized (fours (rta_dst ∷ rta_oif ∷ rta_gateway ∷ rta_priority ∷ rta_prefsrc ∷ rta_table ∷ [])) a && metrics_sized a))

abbrev pub given : Option (List ℕ) → Bool
given none = false
given (some p) = true

-- a new address has a local one
unfoldable pub sizes : ℕ → List Attribute → Bool
sizes t l = all (sized_in t) l && (not (eqb t rtm_new_addr) || given (last ifa_local l))

-- ---- fields
abbrev pub or_else : (List ℕ → ℕ) → ℕ → Option (List ℕ) → ℕ
or_else f d none = d
or_else f d (some p) = f p

-- present, value
abbrev pub optional : (List ℕ → ℕ) → Option (List ℕ) → Row
optional f o = flag (given o) ∷ or_else f 0 o ∷ []

-- sixteen bytes as four words
abbrev pub words4 : List ℕ → Row
words4 l = u32 l 0 ∷ u32 l 4 ∷ u32 l 8 ∷ u32 l 12 ∷ []

abbrev pub label_words : List ℕ → Row
label_words l = length l ∷ words4 l

abbrev pub lo : List ℕ
lo = 108 ∷ 111 ∷ []

abbrev pub label_or : List ℕ → Option (List ℕ) → List ℕ
label_or d none = d
label_or d (some p) = label p

-- cache information: preferred, valid, two stamps
abbrev pub preferred_in : List ℕ → ℕ
preferred_in p = u32 p 0

abbrev pub valid_in : List ℕ → ℕ
valid_in p = u32 p 4

-- the request of `add_v4`. ifaddrmsg: family, prefix, flags, scope, four bytes of device. Linux replaces where the header's flags
-- have REPLACE and not EXCL
unfoldable pub new_addr : ℕ → List ℕ → List Attribute → Row
new_addr up m l =
    or_else address 0 (last ifa_local l)
    ∷ or_else address (or_else address 0 (last ifa_local l)) (last ifa_address l)
    ∷ get_or m 17 0
    ∷ (optional address (last ifa_broadcast l)
    ++ (get_or m 19 0
    ∷ or_else number (get_or m 18 0) (last ifa_flags l)
    ∷ or_else byte 0 (last ifa_proto l)
    ∷ (label_words (label_or lo (last ifa_label l))
    ++ (or_else number 0 (last ifa_rt_priority l)
    ∷ or_else valid_in forever (last ifa_cacheinfo l)
    ∷ or_else preferred_in forever (last ifa_cacheinfo l)
    ∷ flag (has_bit replace_bit (message_flags m) && not (has_bit excl_bit (message_flags m)))
    ∷ up
    ∷ []))))

-- the request of `del_v4`: what is missing sets no condition
unfoldable pub del_addr : List ℕ → List Attribute → Row
del_addr m l =
    optional address (last ifa_local l)
    ++ (optional address (last ifa_address l)
    ++ (get_or m 17 0 ∷ flag (given (last ifa_label l)) ∷ label_words (label_or [] (last ifa_label l))))

-- what both requests of a route begin with. rtmsg: family, length, source length, tos, table, proto, scope, kind, four bytes of flags
abbrev pub route_words : List ℕ → List Attribute → Row
route_words m l =
    or_else number (get_or m 20 0) (last rta_table l)
    ∷ or_else address 0 (last rta_dst l)
    ∷ get_or m 17 0
    ∷ get_or m 19 0
    ∷ or_else number 0 (last rta_priority l)
    ∷ get_or m 23 0
    ∷ get_or m 21 0
    ∷ get_or m 22 0
    ∷ (optional address (last rta_prefsrc l)
    ++ (optional address (last rta_gateway l)
    ++ (or_else number 0 (last rta_oif l) ∷ [])))

-- the attributes inside the last of the metrics
abbrev pub nested : Option (List ℕ) → List Attribute
nested none = []
nested (some p) = attributes p

abbrev pub metrics_in : List Attribute → List Attribute
metrics_in l = nested (last rta_metrics l)

-- a metric of a type above 17
abbrev pub unknown_metric : List Attribute → Bool
unknown_metric l = any (λ a. ltb rtax_max a.code) l

-- the types of the metrics; type t is the metric of index t - 1
abbrev pub types : List ℕ
types = 1 ∷ 2 ∷ 3 ∷ 4 ∷ 5 ∷ 6 ∷ 7 ∷ 8 ∷ 9 ∷ 10 ∷ 11 ∷ 12 ∷ 13 ∷ 14 ∷ 15 ∷ 16 ∷ 17 ∷ []

abbrev pub metric : List Attribute → ℕ → ℕ
metric l t = or_else number 0 (last t l)

-- the metrics error, and the 17 metrics, which are 0 with it
unfoldable pub metrics_asked : List Attribute → Row
metrics_asked l = cond (unknown_metric l) (22 ∷ zeros 17) (0 ∷ map (metric l) types)

-- the request of `add_route4`
unfoldable pub new_route : ℕ → List ℕ → List Attribute → Row
new_route up m l = route_words m l ++ (u32 m 24 ∷ message_flags m ∷ (metrics_asked (metrics_in l) ++ (up ∷ [])))

-- an index and its value
abbrev pub pair : ℕ → Option (List ℕ) → Row
pair t none = []
pair t (some p) = (t - 1) ∷ number p ∷ []

-- whether there is a list, how many pairs, and the pairs by rising index
unfoldable pub pairs_asked : List Attribute → Row
pairs_asked l =
    cond (unknown_metric l) (zeros 36)
    (1 ∷ length (keep (λ t. given (last t l)) types) ∷ pad 34 (each (λ t. pair t (last t l)) types))

-- the request of `del_route4`
unfoldable pub del_route : List ℕ → List Attribute → Row
del_route m l = route_words m l ++ pairs_asked (metrics_in l)

-- ---- the reader
pub data Answer : Type 0 where
  refused : (number : ℕ) → Answer
  asked : (type : ℕ) (request : Row) → Answer

unfoldable pub request : ℕ → List ℕ → ℕ → List Attribute → Row
request up m t l =
    cond (eqb t rtm_new_addr) (new_addr up m l)
    (cond (eqb t rtm_del_addr) (del_addr m l)
    (cond (eqb t rtm_new_route) (new_route up m l) (del_route m l)))

-- the number that refuses a message, 0 for none: its lengths, then its type and its family; after another type no more is read
unfoldable pub shape_refusal : List ℕ → ℕ
shape_refusal m =
    cond (not (headed m)) 204
    (cond (not (is_address (message_type m) || is_route (message_type m))) 205
    (cond (not (lengths m)) 204
    (cond (eqb (family m) inet) 0 205)))

-- then the sizes of its attributes
unfoldable pub refusal : List ℕ → ℕ
refusal m =
    cond (eqb (shape_refusal m) 0)
    (cond (sizes (message_type m) (attributes (body m))) 0 206)
    (shape_refusal m)

-- `up` is no part of a message: the host's word goes into the requests that have it
unfoldable pub read : ℕ → List ℕ → Answer
read up m =
    cond (eqb (refusal m) 0)
    (asked (message_type m) (request up m (message_type m) (attributes (body m))))
    (refused (refusal m))
