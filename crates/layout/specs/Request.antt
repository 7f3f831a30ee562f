-- The requests that a host hands over as words, and when one is fit (document 01: otherwise 202). Every word is a value of 32 bits;
-- a field that is narrower in the reference keeps to its width, and what is absent is 0.
use Rattle.std.specs.Prelude.{ℕ, ◌+◌, ◌*◌, ◌^◌, Bool, ◌&&◌, not, List, eqb, leb, ltb, get_or, take, drop}
use Rattle.lists.specs.Lists.{Row, all, chop}
use Rattle.layout.specs.Address.{optional, fit_label, prefix, broadcast_present, broadcast, scope, proto, label_length, label}
use Rattle.layout.specs.Route as Route

-- ---- add_v4: the first 14 words of an address row, then these
abbrev pub add_v4_size : ℕ
add_v4_size = 18

abbrev pub valid_asked : Row → ℕ
valid_asked q = get_or q 14 0

abbrev pub preferred_asked : Row → ℕ
preferred_asked q = get_or q 15 0

abbrev pub replace_asked : Row → ℕ
replace_asked q = get_or q 16 0

abbrev pub up_at_add_v4 : Row → ℕ
up_at_add_v4 q = get_or q 17 0

-- every clause gives 202 alike
unfoldable pub fit_add_v4 : Row → Bool
fit_add_v4 q =
    leb (prefix q) 32
    && optional (broadcast_present q) (broadcast q)
    && ltb (scope q) 256
    && ltb (proto q) 256
    && fit_label (label_length q) (label q)
    && leb (replace_asked q) 1
    && leb (up_at_add_v4 q) 1

-- Linux turns down an address that is gone at once, and one that is preferred for longer than it is valid (document 02, Paper 2)
abbrev pub valid_lifetimes : Row → Bool
valid_lifetimes q = not (eqb (valid_asked q) 0) && leb (preferred_asked q) (valid_asked q)

-- ---- del_v4
abbrev pub del_v4_size : ℕ
del_v4_size = 11

abbrev pub local_present : Row → ℕ
local_present q = get_or q 0 0

abbrev pub local_given : Row → ℕ
local_given q = get_or q 1 0

abbrev pub address_present : Row → ℕ
address_present q = get_or q 2 0

abbrev pub address_given : Row → ℕ
address_given q = get_or q 3 0

abbrev pub prefix_given : Row → ℕ
prefix_given q = get_or q 4 0

abbrev pub label_present : Row → ℕ
label_present q = get_or q 5 0

abbrev pub label_length_given : Row → ℕ
label_length_given q = get_or q 6 0

-- the label's 16 bytes as one number, little-endian
abbrev pub label_given : Row → ℕ
label_given q = get_or q 7 0 + get_or q 8 0 * 2 ^ 32 + get_or q 9 0 * 2 ^ 64 + get_or q 10 0 * 2 ^ 96

-- a prefix over 32 and a label over 15 are unfit even where no condition uses them
unfoldable pub fit_del_v4 : Row → Bool
fit_del_v4 q =
    leb (prefix_given q) 32
    && optional (local_present q) (local_given q)
    && optional (address_present q) (address_given q)
    && optional (label_present q) (label_length_given q)
    && fit_label (label_length_given q) (label_given q)

-- ---- add_route4 and del_route4: the first 12 words of a route row, the kind as any code, then these
-- what both ask of those 12: a length up to 255 and any kind's code go on to the reference
abbrev pub fit_route_words : Row → Bool
fit_route_words q =
    ltb (Route.len q) 256
    && ltb (Route.tos q) 256
    && ltb (Route.kind q) 256
    && ltb (Route.proto q) 256
    && ltb (Route.scope q) 256
    && optional (Route.prefsrc_present q) (Route.prefsrc q)
    && optional (Route.gateway_present q) (Route.gateway q)

-- the index of the device asked for, 0 for none
abbrev pub oif : Row → ℕ
oif q = get_or q 12 0

abbrev pub add_route4_size : ℕ
add_route4_size = 34

-- rtnetlink's rtm_flags
abbrev pub rtm_flags : Row → ℕ
rtm_flags q = get_or q 13 0

-- netlink's NLM_F_* of the request, 16 bits
abbrev pub nlm_flags : Row → ℕ
nlm_flags q = get_or q 14 0

-- the error that converting the metrics gave, 0 for none
abbrev pub metrics_error : Row → ℕ
metrics_error q = get_or q 15 0

abbrev pub metrics_asked : Row → Row
metrics_asked q = take 17 (drop 16 q)

abbrev pub up_at_add_route4 : Row → ℕ
up_at_add_route4 q = get_or q 33 0

-- the largest number of Linux's errno list
abbrev pub greatest_errno : ℕ
greatest_errno = 133

unfoldable pub fit_add_route4 : Row → Bool
fit_add_route4 q =
    fit_route_words q
    && ltb (nlm_flags q) 65536
    && leb (metrics_error q) greatest_errno
    && leb (up_at_add_route4 q) 1

abbrev pub del_route4_size : ℕ
del_route4_size = 49

-- 0 where the request names a metric that no route has
abbrev pub list_present : Row → ℕ
list_present q = get_or q 13 0

abbrev pub pair_count : Row → ℕ
pair_count q = get_or q 14 0

-- the pairs up to the count, each an index of the metrics and the value that a route must have there
abbrev pub pairs : Row → List Row
pairs q = chop 2 (pair_count q) (drop 15 q)

abbrev pub pair_index : Row → ℕ
pair_index p = get_or p 0 0

abbrev pub pair_value : Row → ℕ
pair_value p = get_or p 1 0

abbrev pub fit_pairs : Row → Bool
fit_pairs q = all (λ p. leb (pair_index p) 16) (pairs q)

unfoldable pub fit_del_route4 : Row → Bool
fit_del_route4 q =
    fit_route_words q
    && optional (list_present q) (pair_count q)
    && leb (pair_count q) 17
    && fit_pairs q
