-- A route row: 32 words (document 01, "The state, words of 32 bits").
use Rattle.std.specs.Prelude.{ℕ, Bool, ◌&&◌, ◌||◌, eqb, leb, ltb, length, get_or, drop}
use Rattle.lists.specs.Lists.{Row}
use Rattle.prefix.specs.Mask.{host_bits}
use Rattle.kind.specs.Kind.{is_kind}
use Rattle.layout.specs.Address.{optional}

-- the words of a row
abbrev pub size : ℕ
size = 32

abbrev pub table : Row → ℕ
table r = get_or r 0 0

abbrev pub dst : Row → ℕ
dst r = get_or r 1 0

abbrev pub len : Row → ℕ
len r = get_or r 2 0

abbrev pub tos : Row → ℕ
tos r = get_or r 3 0

abbrev pub priority : Row → ℕ
priority r = get_or r 4 0

-- the code of its kind (rtnetlink's RTN_*)
abbrev pub kind : Row → ℕ
kind r = get_or r 5 0

abbrev pub proto : Row → ℕ
proto r = get_or r 6 0

abbrev pub scope : Row → ℕ
scope r = get_or r 7 0

abbrev pub prefsrc_present : Row → ℕ
prefsrc_present r = get_or r 8 0

abbrev pub prefsrc : Row → ℕ
prefsrc r = get_or r 9 0

abbrev pub gateway_present : Row → ℕ
gateway_present r = get_or r 10 0

abbrev pub gateway : Row → ℕ
gateway r = get_or r 11 0

-- marks, 0 or 1
abbrev pub device : Row → ℕ
device r = get_or r 12 0

abbrev pub onlink : Row → ℕ
onlink r = get_or r 13 0

abbrev pub uses_gateway : Row → ℕ
uses_gateway r = get_or r 14 0

-- the 17 metrics
abbrev pub metrics : Row → Row
metrics r = drop 15 r

-- the row could stand in a well-formed state (document 01)
unfoldable pub fit_route : Row → Bool
fit_route r =
    eqb (length r) size
    && leb (len r) 32
    && eqb (host_bits (dst r) (len r)) 0
    && ltb (tos r) 256
    && is_kind (kind r)
    && ltb (proto r) 256
    && ltb (scope r) 256
    && optional (prefsrc_present r) (prefsrc r)
    && optional (gateway_present r) (gateway r)
    && leb (device r) 1
    && leb (onlink r) 1
    && leb (uses_gateway r) 1

-- The order of routes (document 01): dst rising, len falling, table falling, tos falling, priority rising.
-- before a b: a's place is before b's
unfoldable pub before : Row → Row → Bool
before a b =
    ltb (dst a) (dst b)
    || (eqb (dst a) (dst b)
    && (ltb (len b) (len a)
    || (eqb (len a) (len b)
    && (ltb (table b) (table a)
    || (eqb (table a) (table b)
    && (ltb (tos b) (tos a) || (eqb (tos a) (tos b) && ltb (priority a) (priority b))))))))

-- they have the same place: alike in table, dst, len, tos and priority
unfoldable pub alike : Row → Row → Bool
alike a b =
    eqb (table a) (table b)
    && eqb (dst a) (dst b)
    && eqb (len a) (len b)
    && eqb (tos a) (tos b)
    && eqb (priority a) (priority b)
