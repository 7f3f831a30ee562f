-- An address row: 20 words (document 01, "The state, words of 32 bits").
use Rattle.std.specs.Prelude.{ℕ, ◌+◌, ◌*◌, ◌^◌, Bool, ◌&&◌, ◌||◌, eqb, leb, ltb, length, get_or, set}
use Rattle.lists.specs.Lists.{Row}
use Rattle.life.specs.Life.{clock, low_word, high_word}
use Rattle.layout.specs.Flags.{has_bit}

-- the words of a row
abbrev pub size : ℕ
size = 20

abbrev pub local : Row → ℕ
local a = get_or a 0 0

abbrev pub address : Row → ℕ
address a = get_or a 1 0

abbrev pub prefix : Row → ℕ
prefix a = get_or a 2 0

-- 1 where a broadcast address is named, else 0
abbrev pub broadcast_present : Row → ℕ
broadcast_present a = get_or a 3 0

abbrev pub broadcast : Row → ℕ
broadcast a = get_or a 4 0

abbrev pub scope : Row → ℕ
scope a = get_or a 5 0

abbrev pub flags : Row → ℕ
flags a = get_or a 6 0

abbrev pub proto : Row → ℕ
proto a = get_or a 7 0

abbrev pub label_length : Row → ℕ
label_length a = get_or a 8 0

-- the label's 16 bytes as one number, little-endian
abbrev pub label : Row → ℕ
label a = get_or a 9 0 + get_or a 10 0 * 2 ^ 32 + get_or a 11 0 * 2 ^ 64 + get_or a 12 0 * 2 ^ 96

abbrev pub priority : Row → ℕ
priority a = get_or a 13 0

-- seconds
abbrev pub valid : Row → ℕ
valid a = get_or a 14 0

abbrev pub preferred : Row → ℕ
preferred a = get_or a 15 0

-- nanoseconds of the clock, two words, the low one first
abbrev pub created : Row → ℕ
created a = clock (get_or a 16 0) (get_or a 17 0)

abbrev pub changed : Row → ℕ
changed a = clock (get_or a 18 0) (get_or a 19 0)

-- the row with another value in one of its fields
abbrev pub set_flags : ℕ → Row → Row
set_flags n a = set a 6 n

abbrev pub set_proto : ℕ → Row → Row
set_proto n a = set a 7 n

abbrev pub set_priority : ℕ → Row → Row
set_priority n a = set a 13 n

abbrev pub set_valid : ℕ → Row → Row
set_valid n a = set a 14 n

abbrev pub set_preferred : ℕ → Row → Row
set_preferred n a = set a 15 n

abbrev pub set_created : ℕ → Row → Row
set_created n a = set (set a 16 (low_word n)) 17 (high_word n)

abbrev pub set_changed : ℕ → Row → Row
set_changed n a = set (set a 18 (low_word n)) 19 (high_word n)

-- rtnetlink's IFA_F_SECONDARY, IFA_F_DEPRECATED, IFA_F_PERMANENT and IFA_F_NOPREFIXROUTE, as bits of the flags
abbrev pub secondary_bit : ℕ
secondary_bit = 0

abbrev pub deprecated_bit : ℕ
deprecated_bit = 5

abbrev pub permanent_bit : ℕ
permanent_bit = 7

abbrev pub no_prefix_route_bit : ℕ
no_prefix_route_bit = 9

abbrev pub secondary : Row → Bool
secondary a = has_bit secondary_bit (flags a)

abbrev pub deprecated : Row → Bool
deprecated a = has_bit deprecated_bit (flags a)

abbrev pub permanent : Row → Bool
permanent a = has_bit permanent_bit (flags a)

abbrev pub no_prefix_route : Row → Bool
no_prefix_route a = has_bit no_prefix_route_bit (flags a)

-- a value that may be absent: its mark is 0 or 1, and with 0 the value's word is 0
abbrev pub optional : ℕ → ℕ → Bool
optional present value = leb present 1 && (eqb present 1 || eqb value 0)

-- the label is at most 15 bytes, and the bytes behind it are 0: as a number it is below 256 to its length
abbrev pub fit_label : ℕ → ℕ → Bool
fit_label n bytes = leb n 15 && ltb bytes (2 ^ (8 * n))

-- the row could stand in a well-formed state (document 01)
unfoldable pub fit_address : Row → Bool
fit_address a =
    eqb (length a) size
    && leb (prefix a) 32
    && optional (broadcast_present a) (broadcast a)
    && ltb (scope a) 256
    && ltb (proto a) 256
    && fit_label (label_length a) (label a)
