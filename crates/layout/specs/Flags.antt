-- Flag words, bit by bit: bit k of a word counts 2 ^ k.
use Rattle.std.specs.Prelude.{ℕ, ◌+◌, ◌-◌, ◌*◌, ◌/◌, ◌%◌, ◌^◌, Bool, eqb}

-- bit k of f is set
unfoldable pub has_bit : ℕ → ℕ → Bool
has_bit k f = eqb (f / 2 ^ k % 2) 1

-- f with bit k cleared
unfoldable pub clear_bit : ℕ → ℕ → ℕ
clear_bit k f = f - f / 2 ^ k % 2 * 2 ^ k

-- f with bit k set
unfoldable pub set_bit : ℕ → ℕ → ℕ
set_bit k f = clear_bit k f + 2 ^ k

-- the word in which bit k alone is set
abbrev pub flag : ℕ → ℕ
flag k = 2 ^ k

-- ---- netlink's NLM_F_* (linux/netlink.h; the Rust's F_*): the bits of a request for a route, and of what is emitted for a new one
-- NLM_F_REPLACE, 0x100
abbrev pub replace_bit : ℕ
replace_bit = 8

-- NLM_F_EXCL, 0x200
abbrev pub excl_bit : ℕ
excl_bit = 9

-- NLM_F_CREATE, 0x400
abbrev pub create_bit : ℕ
create_bit = 10

-- NLM_F_APPEND, 0x800
abbrev pub append_bit : ℕ
append_bit = 11

-- ---- rtnetlink's RTNH_F_* (linux/rtnetlink.h): the bits of a request's rtm_flags that the reference looks at
-- RTNH_F_DEAD, 0x1
abbrev pub dead_bit : ℕ
dead_bit = 0

-- RTNH_F_ONLINK, 0x4
abbrev pub onlink_bit : ℕ
onlink_bit = 2

-- RTNH_F_LINKDOWN, 0x10
abbrev pub linkdown_bit : ℕ
linkdown_bit = 4
