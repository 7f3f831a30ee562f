-- Prefixes of IPv4 addresses, as arithmetic on numbers below 2 ^ 32. A prefix of length p is the p leading bits of an address (RFC 4632, section 3.1); the other 32 - p are its host bits.
-- Assumes nothing.
use Rattle.std.specs.Prelude.{ℕ, ◌+◌, ◌-◌, ◌*◌, ◌/◌, ◌%◌, ◌^◌}

-- p ones and then zeros (RFC 4632, section 3.1; document 01, port order 1): 0 for p = 0
unfoldable pub mask : ℕ → ℕ
mask p = 2 ^ 32 - 2 ^ (32 - p)

-- the address with its host bits cleared
unfoldable pub network : ℕ → ℕ → ℕ
network a p = a / 2 ^ (32 - p) * 2 ^ (32 - p)

-- the host bits alone
unfoldable pub host_bits : ℕ → ℕ → ℕ
host_bits a p = a % 2 ^ (32 - p)

-- the address with its host bits all set
unfoldable pub broadcast : ℕ → ℕ → ℕ
broadcast a p = network a p + (2 ^ (32 - p) - 1)

-- a flow's tos AND 0x1c, the bits that a route's tos is matched against: bits 2, 3 and 4 (document 01, port order 5)
unfoldable pub flow_tos : ℕ → ℕ
flow_tos t = t / 4 % 8 * 4
