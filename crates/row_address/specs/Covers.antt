-- The subnet of an address of any prefix.
-- Assumes nothing.
use Rattle.std.specs.Prelude.{ℕ, ◌-◌, ◌<◌, ◌≡◌, eqb}
use Rattle.std.proofs.Common.{arith}
use Rattle.prefix.specs.Mask.{network}
use Rattle.row_address.specs.declared.V4.{V4}
use Rattle.row_address.specs.V4.{covers_v4}

-- a prefix over 32 leaves no host bits, as one of 32
pub covers-all : (v : V4) (ip : ℕ) → 32 < v.prefix → eqb (network ip 32) (network v.address 32) ≡ covers_v4 v ip
unfolding network
covers-all v ip h =
    let e : 32 - v.prefix ≡ 0 = omega arith in
    rw e
