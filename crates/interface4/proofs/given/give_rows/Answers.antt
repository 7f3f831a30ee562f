-- `interface4::given::give_rows` meets its contract.
-- Assumes nothing.
use Prim.Native.Nat.{◌*◌}
use Rattle.interface4.specs.Made.{part-back}
use Rattle.interface4.proofs.given.give_rows.Goals as goal

pub returns : goal.returns
returns c =
    record { out_after = part-back c.args.rows.now c.args.out.now _ (c.args.size * c.args.n) c.bytes_of.ensures; below = λ i. (c.shared_slice_known-1.given i).fits }
