-- The numbers one behind the other.
use Rattle.std.proofs.Common.{refl}
use Rattle.netlink_put.specs.Wrote.{◌and_then◌, same}
use Rattle.netlink_put.proofs.Writer.header.Goals as goal

pub returns : goal.returns
returns c =
    same _ refl
    (c.push.ensures
    and_then same _ c.to_le_bytes.ensures c.push-2.ensures
    and_then same _ c.to_le_bytes-2.ensures c.push-3.ensures
    and_then same _ c.to_le_bytes-3.ensures c.push-4.ensures
    and_then same _ c.to_le_bytes-4.ensures c.push-5.ensures)
