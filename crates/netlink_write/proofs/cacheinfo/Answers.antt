-- The two lifetimes are those that are left.
use Rattle.netlink_put.proofs.Pieces.{with_payload}
use Rattle.netlink_write.proofs.Address.{cacheinfo-payload, cacheinfo-bound}
use Rattle.netlink_write.proofs.cacheinfo.Goals as goal

pub returns-clause-bound : goal.returns-clause-bound
returns-clause-bound c = cacheinfo-bound c.args.clock c.args.row.now

pub returns-clause-text : goal.returns-clause-text
returns-clause-text c =
    with_payload (rw (c.to_le_bytes.ensures, c.to_le_bytes-2.ensures) (cacheinfo-payload c.args.row.now c.args.clock c.from.ensures.0 c.left-left.ensures)) c.attribute.ensures.text
