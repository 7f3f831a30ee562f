-- The table's attributes one behind the other.
use Rattle.std.proofs.Common.{arith}
use Rattle.netlink_put.proofs.Pieces.{◌and_also◌, with_payload}
use Rattle.netlink_write.proofs.Fields.{address-fields}
use Rattle.netlink_write.proofs.Address.{address-bound}
use Rattle.netlink_write.proofs.address_attributes.Goals as goal

pub overflow_cast-row : goal.overflow_cast-row
overflow_cast-row c = let f = address-fields c.args.row.now c.requires.fit in omega (arith, f.by)

pub returns-clause-bound : goal.returns-clause-bound
returns-clause-bound c = address-bound c.args.clock c.args.row.now c.requires.fit

pub returns-clause-text : goal.returns-clause-text
returns-clause-text c =
    with_payload c.to_be_bytes.ensures c.attribute.ensures.text
    and_also with_payload c.to_be_bytes-2.ensures c.attribute-2.ensures.text
    and_also c.label.ensures.text
    and_also with_payload c.to_be_bytes-3.ensures c.optional.ensures.text
    and_also c.cacheinfo.ensures.text
    and_also with_payload c.to_le_bytes.ensures c.attribute-3.ensures.text
    and_also with_payload c.to_le_bytes-2.ensures c.optional-2.ensures.text
    and_also c.optional-3.ensures.text
