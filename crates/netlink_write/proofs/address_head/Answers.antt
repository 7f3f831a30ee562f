-- A fit row's fields are bytes.
use Rattle.std.proofs.Common.{arith}
use Rattle.netlink_put.specs.Wrote.{◌and_then◌, same}
use Rattle.netlink_write.proofs.Fields.{address-fields}
use Rattle.netlink_write.proofs.address_head.Goals as goal

pub overflow_cast-row : goal.overflow_cast-row
overflow_cast-row c = let f = address-fields c.args.row.now c.requires.fit in omega (arith, f.short)

pub overflow_cast-row-3 : goal.overflow_cast-row-3
overflow_cast-row-3 c = let f = address-fields c.args.row.now c.requires.fit in omega (arith, f.wide)

pub returns : goal.returns
returns c = c.push.ensures and_then same _ c.to_le_bytes.ensures c.push-2.ensures
