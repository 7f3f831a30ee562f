-- A fit row's fields are bytes.
use Rattle.std.proofs.Common.{arith, ap, ◌∙◌}
use Rattle.netlink_put.specs.Wrote.{◌and_then◌, same}
use Rattle.layout.specs.Route.{table}
use Rattle.netlink_event.specs.Written.{bytes4}
use Rattle.netlink_write.proofs.Route.{table-is}
use Rattle.netlink_write.proofs.Fields.{route-fields}
use Rattle.netlink_write.proofs.route_head.Goals as goal

pub overflow_cast-row : goal.overflow_cast-row
overflow_cast-row c = let f = route-fields c.args.row.now c.requires.fit in omega (arith, f.short)

pub overflow_cast-row-2 : goal.overflow_cast-row-2
overflow_cast-row-2 c = let f = route-fields c.args.row.now c.requires.fit in omega (arith, f.served)

pub overflow_cast-row-3 : goal.overflow_cast-row-3
overflow_cast-row-3 c = let f = route-fields c.args.row.now c.requires.fit in omega (arith, f.by)

pub overflow_cast-row-4 : goal.overflow_cast-row-4
overflow_cast-row-4 c = let f = route-fields c.args.row.now c.requires.fit in omega (arith, f.wide)

pub overflow_cast-row-5 : goal.overflow_cast-row-5
overflow_cast-row-5 c = let f = route-fields c.args.row.now c.requires.fit in omega (arith, f.of)

pub returns : goal.returns
returns c =
    let byte = c.unwrap_or.ensures ∙ table-is (table c.args.row.now) c.try_from.result c.try_from.ensures in
    rw byte at c.push.ensures
    and_then same _ (c.to_le_bytes.ensures ∙ ap bytes4 c.onlink_flag.ensures) c.push-2.ensures
