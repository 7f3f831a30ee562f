-- The table's attributes one behind the other.
use Rattle.std.proofs.Common.{arith, ◌≡◌, length}
use Rattle.layout.specs.Route.{metrics}
use Rattle.netlink_put.proofs.Pieces.{◌and_also◌, with_payload}
use Rattle.netlink_write.proofs.Route.{route-bound, metrics-last}
use Rattle.netlink_write.proofs.route_attributes.Goals as goal

pub returns-clause-bound : goal.returns-clause-bound
returns-clause-bound c = route-bound c.args.row.now

pub returns-clause-text : goal.returns-clause-text
returns-clause-text c =
    let last = rw c.unwrap.ensures at c.last_chunk.ensures.cases in
    let long : length c.args.row.now ≡ 32 = omega arith in
    let behind : c.unwrap.result.now ≡ metrics c.args.row.now = metrics-last c.args.row.now c.unwrap.result.now long last.1.same in
    with_payload c.to_be_bytes.ensures c.optional.ensures.text
    and_also with_payload c.to_le_bytes.ensures c.optional-2.ensures.text
    and_also with_payload c.to_be_bytes-2.ensures c.optional-3.ensures.text
    and_also with_payload c.to_le_bytes-2.ensures c.optional-4.ensures.text
    and_also with_payload c.to_be_bytes-3.ensures c.optional-5.ensures.text
    and_also rw behind at c.metrics.ensures.text
    and_also with_payload c.to_le_bytes-3.ensures c.attribute.ensures.text
