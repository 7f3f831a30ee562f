-- The length, the code, the payload and the padding one behind the other.
use Rattle.std.proofs.Common.{true}
use Rattle.netlink_put.specs.Wrote.{◌and_then◌, same}
use Rattle.netlink_put.proofs.Pieces.{attribute-pieces, bounded}
use Rattle.netlink_put.proofs.Writer.attribute.Goals as goal

pub returns-clause-bound : goal.returns-clause-bound
returns-clause-bound c = bounded true c.args.code c.args.payload.now

pub returns-clause-text : goal.returns-clause-text
returns-clause-text c =
    let m = c.next_multiple_of.ensures in
    let size = same _ c.to_le_bytes.ensures c.push.ensures in
    let code = same _ c.to_le_bytes-2.ensures c.push-2.ensures in
    record {
      bytes = same _ (attribute-pieces c.args.code c.args.payload.now c.next_multiple_of.result m.multiple m.lower_bound m.upper_bound)
          (size and_then code and_then c.push-3.ensures and_then c.push-4.ensures);
    }
