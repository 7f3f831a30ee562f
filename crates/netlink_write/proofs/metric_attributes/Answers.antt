-- Each metric that isn't 0 is written behind those before it.
use Rattle.std.proofs.Common.{arith}
use Rattle.netlink_put.proofs.Pieces.{with_payload, none_yet}
use Rattle.netlink_write.proofs.Route.{begun-bound, next-bound, next-added}
use Rattle.netlink_write.proofs.metric_attributes.Goals as goal

pub loop-i-init : goal.loop-i-init
loop-i-init c = record { bound = begun-bound c.args.metrics.now; text = none_yet c.args.w.now }

pub loop-i-preserved : goal.loop-i-preserved
loop-i-preserved c =
    let m = c.args.metrics.now in
    let k = c.loop-i.i in
    record {
      bound = next-bound m k (omega arith) c.loop-i.invariant.bound;
      text = next-added m k (omega arith) c.loop-i.invariant.text (with_payload c.to_le_bytes.ensures c.optional.ensures.text);
    }
