-- After i iterations the first i metrics are written.
use Rattle.std.proofs.Common.{◌*◌, ◌≤◌, length, take}
use Rattle.netlink_event.specs.Written.{written_all}
use Rattle.netlink_event.specs.Writer.{metric_entries}
use Rattle.netlink_put.specs.Wrote.{Adds}
use Rattle.netlink_write.proofs.metric_attributes.Given as goal

abbrev pub invariant-loop-i : goal.invariant-loop-i
invariant-loop-i l =
    record {
      bound : length (written_all (take l.i (metric_entries l.metrics))) ≤ 8 * l.i;
      text : Adds l.initial.w (take l.i (metric_entries l.metrics)) l.w;
    }
