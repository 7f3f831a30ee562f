-- A part of the bytes is a run put in them.
use Rattle.std.proofs.Common.{arith, refl, ap, ◌∙◌, length}
use Rattle.lists.specs.Rows.{length-put}
use Rattle.netlink_put.specs.Wrote.{in_part}
use Rattle.netlink_put.proofs.Writer.push.Goals as goal

pub returns : goal.returns
returns c =
    let w = in_part c.args.self.now.len c.copy_from_slice.ensures.after (omega arith) c.requires in
    record { same_bytes = refl; as_many = ap length w.bytes ∙ length-put _ _ _ c.requires; wrote = w }
