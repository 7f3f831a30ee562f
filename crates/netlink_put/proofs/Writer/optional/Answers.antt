-- An attribute that isn't there takes no bytes.
use Rattle.netlink_put.specs.Wrote.{same, nothing}
use Rattle.netlink_put.proofs.Pieces.{present-written, absent-written, bounded}
use Rattle.netlink_put.proofs.Writer.optional.Goals as goal

pub returns-then-present : goal.returns-then-present
returns-then-present c =
    record {
      bound = bounded c.args.present c.args.code c.args.payload.now;
      text = record { bytes = same _ (present-written c.args.present c.args.code c.args.payload.now c.if-present.true) c.attribute.ensures.text.bytes };
    }

pub returns-else-present : goal.returns-else-present
returns-else-present c =
    record {
      bound = bounded c.args.present c.args.code c.args.payload.now;
      text = record { bytes = same _ (absent-written c.args.present c.args.code c.args.payload.now c.if-present.false) (nothing c.args.self.now) };
    }
