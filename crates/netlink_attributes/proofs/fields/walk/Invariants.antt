use Rattle.std.proofs.Common.{◌≡◌, length}
use Rattle.std.specs.List.{fold}
use Rattle.netlink.specs.Attributes.{parsed, attributes}
use Rattle.netlink_attributes.specs.Steps.{rest, ahead}
use Rattle.netlink_attributes.proofs.fields.walk.Given as goal

abbrev pub invariant-loop-a : goal.invariant-loop-a
invariant-loop-a g l = record {
  taken : fold g.F.Fields.step l.fields (ahead l.attributes) ≡ fold g.F.Fields.step l.fn.fields (attributes l.bytes);
  spare : (parsed (rest l.attributes)).spare ≡ (parsed l.bytes).spare;
}

abbrev pub decreases-loop-a : goal.decreases-loop-a
decreases-loop-a g l = length (ahead l.attributes)
