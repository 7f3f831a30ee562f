use Rattle.std.proofs.Common.{◌≡◌, length}
use Rattle.std.specs.List.{fold}
use Rattle.netlink.specs.Attributes.{parsed, attributes}
use Rattle.netlink_attributes.specs.Steps.{rest, ahead}
use Rattle.netlink_route.specs.Steps.{route_step, list_step}
use Rattle.netlink_route.proofs.route.Route.read.Given as goal

abbrev pub invariant-loop-a : goal.invariant-loop-a
invariant-loop-a l = record {
  route : fold route_step l.route (ahead l.attributes) ≡ fold route_step l.initial.route (attributes l.message.body.now);
  metrics : fold list_step l.metrics (ahead l.attributes) ≡ fold list_step l.fn.metrics (attributes l.message.body.now);
  spare : (parsed (rest l.attributes)).spare ≡ (parsed l.message.body.now).spare;
}

abbrev pub decreases-loop-a : goal.decreases-loop-a
decreases-loop-a l = length (ahead l.attributes)
