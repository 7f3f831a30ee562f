use Rattle.std.proofs.Common.{ap, ◌∙◌, ◌&&◌, true}
use Rattle.std.specs.List.{fold}
use Rattle.netlink.specs.Attributes.{attributes}
use Rattle.netlink_route.specs.declared.metrics.Metrics.{Metrics}
use Rattle.netlink_route.specs.MetricSteps.{metrics_step}
use Rattle.netlink_route.specs.MetricLaws.{metrics-sized}
use Rattle.netlink_route.proofs.route.Route.take_metrics.Goals as goal

pub returns-clause-route : goal.returns-clause-route
returns-clause-route c =
    let s = c.args.self.now in
    let l = attributes c.args.payload.now in
    let sized = ap (λ (m : Metrics). m.is_sized) (c.walk-is_right.ensures.taken ∙ ap (λ (m : Metrics). fold metrics_step m l) c.new.ensures) ∙ metrics-sized l in
    λ i. record {
      table = s.table;
      dst = s.dst;
      oif = s.oif;
      priority = s.priority;
      gateway = s.gateway;
      prefsrc = s.prefsrc;
      has_metrics = true;
      is_right = s.is_right && c.walk-is_right.ensures.lengths i;
      is_sized = s.is_sized && sized i;
    }
