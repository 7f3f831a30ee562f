use Rattle.std.proofs.Common.{sym, ap, Bool, cond}
use Rattle.lists.specs.Lists.{zeros}
use Rattle.netlink_route.specs.MetricWords.{metric_row}
use Rattle.netlink_route.proofs.route.Route.metric_words.Goals as goal

pub returns-else-self : goal.returns-else-self
unfolding zeros
returns-else-self c = sym (ap (λ (b : Bool). cond b (metric_row c.args.metrics.now) (zeros 18)) c.if-self.false)
