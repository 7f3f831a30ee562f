use Rattle.std.proofs.Common.{refl, ap, ◌∙◌, List, ℕ, cond, ◌∷◌}
use Rattle.lists.specs.Lists.{zeros, put}
use Rattle.netlink_route.specs.MetricWords.{pair_row}
use Rattle.netlink_route.specs.Words.{route_row}
use Rattle.netlink_route.specs.LaidLaws.{lent}
use Rattle.netlink_route.specs.RouteLaws.{length-pair_row}
use Rattle.netlink_route.proofs.route.Route.write_deleted.Goals as goal

pub returns : goal.returns
returns c =
    lent (route_row c.args.m.now c.args.self.now) (cond c.args.self.now.has_metrics (pair_row c.args.metrics.now) (1 ∷ zeros 35)) c.args.words.now c.store.new.s c.pairs.new.words
    (c.store.ensures ∙ ap (λ (w : List ℕ). put 0 w c.args.words.now) c.words.ensures) c.pairs.ensures refl (length-pair_row c.args.metrics.now c.args.self.now.has_metrics) c.requires.1
