use Rattle.std.proofs.Common.{sym, ap, ◌∙◌, Bool, cond, List, ℕ, ◌∷◌, set}
use Rattle.lists.specs.Lists.{zeros}
use Rattle.netlink_route.specs.MetricWords.{pair_row}
use Rattle.netlink_route.specs.PairLaws.{cleared}
use Rattle.netlink_route.proofs.route.Route.pairs.Goals as goal

pub returns-else-self : goal.returns-else-self
unfolding zeros
returns-else-self c =
    ap (λ (w : List ℕ). set w 0 1) (c.clear.ensures ∙ cleared c.args.words.now c.requires)
    ∙ sym (ap (λ (b : Bool). cond b (pair_row c.args.metrics.now) (1 ∷ zeros 35)) c.if-self.false)
