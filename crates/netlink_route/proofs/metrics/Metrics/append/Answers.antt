use Rattle.std.proofs.Common.{ap, ◌∙◌, sym, Option, ℕ}
use Rattle.lists.specs.Lists.{put}
use Rattle.lists.specs.Put.{put-none}
use Rattle.netlink_route.specs.MetricWords.{number_pair}
use Rattle.netlink_route.proofs.metrics.Metrics.append.Goals as goal

pub returns-in_default-clause-words_after : goal.returns-in_default-clause-words_after
returns-in_default-clause-words_after c =
    put-none c.args.at c.args.words.now
    ∙ sym (ap (λ (o : Option ℕ). put c.args.at (number_pair c.args.k o) c.args.words.now) c.in_default.is)
