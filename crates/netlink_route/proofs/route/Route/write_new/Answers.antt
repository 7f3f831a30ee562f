use Rattle.std.proofs.Common.{refl, ap, ◌∙◌, cond, List, ℕ, ◌∷◌, []}
use Rattle.lists.specs.Lists.{zeros, put}
use Rattle.netlink.specs.Reader.{u32, message_flags}
use Rattle.netlink_route.specs.MetricWords.{metric_row}
use Rattle.netlink_route.specs.Words.{route_row}
use Rattle.netlink_route.specs.LaidLaws.{laid}
use Rattle.netlink_route.specs.RouteLaws.{length-metric_row}
use Rattle.netlink_route.proofs.route.Route.write_new.Goals as goal

pub returns : goal.returns
returns c =
    let w = c.args.words.now in
    let m = c.args.m.now in
    let list = cond c.args.self.now.has_metrics (metric_row c.args.metrics.now) (zeros 18) in
    laid (route_row m c.args.self.now) (u32 m 24 ∷ message_flags m ∷ []) list c.args.up w c.store.new.s c.store-2.new.s c.store-3.new.s c.store-4.new.s
    (c.store.ensures ∙ ap (λ (x : List ℕ). put 0 x w) c.words.ensures)
    (c.store-2.ensures ∙ ap (λ (x : List ℕ). put 13 x c.store.new.s) c.flags.ensures)
    (c.store-3.ensures ∙ ap (λ (x : List ℕ). put 15 x c.store-2.new.s) c.metric_words.ensures)
    c.store-4.ensures refl refl (length-metric_row c.args.metrics.now c.args.self.now.has_metrics) c.requires.1
