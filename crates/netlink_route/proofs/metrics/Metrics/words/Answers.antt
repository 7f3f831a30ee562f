use Rattle.std.proofs.Common.{sym, ap, ◌∙◌, Bool, cond, ◌∷◌, []}
use Rattle.lists.specs.Lists.{zeros}
use Rattle.netlink_route.specs.MetricWords.{value_words, metric_row}
use Rattle.netlink_route.proofs.metrics.Metrics.words.Goals as goal

pub returns-then-self : goal.returns-then-self
unfolding metric_row zeros
returns-then-self c = sym (ap (λ (b : Bool). cond b (22 ∷ zeros 17) (0 ∷ value_words c.args.self.now.values)) c.if-self.true)

pub returns : goal.returns
unfolding metric_row
returns c =
    (λ i. 0 ∷ c.number.ensures i ∷ c.number-2.ensures i ∷ c.number-3.ensures i ∷ c.number-4.ensures i ∷ c.number-5.ensures i ∷ c.number-6.ensures i ∷ c.number-7.ensures i ∷ c.number-8.ensures i ∷ c.number-9.ensures i ∷ c.number-10.ensures i ∷ c.number-11.ensures i ∷ c.number-12.ensures i ∷ c.number-13.ensures i ∷ c.number-14.ensures i ∷ c.number-15.ensures i ∷ c.number-16.ensures i ∷ c.number-17.ensures i ∷ [])
    ∙ sym (ap (λ (b : Bool). cond b (22 ∷ zeros 17) (0 ∷ value_words c.args.self.now.values)) c.if-self.false)
