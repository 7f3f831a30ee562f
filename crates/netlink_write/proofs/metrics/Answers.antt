-- The nested attributes are the payload, where there is one.
use Rattle.std.proofs.Common.{arith, sym, ap, ◌∙◌, not, eqb, ℕ, ◌≡◌, length}
use Rattle.netlink_put.proofs.Pieces.{with_presence, with_payload}
use Rattle.netlink_write.proofs.Route.{metrics-bound, any-written, nested-payload}
use Rattle.netlink_write.proofs.metrics.Goals as goal

pub returns-clause-bound : goal.returns-clause-bound
returns-clause-bound c = metrics-bound c.args.metrics.now

pub returns-clause-text : goal.returns-clause-text
returns-clause-text c =
    let m = c.args.metrics.now in
    let long : length m ≡ 17 = omega arith in
    with_presence (ap (λ (n : ℕ). not (eqb n 0)) c.nested-len.ensures.value ∙ sym (any-written m long))
    (with_payload (nested-payload _ _ c.nested-len.ensures.out_after c.nested-len.ensures.value) c.optional.ensures.text)
