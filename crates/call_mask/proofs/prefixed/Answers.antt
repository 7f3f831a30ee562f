-- `call_mask::prefixed` meets its contract.
use Rattle.std.proofs.Common.{refl, sym, ap, set, ◌∙◌}
use Rattle.netmask.specs.Laws.{prefix-good}
use Rattle.call_read.specs.Laws.{exit}
use Rattle.call_mask.specs.Laws.{bad-prefix}
use Rattle.call_mask.proofs.prefixed.Goals as goal

pub returns-in_err-own : goal.returns-in_err-own
returns-in_err-own g c = rw (exit c.from_residual.ensures.1) (bad-prefix _ (sym c.prefix_of.ensures ∙ c.in_err-own.was))

pub returns : goal.returns
returns g c = let k = prefix-good _ _ (sym c.prefix_of.ensures ∙ c.in_ok-own.was) in (k.0, ap (set c.args.q.now c.args.at) (sym k.1))
