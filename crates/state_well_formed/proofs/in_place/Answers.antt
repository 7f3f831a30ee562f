use Rattle.std.specs.Prelude.{◌+◌}
use Rattle.std.proofs.Common.{sym, ◌∙◌, arith}
use Rattle.state_well_formed.specs.Order.{ordered-later}
use Rattle.state_well_formed.specs.Place.{place-broken, place-iteration}
use Rattle.state_well_formed.specs.Twice.{rest_of}
use Rattle.state_well_formed.proofs.in_place.Goals as goal

pub returns-then-before : goal.returns-then-before
returns-then-before c =
    place-broken c.args.routes.now c.args.i c.requires (sym c.before-2.ensures ∙ c.if-before.true)

pub returns : goal.returns
returns c =
    let apart = rw (rest_of (c.args.i + 1) c.args.routes.now) at c.apart.ensures in
    place-iteration c.args.routes.now c.args.i c.requires (sym c.before-2.ensures ∙ c.if-before.false)
    (λ o. apart (ordered-later c.args.routes.now c.args.i (c.args.i + 1) (omega arith) o))
