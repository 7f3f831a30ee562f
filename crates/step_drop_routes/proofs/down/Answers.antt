-- `step_drop_routes::down` meets its contract.
use Rattle.std.proofs.Common.{refl}
use Rattle.step_events.specs.Emits.{tells-ahead}
use Rattle.step_drop_routes.specs.Iterations.{down-goes}
use Rattle.step_drop_routes.proofs.down.Goals as goal

pub returns : goal.returns
returns c =
    λ st h.
    down-goes st (rw c.link_down.ensures.state (c.down.ensures.holds st h)) (tells-ahead c.link_down.ensures.tells refl refl c.down.ensures.place refl)
