use Rattle.std.proofs.Common.{rules, refl}
use Rattle.definition.specs.Reference.Addresses.{add_v4}
use Rattle.definition.proofs.Laws.Refusals.{add_v4-leaves}
use Rattle.state.specs.Represents.{Represents}
use Rattle.step_events.specs.Comes.{whole-made}
use Rattle.step_add_v4_atomic.specs.Copy.{tried_whole}
use Rattle.step_add_v4_atomic.specs.Room.{add_certain}
use Rattle.step_add_v4_atomic.proofs.add_v4.Goals as goal

pub returns-then-has_room-clause-comes_whole : goal.returns-then-has_room-clause-comes_whole
returns-then-has_room-clause-comes_whole c =
    λ st h g.
    whole-made st (add_certain 4 c.has_room.result (rw c.stored.ensures at c.has_room.ensures) c.if-has_room.true st h refl c.args.q.now c.args.clock.0)
    (c.add_v4.ensures.comes st h g)

pub returns-clause-comes_whole : goal.returns-clause-comes_whole
returns-clause-comes_whole c =
    λ st h g.
    tried_whole c.tried.ensures st (add_v4 c.args.q.now c.args.clock.0 st) h (add_v4-leaves c.args.q.now c.args.clock.0 st)
    (λ x y d b m. let k : Represents x.now.state.words.now st = rw b.words h in search (rules, m, k, g))
