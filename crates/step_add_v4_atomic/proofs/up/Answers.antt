use Rattle.std.proofs.Common.{rules, ℕ, ◌+◌, ◌*◌, ap, ◌∙◌}
use Rattle.definition.specs.Words.{address_count}
use Rattle.definition.specs.Reference.Addresses.{goes, up}
use Rattle.state.specs.Represents.{Represents}
use Rattle.step_events.specs.Comes.{whole-made}
use Rattle.step_add_v4_atomic.specs.Copy.{tried_whole}
use Rattle.step_add_v4_atomic.specs.Room.{up_certain}
use Rattle.step_add_v4_atomic.proofs.up.Goals as goal

pub returns-then-has_room-clause-comes_whole : goal.returns-then-has_room-clause-comes_whole
returns-then-has_room-clause-comes_whole c =
    let four = ap (λ (n : ℕ). 4 * (n + 2)) (c.addresses.ensures.count ∙ ap address_count c.stored.ensures) in
    λ st h g.
    whole-made st (up_certain _ c.has_room.result (rw c.stored-2.ensures at c.has_room.ensures) c.if-has_room.true st h four c.args.clock.0) (c.up.ensures.adds_from st h g)

pub returns-clause-comes_whole : goal.returns-clause-comes_whole
returns-clause-comes_whole c =
    λ st h g.
    tried_whole c.tried.ensures st (goes (up c.args.clock.0 st)) h tt
    (λ x y d b m. let k : Represents x.now.state.words.now st = rw b.words h in search (rules, m, k, g))
