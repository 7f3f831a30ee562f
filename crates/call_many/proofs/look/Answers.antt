-- `call_many::look` meets its contract: the routes in use are lent to the walk over rows.
-- Assumes nothing.
use Rattle.std.proofs.Common.{arith}
use Rattle.definition.specs.Words.{decode}
use Rattle.state.specs.Represents.{sizes_of}
use Rattle.state.specs.Stored.{represented}
use Rattle.rows_walk.specs.Walked.{ordered-rising}
use Rattle.rows_many.specs.Sets.{many-weighed, many-answers}
use Rattle.state_read.specs.Parts.{listed-there}
use Rattle.call_many.proofs.look.Goals as goal

pub lookup4_many-requires-clause-rows : goal.lookup4_many-requires-clause-rows
lookup4_many-requires-clause-rows c =
    let h = represented c.args.s.holds in
    (rw (c.routes.ensures.rows _ h) (ordered-rising (decode c.args.s.words.now).routes c.requires.in_order), omega (arith, c.routes.ensures.count, (sizes_of h).routes))

pub returns-clause-value : goal.returns-clause-value
returns-clause-value c =
    let h = represented c.args.s.holds in
    rw (← (many-weighed (decode c.args.s.words.now) c.args.destinations.now), ← (listed-there h 253), ← c.listed-listed.ensures, ← (c.routes.ensures.rows _ h)) c.lookup4_many.ensures.value

pub returns-clause-answers_after : goal.returns-clause-answers_after
returns-clause-answers_after c =
    let h = represented c.args.s.holds in
    rw (← (many-answers (decode c.args.s.words.now) c.args.destinations.now), ← (listed-there h 253), ← c.listed-listed.ensures, ← (c.routes.ensures.rows _ h)) c.lookup4_many.ensures.answers_after
