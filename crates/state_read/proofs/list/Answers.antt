-- `state_read::list` meets its contract: the routes and tables in use are lent to the listing over rows.
-- Assumes nothing.
use Rattle.std.proofs.Common.{arith, ap, ◌∙◌, List, length}
use Rattle.lists.specs.Lists.{Row, flat, put}
use Rattle.definition.specs.Words.{decode}
use Rattle.state.specs.Represents.{sizes_of}
use Rattle.state.specs.Stored.{represented}
use Rattle.state_read.specs.Listing.{tables-few, tables-once, dumped}
use Rattle.state_read.proofs.list.Goals as goal

pub dump4-requires-clause-few : goal.dump4-requires-clause-few
dump4-requires-clause-few c =
    let h = represented c.args.s.holds in
    (omega (arith, c.routes.ensures.count, (sizes_of h).routes), tables-few h c.tables.result.now c.tables.ensures)

pub dump4-requires-clause-distinct : goal.dump4-requires-clause-distinct
dump4-requires-clause-distinct c = tables-once (represented c.args.s.holds) c.tables.result.now c.requires.distinct c.tables.ensures

pub dump4-requires-clause-room : goal.dump4-requires-clause-room
dump4-requires-clause-room c = omega (arith, c.routes.ensures.count, (sizes_of (represented c.args.s.holds)).routes, c.requires.room)

pub returns-clause-value : goal.returns-clause-value
returns-clause-value c =
    let h = represented c.args.s.holds in
    c.dump4.ensures.value ∙ ap (λ (x : List Row). length x) (dumped h c.tables.ensures (c.routes.ensures.rows (decode c.args.s.words.now) h))

pub returns-clause-listing_after : goal.returns-clause-listing_after
returns-clause-listing_after c =
    let h = represented c.args.s.holds in
    c.dump4.ensures.listing_after ∙ ap (λ (x : List Row). put 0 (flat x) c.args.listing.now) (dumped h c.tables.ensures (c.routes.ensures.rows (decode c.args.s.words.now) h))
