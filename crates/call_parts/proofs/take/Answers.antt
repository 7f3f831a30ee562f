-- `call_parts::take` meets its contract.
use Rattle.std.proofs.Common.{arith}
use Rattle.definition.specs.Words.{decode}
use Rattle.definition.specs.Reference.Source.{dump4}
use Rattle.call_parts.specs.Laws.{part-words}
use Rattle.call_parts.proofs.take.Goals as goal

pub slice_bounds-store-end : goal.slice_bounds-store-end
slice_bounds-store-end c = omega (arith, c.min-to.ensures, c.list-n.ensures.value, c.requires.few.0)

pub returns-clause-listing_after : goal.returns-clause-listing_after
returns-clause-listing_after c =
    let l = dump4 (decode c.args.s.words.now) in
    part-words l c.args.place c.args.rows (rw c.list-n.ensures.value at c.min-from.ensures) (rw c.list-n.ensures.value at c.min-to.ensures) c.requires.few.1
    c.args.listing.now _ c.list-n.ensures.listing_after c.store.ensures
