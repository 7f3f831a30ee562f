-- The rows read back from the buffer are those that were listed.
use Rattle.std.proofs.Common.{◌∙◌, arith}
use Rattle.definition.specs.Words.{decode}
use Rattle.definition.specs.Preservation.Encode.{good-decode}
use Rattle.definition.specs.Preservation.Fit.{fit-state}
use Rattle.definition.specs.Reference.Source.{dump4}
use Rattle.state.specs.Represents.{holds-long}
use Rattle.state.specs.Stored.{represented}
use Rattle.app_show.specs.Laws.{listing-few, listing-sized, listed-chunks}
use Rattle.app_show.proofs.listed.Goals as goal

pub overflow_mul-n : goal.overflow_mul-n
overflow_mul-n c = record { fits = omega (arith, c.list-n.ensures.value, listing-few c.args.s.words.now (holds-long (represented c.args.s.holds)) c.requires) }

pub split_at-requires : goal.split_at-requires
split_at-requires c = omega (arith, c.list-n.ensures.value, listing-few c.args.s.words.now (holds-long (represented c.args.s.holds)) c.requires)

pub returns : goal.returns
returns c =
    let few = listing-few c.args.s.words.now (holds-long (represented c.args.s.holds)) c.requires in
    let rows = c.as_chunks.ensures.front
    ∙ listed-chunks (dump4 (decode c.args.s.words.now)) c.list-n.new.listing _ c.split_at.result.0.now c.list-n.result (listing-sized c.args.s.words.now (holds-long (represented c.args.s.holds)) c.requires)
    c.list-n.ensures.value c.list-n.ensures.listing_after c.split_at.ensures.front (omega arith) in
    record { few = rw rows few; rows = rows }

pub list-n-requires-clause-distinct : goal.list-n-requires-clause-distinct
list-n-requires-clause-distinct c =
    (fit-state _ (good-decode c.args.s.words.now (holds-long (represented c.args.s.holds)) c.requires).fits).of_tables
