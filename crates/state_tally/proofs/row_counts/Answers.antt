use Rattle.state_tally.specs.Cut.{counted-parts}
use Rattle.state_tally.proofs.row_counts.Goals as goal

pub returns : goal.returns
returns c = counted-parts c.args.words.now c.requires c.min-n.ensures c.min-m.ensures c.as_chunks.ensures.front c.tally.ensures
