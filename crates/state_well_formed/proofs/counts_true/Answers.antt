use Rattle.std.proofs.Common.{sym, ap₂, ◌∙◌}
use Rattle.lists.specs.Lists.{eq_row}
use Rattle.definition.specs.Words.{row_counts_at, counts_true}
use Rattle.definition.proofs.Preservation.Step.{base-long}
use Rattle.state_well_formed.specs.Twice.{rest_of}
use Rattle.state_well_formed.proofs.counts_true.Goals as goal

pub slice_bounds-row_counts-end : goal.slice_bounds-row_counts-end
slice_bounds-row_counts-end c = sym (base-long c.args.s.now c.requires.0)

pub row_counts-counts-requires : goal.row_counts-counts-requires
row_counts-counts-requires c = base-long c.args.s.now c.requires.0

pub returns : goal.returns
unfolding counts_true
returns c = c.eq.ensures ∙ ap₂ eq_row (rest_of row_counts_at c.args.s.now) (c.row_counts-counts.ensures c.requires.1)
