-- `state_count::settle` meets its contract.
use Rattle.std.proofs.Common.{rules, arith, sym, ◌∙◌}
use Rattle.definition.proofs.Preservation.Step.{base-long}
use Rattle.state_count.specs.Count.{settled}
use Rattle.state_count.proofs.settle.Goals as goal

pub slice_bounds-row_counts-end-2 : goal.slice_bounds-row_counts-end-2
slice_bounds-row_counts-end-2 c = sym (base-long c.count.new.state (c.count.auto.state ∙ c.requires))

pub row_counts-counts-requires : goal.row_counts-counts-requires
row_counts-counts-requires c = base-long c.count.new.state (c.count.auto.state ∙ c.requires)

pub returns : goal.returns
returns c =
    settled c.args.state.now c.count.new.state c.requires c.count.ensures c.row_counts-counts.result c.row_counts-counts.ensures (omega arith) c.store.ensures
