use Rattle.std.proofs.Common.{arith, ap}
use Rattle.std.specs.Prelude.{ℕ, ◌≡◌, ◌+◌, ◌-◌, take, drop}
use Rattle.lists.specs.Lists.{span}
use Rattle.state.specs.Represents.{sizes_of}
use Rattle.state.specs.Stored.{represented}
use Rattle.definition.specs.Words.{table_count, tables_at}
use Rattle.state_tables.proofs.tables.Goals as goal

pub bounds-s-2 : goal.bounds-s-2
bounds-s-2 c = omega (arith, sizes_of (represented c.args.s.holds))

pub slice_bounds-result-end : goal.slice_bounds-result-end
slice_bounds-result-end c = omega (arith, sizes_of (represented c.args.s.holds))

pub returns : goal.returns
unfolding span
returns c =
    let n : ℕ = table_count c.args.s.words.now in
    let size : tables_at + n - tables_at ≡ n = omega arith in
    ap (λ (m : ℕ). take m (drop tables_at c.args.s.words.now)) size
