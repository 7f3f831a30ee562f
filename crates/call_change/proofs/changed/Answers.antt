-- `call_change::changed` meets its contract.
use Rattle.std.proofs.Common.{arith, sym, ◌∙◌, length, ◌≡◌}
use Rattle.lists.specs.Bools.{or-false}
use Rattle.definition.specs.Words.{base_size}
use Rattle.definition.proofs.Preservation.Step.{base-long}
use Rattle.call_change.specs.Count.{in-lists, settled, counted-alone, unsettled}
use Rattle.call_change.proofs.changed.Goals as goal

pub slice_bounds-stepped-end-2 : goal.slice_bounds-stepped-end-2
slice_bounds-stepped-end-2 g c = sym (base-long c.args.state.now c.requires.holds.0)

pub returns-then-told_routes-tables : goal.returns-then-told_routes-tables
returns-then-told_routes-tables g c =
    let lists = c.stepped-told.new.words in
    let whole = c.requires.holds.0 in
    let long : length lists ≡ base_size = c.stepped-told.auto.words ∙ base-long c.args.state.now whole in
    record {
      lists = lists;
      long = long;
      ran = c.stepped-told.ensures;
      words = λ well still.
          settled c.args.state.now lists long _
          (rw (in-lists c.args.state.now lists long 2 (omega arith), c.told_some.ensures) at c.if-told_some-other.true)
          c.settle.ensures well;
    }

pub returns-else-told_routes-tables : goal.returns-else-told_routes-tables
returns-else-told_routes-tables g c =
    let lists = c.stepped-told.new.words in
    let whole = c.requires.holds.0 in
    let long : length lists ≡ base_size = c.stepped-told.auto.words ∙ base-long c.args.state.now whole in
    let none = or-false _ _ (rw (in-lists c.args.state.now lists long 2 (omega arith), c.told_routes.ensures) at c.if-told_routes-tables.false) in
    record {
      lists = lists;
      long = long;
      ran = c.stepped-told.ensures;
      words = λ well still.
          counted-alone c.args.state.now lists long _ whole
          (rw (in-lists c.args.state.now lists long 2 (omega arith), c.told_some.ensures) at c.if-told_some-other.true)
          c.count.ensures (still none.0 none.1);
    }

pub returns-else-told_some-other : goal.returns-else-told_some-other
returns-else-told_some-other g c =
    let lists = c.stepped-told.new.words in
    let whole = c.requires.holds.0 in
    let long : length lists ≡ base_size = c.stepped-told.auto.words ∙ base-long c.args.state.now whole in
    record {
      lists = lists;
      long = long;
      ran = c.stepped-told.ensures;
      words = λ well still.
          unsettled c.args.state.now lists long _
          (rw (in-lists c.args.state.now lists long 2 (omega arith), c.told_some.ensures) at c.if-told_some-other.false)
          well;
    }
