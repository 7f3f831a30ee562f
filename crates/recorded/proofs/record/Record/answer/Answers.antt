-- `recorded::record::Record::answer` meets its contract: the call is lent the first words of each.
-- Assumes nothing.
use Rattle.std.specs.Prelude.{get_or}
use Rattle.std.proofs.Common.{arith, sym, ◌∙◌}
use Rattle.call_dispatch.specs.Laws.{coded}
use Rattle.recorded.specs.Laws.{answered}
use Rattle.recorded.proofs.record.Record.answer.Goals as goal

pub unwrap-call-requires : goal.unwrap-call-requires
unwrap-call-requires c = rw c.try_from.ensures c.args.self.bounds.call

pub returns : goal.returns
returns c =
    let r = c.args.self.words.now in
    let number = coded (get_or r 2 0) (sym c.try_from.ensures ∙ c.unwrap-call.ensures) in
    let both = answered r c.args.held.now c.args.buffer.now c.lent.result.now (omega (arith, c.args.self.bounds.buffer)) c.lent.ensures (rw number at c.make.ensures) in
    record { value = both.0; held_after = both.1.0; buffer_after = both.1.1 }
