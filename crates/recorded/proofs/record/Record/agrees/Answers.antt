-- `recorded::record::Record::agrees` meets its contract: each part of the comparison is the definition's.
-- Assumes nothing.
use Rattle.std.proofs.Common.{rules}
use Rattle.recorded.specs.Laws.{agreed}
use Rattle.recorded.proofs.record.Record.agrees.Goals as goal

pub returns-clause-value : goal.returns-clause-value
returns-clause-value c =
    agreed c.args.self.words.now c.args.held.now c.args.buffer.now _ _ _ _ _ _ _ _ _ _ _ c.begin.ensures c.rows.ensures c.store.ensures c.answer-reply.ensures.value
    c.answer-reply.ensures.held_after c.answer-reply.ensures.buffer_after c.changed.ensures c.set_pairs.ensures c.same_reply.ensures (search rules) (search rules)
