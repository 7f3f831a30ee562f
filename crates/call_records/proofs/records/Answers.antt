use Rattle.std.proofs.Common.{arith, length-set, []}
use Rattle.lists.specs.At.{all-at}
use Rattle.layout.specs.Address.{fit_address}
use Rattle.call_records.specs.Laws.{read_more}
use Rattle.call_records.proofs.records.Goals as goal

pub loop-i-preserved : goal.loop-i-preserved
loop-i-preserved c =
    record {
      room = simp length-set c.loop-i.invariant.room;
      read = read_more c.loop-i.room c.loop-i.i c.args.addresses.rows.now c.from.result (omega arith) c.loop-i-test.true (c.from.ensures.1 (all-at fit_address c.loop-i.i c.args.addresses.rows.now [] c.loop-i-test.true c.args.addresses.fit)) c.loop-i.invariant.read;
    }
