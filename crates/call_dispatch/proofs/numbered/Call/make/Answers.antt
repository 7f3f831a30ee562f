-- `call_dispatch::numbered::Call::make` meets its contract: each call is the one that its number says.
use Rattle.std.proofs.Common.{refl}
use Rattle.call_dispatch.specs.Numbered.{call_by}
use Rattle.call_dispatch.specs.Laws.{made-did, asked-did, left-did}
use Rattle.call_dispatch.proofs.numbered.Call.make.Goals as goal

pub returns-in-Up : goal.returns-in-Up
unfolding call_by
returns-in-Up c = rw (c.in-Up.is, ← c.clock_of.ensures) (made-did c.up.ensures)

pub returns-in-Down : goal.returns-in-Down
unfolding call_by
returns-in-Down c = rw c.in-Down.is (made-did c.down.ensures)

pub returns-in-AddV4 : goal.returns-in-AddV4
unfolding call_by
returns-in-AddV4 c = rw (c.in-AddV4.is, ← c.clock_of-in-AddV4.ensures) (made-did c.add_v4.ensures)

pub returns-in-DelV4 : goal.returns-in-DelV4
unfolding call_by
returns-in-DelV4 c = rw c.in-DelV4.is (made-did c.del_v4.ensures)

pub returns-in-Expire : goal.returns-in-Expire
unfolding call_by
returns-in-Expire c = rw (c.in-Expire.is, ← c.clock_of-in-Expire.ensures, ← c.clock_of-in-Expire-2.ensures) (made-did c.expire.ensures)

pub returns-in-AddRoute4 : goal.returns-in-AddRoute4
unfolding call_by
returns-in-AddRoute4 c = rw c.in-AddRoute4.is (made-did c.add_route4.ensures)

pub returns-in-DelRoute4 : goal.returns-in-DelRoute4
unfolding call_by
returns-in-DelRoute4 c = rw c.in-DelRoute4.is (made-did c.del_route4.ensures)

pub returns-in-Dump4 : goal.returns-in-Dump4
unfolding call_by
returns-in-Dump4 c = rw c.in-Dump4.is (made-did c.dump4.ensures)

pub returns-in-Lookup4 : goal.returns-in-Lookup4
unfolding call_by
returns-in-Lookup4 c = rw c.in-Lookup4.is (made-did c.lookup4.ensures)

pub returns-in-Lookup4Flow : goal.returns-in-Lookup4Flow
unfolding call_by
returns-in-Lookup4Flow c = rw c.in-Lookup4Flow.is (made-did c.lookup4_flow.ensures)

pub returns-in-Local4 : goal.returns-in-Local4
unfolding call_by
returns-in-Local4 c = rw c.in-Local4.is (asked-did refl c.local4.ensures)

pub returns-in-Source4 : goal.returns-in-Source4
unfolding call_by
returns-in-Source4 c = rw c.in-Source4.is (asked-did refl c.source4.ensures)

pub returns-in-Source : goal.returns-in-Source
unfolding call_by
returns-in-Source c = rw c.in-Source.is (asked-did refl c.source.ensures)

pub returns-in-Select4 : goal.returns-in-Select4
unfolding call_by
returns-in-Select4 c = rw c.in-Select4.is (asked-did refl c.select4.ensures)

pub returns-in-Left : goal.returns-in-Left
unfolding call_by
returns-in-Left c = rw c.in-Left.is (left-did c.args.lent.now _ c.args.state.now c.args.buffer.now c.left.ensures.result_value c.clock_of-in-Left.ensures c.remaining.ensures)

pub returns-in-AddV4Mask : goal.returns-in-AddV4Mask
unfolding call_by
returns-in-AddV4Mask c = rw (c.in-AddV4Mask.is, ← c.clock_of-in-AddV4Mask.ensures) c.add_v4_mask.ensures

pub returns-in-DelV4Mask : goal.returns-in-DelV4Mask
unfolding call_by
returns-in-DelV4Mask c = rw c.in-DelV4Mask.is c.del_v4_mask.ensures
