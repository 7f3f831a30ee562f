use Rattle.std.proofs.Common.{◌≡◌, map, take, length}
use Rattle.row_address.specs.Words.{row_of}
use Rattle.call_records.proofs.records.Given as goal

abbrev pub invariant-loop-i : goal.invariant-loop-i
invariant-loop-i l = record { room : length l.room ≡ 64; read : map row_of (take l.i l.room) ≡ take l.i l.addresses.rows.now }
