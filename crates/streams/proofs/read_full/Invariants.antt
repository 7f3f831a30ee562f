-- `streams::read_full` ends, and what it has read so far stands at the front.
-- Assumes nothing.
use Rattle.std.proofs.Common.{length, ◌-◌, take, ◌≡◌, ◌≤◌}
use Rattle.std.specs.Io.KnownBytes.{Consumes}
use Rattle.streams.proofs.read_full.Given as goal

abbrev pub invariant-loop-n : goal.invariant-loop-n
invariant-loop-n g l = record {
  kept : length l.bytes ≡ length l.initial.bytes;
  within : l.n ≤ length l.bytes;
  taken : Consumes (g.R.Read.remaining l.initial.input) (g.R.Read.remaining l.input) (take l.n l.bytes);
}

abbrev pub decreases-loop-n : goal.decreases-loop-n
decreases-loop-n g l = length l.initial.bytes - l.n
