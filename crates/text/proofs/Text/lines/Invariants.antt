-- After i iterations the first i rows' lines are written.
use Rattle.std.proofs.Common.{◌*◌, ◌≤◌, length, take}
use Rattle.lists.specs.Lists.{each}
use Rattle.text.specs.Print.{line}
use Rattle.text.specs.Wrote.{Appends}
use Rattle.text.proofs.Text.lines.Given as goal

abbrev pub invariant-loop-r : goal.invariant-loop-r
invariant-loop-r l =
    record {
      bound : length (each line (take l.r-index l.rows)) ≤ 75 * l.r-index;
      text : Appends l.initial.self (each line (take l.r-index l.rows)) l.self;
    }
