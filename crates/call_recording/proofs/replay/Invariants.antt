-- After i events the words hold the rows of those.
use Rattle.std.specs.Prelude.{List, map, ◌≡◌}
use Rattle.lists.specs.Lists.{Row}
use Rattle.step_rebuild.specs.Holds.{HoldsRows}
use Rattle.call_recording.specs.Laws.{Sofar}
use Rattle.call_recording.proofs.replay.Given as goal

abbrev pub invariant-loop-e : goal.invariant-loop-e
invariant-loop-e g l =
    record {
      sofar : (m : List Row) → HoldsRows l.initial.s.words.now m → Sofar (map g.E.Recorded.words l.events) l.s.words.now l.e-index m;
      place : l.s.words.ghost_name ≡ l.initial.s.words.ghost_name;
    }
