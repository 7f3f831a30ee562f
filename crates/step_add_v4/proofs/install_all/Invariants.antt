-- After i iterations the first i addresses' routes are brought, four rows told for each at most.
use Rattle.std.proofs.Common.{◌≡◌, ◌*◌}
use Rattle.definition.specs.Words.{address_count}
use Rattle.step_events.specs.Tells.{TellsAtMost}
use Rattle.step_add_v4.specs.Every.{Brought}
use Rattle.step_add_v4.proofs.install_all.Given as goal

abbrev pub invariant-loop-i : goal.invariant-loop-i
invariant-loop-i l =
    record {
      brought : Brought l.i l.initial.change l.change;
      told : TellsAtMost (4 * l.i) l.initial.change l.change;
      addresses : address_count l.change.state.words.now ≡ address_count l.initial.change.state.words.now;
    }
