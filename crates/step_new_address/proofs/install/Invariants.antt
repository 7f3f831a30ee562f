use Rattle.std.proofs.Common.{◌≡◌, take, Ok}
use Rattle.definition.specs.State.{through}
use Rattle.definition.specs.Words.{address_count}
use Rattle.definition.specs.Reference.Insert.{kernel_add4}
use Rattle.step_events.specs.Tells.{TellsAtMost}
use Rattle.step_new_address.specs.Adding.{AddsFrom}
use Rattle.step_new_address.proofs.install.Given as goal

abbrev pub invariant-loop-row : goal.invariant-loop-row
invariant-loop-row l =
    record {
      adds : AddsFrom (through kernel_add4 (take l.row-index l.routes.rows.now)) l.initial.change l.change (Ok tt);
      told : TellsAtMost l.row-index l.initial.change l.change;
      addresses : address_count l.change.state.words.now ≡ address_count l.initial.change.state.words.now;
    }
