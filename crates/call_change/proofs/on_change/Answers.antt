-- `call_change::on_change` meets its contract.
use Rattle.std.proofs.Common.{refl, rules}
use Rattle.call_change.proofs.on_change.Goals as goal

pub returns : goal.returns
returns g c =
    record {
      from = _;
      to = c.step-came.new.arg2;
      gave = c.step-came.result;
      begins = record { words = refl; buffer = refl; none = refl };
      ran = record { shown = _; shows = refl; left = _; met = c.step-came.ensures; leaves = refl };
      state_from = refl;
      state_to = refl;
      left = refl;
      events_from = refl;
      events_to = refl;
      rows = refl;
      answer = search rules;
    }
