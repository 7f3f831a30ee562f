-- `call_change::stepped` meets its contract: what is handed back is what was lent.
use Rattle.std.proofs.Common.{rules, sym, ◌∙◌}
use Rattle.call_change.proofs.stepped.Goals as goal

pub returns : goal.returns
returns g c =
    let t = c.on_change-ended.ensures in
    record {
      from = t.from;
      to = t.to;
      gave = t.gave;
      begins = t.begins;
      ran = t.ran;
      left = λ e. search (rules, sym t.state_from ∙ e ∙ sym t.state_to, t.left);
      rows = λ e. search (rules, sym t.events_from ∙ e ∙ sym t.events_to, t.rows);
      answer = t.answer;
    }
