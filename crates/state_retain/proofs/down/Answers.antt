-- `state_retain::down` meets its contract: what remains is what the definition keeps.
-- Assumes nothing.
use Rattle.std.proofs.Common.{true, rules}
use Rattle.state_retain.specs.Retain.{remains, is_down}
use Rattle.state_retain.proofs.down.Goals as goal

pub returns : goal.returns
returns c =
    let t = c.retain.ensures (remains true) (λ r b d. search rules) in
    record { holds = λ st h. rw (← (is_down st)) (t.holds st h); place = t.place }
