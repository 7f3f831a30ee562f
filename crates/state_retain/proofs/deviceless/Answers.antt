-- `state_retain::deviceless` meets its contract: what remains isn't through the device.
-- Assumes nothing.
use Rattle.std.proofs.Common.{false, rules}
use Rattle.state_retain.specs.Retain.{remains, is_deviceless}
use Rattle.state_retain.proofs.deviceless.Goals as goal

pub returns : goal.returns
returns c =
    let t = c.retain.ensures (remains false) (λ r b d. search rules) in
    record { holds = λ st h. rw (← (is_deviceless st)) (t.holds st h); place = t.place }
