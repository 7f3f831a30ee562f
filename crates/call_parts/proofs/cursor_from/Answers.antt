-- `call_parts::cursor_from` meets its contract.
use Rattle.std.proofs.Common.{refl, get_or-drop}
use Rattle.call_parts.proofs.cursor_from.Goals as goal

pub returns-in-Start : goal.returns-in-Start
returns-in-Start c = rw c.in-Start.is (simp get_or-drop refl)
