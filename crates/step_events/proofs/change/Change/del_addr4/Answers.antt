use Rattle.layout.specs.Event.{del_addr4}
use Rattle.step_events.proofs.change.Change.del_addr4.Goals as goal

pub returns : goal.returns
unfolding del_addr4
returns c = record { tells = rw c.event_row.ensures at c.tell.ensures.tells; state = c.tell.ensures.state }
