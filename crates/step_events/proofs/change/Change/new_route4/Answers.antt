use Rattle.std.proofs.Common.{append-nil}
use Rattle.lists.specs.Lists.{zeros}
use Rattle.layout.specs.Event.{new_route4}
use Rattle.step_events.proofs.change.Change.new_route4.Goals as goal

pub returns : goal.returns
unfolding new_route4 zeros
returns c = record { tells = rw (c.event_row.ensures, append-nil c.args.r.now) at c.tell.ensures.tells; state = c.tell.ensures.state }
