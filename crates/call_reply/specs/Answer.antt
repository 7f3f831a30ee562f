-- A reply's numbers; the rows stand in the buffer that was lent.
use Rattle.definition.specs.Call as Call
use Rattle.call_read.specs.Answer.{Numbers, numbers}
use Rattle.life.specs.declared.Left.{Left}
use Rattle.call_reply.specs.declared.Reply.{Reply}

abbrev pub reply_from : Numbers → Reply
reply_from n = record { number = n.number; present = n.present; value = n.value; second = n.second }

abbrev pub reply_of : Call.Reply → Reply
reply_of r = reply_from (numbers r)

-- the two lifetimes that are left
abbrev pub left_by : Left → Numbers
left_by l = record { number = 0; present = 0; value = l.preferred.0; second = l.valid.0 }

-- and back: the numbers that a reply holds
abbrev pub numbers_in : Reply → Numbers
numbers_in r = record { number = r.number; present = r.present; value = r.value; second = r.second }
