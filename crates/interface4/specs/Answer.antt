-- What the host asks of the library beyond the definition's calls: a state looked at alone, and the sizes of what it lends.
use Rattle.std.specs.Prelude.{ℕ, List, [], cond, eqb, length}
use Rattle.std.specs.Int.Count.{ones}
use Rattle.netmask.specs.Netmask.{good, bad_mask}
use Rattle.definition.specs.Call.{Reply, refusal, valued}
use Rattle.definition.specs.Words.{state_size, formed}
use Rattle.definition.specs.Step.{checks, event_limit}

-- 200 or 201 as each call gives it, else 0
abbrev pub check_reply : List ℕ → Reply
check_reply w = refusal (checks (eqb (length w) state_size) (formed w) 0)

-- the prefix of a netmask
abbrev pub prefix_reply : ℕ → Reply
prefix_reply mask = cond (good mask) (valued (ones mask)) (refusal bad_mask)

-- the number of the last paper of document 02 that landed
abbrev pub paper : ℕ
paper = 10

-- a host asks once, and knows that it and the library mean the same words
abbrev pub sizes_reply : Reply
sizes_reply = record { number = 0; present = paper; value = state_size; second = event_limit; rows = [] }
