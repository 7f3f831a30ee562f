-- The types of a message, and their numbers.
use Rattle.std.specs.Prelude.{ℕ, ◌≡◌, Result, Ok, Err}
use Rattle.std.proofs.Math.Bool.{false}
use Rattle.refusal.specs.declared.Refusal.{Refusal}
use Rattle.refusal.specs.declared.Refusal.TheVariants.{OtherType}
use Rattle.netlink.specs.Codes.{rtm_new_addr, rtm_del_addr, rtm_new_route, rtm_del_route}
use Rattle.netlink.specs.Exactly.{known}
use Rattle.netlink.specs.declared.MessageType.{MessageType}
use Rattle.netlink.specs.declared.MessageType.TheVariants.{NewAddr, DelAddr, NewRoute, DelRoute}

abbrev pub number_of : MessageType → ℕ
number_of NewAddr = rtm_new_addr
number_of DelAddr = rtm_del_addr
number_of NewRoute = rtm_new_route
number_of DelRoute = rtm_del_route

-- the type of a number, or none of the four
abbrev pub Decodes : ℕ → Result MessageType Refusal → Type 0
Decodes n (Ok t) = number_of t ≡ n
Decodes n (Err e) = (e ≡ OtherType) × (known n ≡ false)
