-- The parts of a message, of a type and with an end.
use Rattle.std.specs.Prelude.{ℕ, ◌≡◌, List}
use Rattle.netlink.specs.Types.{number_of}
use Rattle.netlink.specs.declared.MessageType.{MessageType}
use Rattle.netlink_refusal.specs.declared.Message.{Message}
use Rattle.netlink_refusal.specs.Order.{body_of}

pub record Parts (kind : MessageType) (m : List ℕ) (end : ℕ) (p : Message) : Type 0 where
  pub kind_is : p.kind ≡ kind
  pub bytes_are : p.bytes.now ≡ m
  pub body_is : p.body.now ≡ body_of (number_of kind) m end
