-- The fields before any attribute, and the words of a request, from the fields and the message's headers.
use Rattle.std.specs.Prelude.{ℕ, true, false, ◌&&◌, not, List, [], ◌∷◌, None, unwrap_or, get_or}
use Rattle.lists.specs.Lists.{Row}
use Rattle.layout.specs.Flags.{has_bit}
use Rattle.netlink.specs.Codes.{replace_bit, excl_bit}
use Rattle.netlink.specs.Reader.{forever, flag, message_flags}
use Rattle.netlink_address.specs.declared.new_addr.NewAddr.{NewAddr}
use Rattle.netlink_address.specs.declared.del_addr.DelAddr.{DelAddr}

abbrev pub new_addr_begun : List ℕ → NewAddr
new_addr_begun m = record {
  local = None;
  address = None;
  extras = record {
    broadcast = 0 ∷ 0 ∷ [];
    flags = get_or m 18 0;
    proto = 0;
    label = 2 ∷ 28524 ∷ 0 ∷ 0 ∷ 0 ∷ [];
    priority = 0;
    valid = forever;
    preferred = forever;
    is_sized = true;
  };
}

abbrev pub del_addr_begun : DelAddr
del_addr_begun = record { local = 0 ∷ 0 ∷ []; address = 0 ∷ 0 ∷ []; has_label = false; label = 0 ∷ 0 ∷ 0 ∷ 0 ∷ 0 ∷ []; is_sized = true }

abbrev pub new_addr_words : ℕ → List ℕ → NewAddr → Row
new_addr_words up m s =
    unwrap_or s.local 0
    ∷ unwrap_or s.address (unwrap_or s.local 0)
    ∷ get_or m 17 0
    ∷ get_or s.extras.broadcast 0 0
    ∷ get_or s.extras.broadcast 1 0
    ∷ get_or m 19 0
    ∷ s.extras.flags
    ∷ s.extras.proto
    ∷ get_or s.extras.label 0 0
    ∷ get_or s.extras.label 1 0
    ∷ get_or s.extras.label 2 0
    ∷ get_or s.extras.label 3 0
    ∷ get_or s.extras.label 4 0
    ∷ s.extras.priority
    ∷ s.extras.valid
    ∷ s.extras.preferred
    ∷ flag (has_bit replace_bit (message_flags m) && not (has_bit excl_bit (message_flags m)))
    ∷ up
    ∷ []

abbrev pub del_addr_words : List ℕ → DelAddr → Row
del_addr_words m s =
    get_or s.local 0 0
    ∷ get_or s.local 1 0
    ∷ get_or s.address 0 0
    ∷ get_or s.address 1 0
    ∷ get_or m 17 0
    ∷ flag s.has_label
    ∷ get_or s.label 0 0
    ∷ get_or s.label 1 0
    ∷ get_or s.label 2 0
    ∷ get_or s.label 3 0
    ∷ get_or s.label 4 0
    ∷ []
