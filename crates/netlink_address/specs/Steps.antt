-- What an attribute makes of the fields.
use Rattle.std.specs.Prelude.{ℕ, Bool, true, ◌&&◌, List, [], ◌∷◌, Option, Some, leb, length}
use Rattle.netlink.specs.Codes.{rtm_new_addr, rtm_del_addr, ifa_address, ifa_local, ifa_label, ifa_broadcast, ifa_cacheinfo, ifa_flags, ifa_rt_priority, ifa_proto}
use Rattle.netlink.specs.Attributes.{Attribute}
use Rattle.netlink.specs.Reader.{address, number, byte, preferred_in, valid_in, label, label_words, sized_in}
use Rattle.netlink_attributes.specs.Kept.{long, placed}
use Rattle.netlink_address.specs.declared.new_addr.Extras.{Extras}
use Rattle.netlink_address.specs.declared.new_addr.NewAddr.{NewAddr}
use Rattle.netlink_address.specs.declared.del_addr.DelAddr.{DelAddr}

abbrev pub short_label : List ℕ → Bool
short_label p = leb (length (label p)) 15

abbrev pub some_address : List ℕ → Option ℕ
some_address p = Some (address p)

abbrev pub words_in : List ℕ → List ℕ
words_in p = label_words (label p)

-- that there is one, and the address
abbrev pub marked_address : List ℕ → List ℕ
marked_address p = 1 ∷ address p ∷ []

abbrev pub extras_step : Extras → Attribute → Extras
extras_step s a = record {
  broadcast = placed ifa_broadcast (long 4) marked_address s.broadcast a;
  flags = placed ifa_flags (long 4) number s.flags a;
  proto = placed ifa_proto (long 1) byte s.proto a;
  label = placed ifa_label short_label words_in s.label a;
  priority = placed ifa_rt_priority (long 4) number s.priority a;
  valid = placed ifa_cacheinfo (long 16) valid_in s.valid a;
  preferred = placed ifa_cacheinfo (long 16) preferred_in s.preferred a;
  is_sized = s.is_sized && sized_in rtm_new_addr a;
}

abbrev pub new_addr_step : NewAddr → Attribute → NewAddr
new_addr_step s a = record {
  local = placed ifa_local (long 4) some_address s.local a;
  address = placed ifa_address (long 4) some_address s.address a;
  extras = extras_step s.extras a;
}

abbrev pub del_addr_step : DelAddr → Attribute → DelAddr
del_addr_step s a = record {
  local = placed ifa_local (long 4) marked_address s.local a;
  address = placed ifa_address (long 4) marked_address s.address a;
  has_label = placed ifa_label short_label (λ p. true) s.has_label a;
  label = placed ifa_label short_label words_in s.label a;
  is_sized = s.is_sized && sized_in rtm_del_addr a;
}
