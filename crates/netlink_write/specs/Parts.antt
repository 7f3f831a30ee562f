-- Parts of a message, as the functions that write them promise them.
use Rattle.std.specs.Prelude.{ℕ, cond, List, [], ◌∷◌, ◌++◌}
use Rattle.lists.specs.Lists.{Row}
use Rattle.netlink.specs.Codes.{ifa_label, ifa_cacheinfo}
use Rattle.netlink_event.specs.Written.{Entry, always, written_all}
use Rattle.netlink_event.specs.Writer.{address_row, route_row, of_address, address_head, label_bytes, cacheinfo, address_entries}
use Rattle.netlink_event.specs.Writer.{route_head, route_entries}

abbrev pub label_entry : Row → Entry
label_entry a = always ifa_label (label_bytes a ++ (0 ∷ []))

abbrev pub cacheinfo_entry : ℕ → Row → Entry
cacheinfo_entry now a = always ifa_cacheinfo (cacheinfo now a)

-- the bytes of an event's message behind netlink's header
abbrev pub address_body : ℕ → Row → List ℕ
address_body now a = address_head a ++ written_all (address_entries now a)

abbrev pub route_body : Row → List ℕ
route_body r = route_head r ++ written_all (route_entries r)

unfoldable pub body : ℕ → Row → List ℕ
body now e = cond (of_address e) (address_body now (address_row e)) (route_body (route_row e))
