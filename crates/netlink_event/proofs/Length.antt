-- A message takes at most 216 bytes, that of an address 112, and a multiple of four; its attributes stand in rising order.
-- Assumes nothing.
use Rattle.std.specs.Prelude.{ℕ, ◌+◌, ◌%◌, ◌≤◌, ◌≡◌, true, length}
use Rattle.std.proofs.Common.{refl, ap, ◌∙◌, arith}
use Rattle.lists.specs.Lists.{Row}
use Rattle.netlink_event.specs.Written.{written_all}
use Rattle.netlink_event.proofs.Back.{rising, at-most, table-fours}
use Rattle.netlink_event.proofs.MessageBack.{length-message}
use Rattle.netlink_event.specs.Writer.{flags, address_row, route_row, of_address, of_route, type_of}
use Rattle.netlink_event.specs.Writer.{address_head, address_entries, route_head, route_entries, metric_entries}
use Rattle.netlink_event.specs.Writer.{event_message, writes, message_most}
use Rattle.netlink_event.proofs.Fit.{row-fits, of-address, address-message, route-message}
use Rattle.netlink_event.proofs.AddressBack.{address-total}
use Rattle.netlink_event.proofs.RouteBack.{route-total}

pub address-rises : (now : ℕ) (a : Row) → rising (address_entries now a) ≡ true
address-rises now a = refl

pub route-rises : (r : Row) → rising (route_entries r) ≡ true
route-rises r = refl

pub metrics-rise : (l : Row) → rising (metric_entries l) ≡ true
metrics-rise l = refl

module _ (sequence port now : ℕ) (e : Row) where
  pub length-address : of_address e ≡ true
      → length (event_message sequence port now e) ≡ 24 + length (written_all (address_entries now (address_row e)))
  length-address k =
      let a = address_row e in
      ap length (address-message sequence port now e k)
      ∙ length-message (type_of e) (flags e) sequence port (address_head a) (address_entries now a)

  pub length-route : of_route e ≡ true
      → length (event_message sequence port now e) ≡ 28 + length (written_all (route_entries (route_row e)))
  length-route k =
      let r = route_row e in
      ap length (route-message sequence port now e k)
      ∙ length-message (type_of e) (flags e) sequence port (route_head r) (route_entries r)

  module _ (w : writes e ≡ true) where
    pub address-most : of_address e ≡ true → length (event_message sequence port now e) ≤ 112
    address-most k =
        omega (arith, length-address k, at-most (address_entries now (address_row e)), address-total now (address_row e) (of-address e w k))

    pub within-most : length (event_message sequence port now e) ≤ message_most
    within-most =
        row-fits e w
        (λ k f. omega (arith, address-most k))
        (λ k f. omega (arith, length-route k, at-most (route_entries (route_row e)), route-total (route_row e)))

    pub message-fours : length (event_message sequence port now e) % 4 ≡ 0
    message-fours =
        row-fits e w
        (λ k f. omega (arith, length-address k, table-fours (address_entries now (address_row e))))
        (λ k f. omega (arith, length-route k, table-fours (route_entries (route_row e))))
