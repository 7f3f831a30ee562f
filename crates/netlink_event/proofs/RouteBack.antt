-- The reader finds in the message of a route event what was put in.
-- Assumes nothing.
use Rattle.std.specs.Prelude.{ℕ, ◌+◌, ◌≤◌, ◌<◌, ◌≡◌, refl, true, false, cond, List, [], ◌∷◌, ◌++◌, eqb, length, get_or}
use Rattle.std.proofs.Math.Path.{sym, ap, ap₂}
use Rattle.std.proofs.Common.{◌∙◌, mod-eq_of_lt, arith, length-drop, lt-ltb, eqb-true}
use Rattle.std.proofs.Math.Option.{Option, none, some}
use Rattle.std.proofs.Math.ListN.{take}
use Rattle.std.proofs.lemmas.Bool.{eqb-false}
use Rattle.lists.specs.Lists.{Row, all, keep, pad}
use Rattle.lists.specs.Bools.{test-case, cond-case}
use Rattle.prefix.specs.Mask.{host_bits}
use Rattle.endian.specs.Laws.{Below}
use Rattle.layout.specs.Route as Route
use Rattle.netlink.specs.Attributes.{Attribute, last}
use Rattle.netlink.specs.Reader.{address, number, or_else, optional, message_flags, u32, nested, metrics_in, metrics_asked}
use Rattle.netlink.specs.Reader.{pairs_asked}
use Rattle.netlink.specs.Reader.{nested_right, sized_in, sizes, route_words, new_route, del_route, request, asked, read}
use Rattle.netlink_event.specs.Written.{address_bytes, bytes4, writable, presents, written_all, message}
use Rattle.netlink_event.proofs.Back.{bytes-back, number-back, address-back, two-back, all-entries, last-entry, or-back}
use Rattle.netlink_event.proofs.Back.{zero-back, total}
use Rattle.netlink_event.proofs.MessageBack.{Sound, read-message}
use Rattle.netlink_event.specs.Writer.{kind, flags, route_row, nonzero, onlink_flag, metric_entries, route_head, route_entries}
use Rattle.netlink_event.specs.Writer.{event_message, writes}
use Rattle.netlink_event.proofs.Fit.{RouteFits, lists, below-part, below-drop, value-back, flags-fit, of-route, route_as}
use Rattle.netlink_event.proofs.Fit.{message-3, message-4}
use Rattle.netlink_event.proofs.MetricsBack.{pairs_from, metrics-length, metrics-right, metrics-sized, nested-back, asked-back}
use Rattle.netlink_event.proofs.MetricsBack.{pairs-back}

-- ---- what both requests begin with, by the last attribute of each code
fields : (m : List ℕ) (l : List Attribute) {o1 o4 o5 o6 o7 o15 : Option (List ℕ)}
    → last 1 l ≡ o1 → last 4 l ≡ o4 → last 5 l ≡ o5 → last 6 l ≡ o6 → last 7 l ≡ o7 → last 15 l ≡ o15
    → route_words m l
    ≡ or_else number (get_or m 20 0) o15 ∷ or_else address 0 o1 ∷ get_or m 17 0 ∷ get_or m 19 0 ∷ or_else number 0 o6
    ∷ get_or m 23 0 ∷ get_or m 21 0 ∷ get_or m 22 0 ∷ (optional address o7 ++ (optional address o5 ++ (or_else number 0 o4 ∷ [])))
fields m l e1 e4 e5 e6 e7 e15 = rw (e1, e4, e5, e6, e7, e15)

-- ---- the table of a row
module _ (r : Row) where
  metrics-room : length (written_all (metric_entries (Route.metrics r))) ≤ 136
  metrics-room = metrics-length (Route.metrics r)

  pub route-total : total (route_entries r) ≤ 188
  route-total = omega (arith, metrics-room)

  fitting : all (λ e. writable e.attribute) (route_entries r) ≡ true
  fitting = rw (lt-ltb (length (written_all (metric_entries (Route.metrics r))) + 4) 65536 (omega (arith, metrics-room)))

  inner-right : all (λ e. nested_right e.attribute) (route_entries r) ≡ true
  inner-right = rw (metrics-right (Route.metrics r))

  new-sizes : sizes 24 (presents (route_entries r)) ≡ true
  unfolding sizes
  new-sizes = rw (all-entries (sized_in 24) (route_entries r) (rw (metrics-sized (Route.metrics r))))

  del-sizes : sizes 25 (presents (route_entries r)) ≡ true
  unfolding sizes
  del-sizes = rw (all-entries (sized_in 25) (route_entries r) (rw (metrics-sized (Route.metrics r))))

  new-sound : Sound 24 (route_head r) (route_entries r)
  new-sound =
      record {
        one-of-four = refl;
        type-fits = omega arith;
        head-ends = refl;
        head-family = refl;
        few = omega (arith, route-total);
        fit = fitting;
        inner = inner-right;
        sized = new-sizes;
      }

  del-sound : Sound 25 (route_head r) (route_entries r)
  del-sound =
      record {
        one-of-four = refl;
        type-fits = omega arith;
        head-ends = refl;
        head-family = refl;
        few = omega (arith, route-total);
        fit = fitting;
        inner = inner-right;
        sized = del-sizes;
      }

-- ---- the requests, in the row's own words
-- table, dst, len, tos, priority, kind, proto, scope, prefsrc, gateway, device; 4 for onlink; the event's flags; no metrics error; metrics
abbrev pub new_route_of : (up flags : ℕ) → Row → Row
new_route_of up flags r = take 13 r ++ (onlink_flag (Route.onlink r) ∷ flags ∷ 0 ∷ (Route.metrics r ++ (up ∷ [])))

-- the same 13; a list of metrics, how many aren't 0, and these behind their indexes
abbrev pub del_route_of : Row → Row
del_route_of r = take 13 r ++ (1 ∷ length (keep nonzero (Route.metrics r)) ∷ pad 34 (pairs_from 0 (Route.metrics r)))

-- an address of length 0 has host bits alone
no-prefix : (a n : ℕ) → a < 4294967296 → host_bits a n ≡ 0 → nonzero n ≡ false → a ≡ 0
unfolding host_bits
no-prefix a n b h e =
    let zero-length : n ≡ 0 = zero-back n e in
    let host : host_bits a 0 ≡ 0 = ap (host_bits a) (sym zero-length) ∙ h in
    sym (mod-eq_of_lt b) ∙ host

device-back : (n : ℕ) → n ≤ 1 → or_else number 0 (cond (eqb n 1) (some (bytes4 1)) none) ≡ n
device-back n h =
    test-case (eqb n 1) (λ e. rw e (sym (eqb-true n 1 e))) (λ e. rw e (omega (arith, h, eqb-false n 1 e)))

onlink-below : (n : ℕ) → onlink_flag n < 4294967296
onlink-below n = cond-case (λ (k : ℕ). k < 4294967296) (eqb n 1) (λ e. omega arith) (λ e. omega arith)

module _ (type flags sequence port : ℕ) (r : Row) (f : RouteFits r) (b : Below 4294967296 r) where
  m : List ℕ
  m = message type flags sequence port (route_head r) (route_entries r)

  words-are : route_words m (presents (route_entries r)) ≡ take 13 r
  unfolding m message
  words-are =
      let t = route_entries r in
      fields m (presents t) (last-entry 1 t refl) (last-entry 4 t refl) (last-entry 5 t refl) (last-entry 6 t refl) (last-entry 7 t refl) (last-entry 15 t refl)
      ∙ (λ i.
      number-back (Route.table r) (b 0) i
      ∷ or-back address (nonzero (Route.len r)) (address_bytes (Route.dst r)) (Route.dst r) (address-back (Route.dst r) (b 1))
      (no-prefix (Route.dst r) (Route.len r) (b 1) f.host) i
      ∷ Route.len r ∷ Route.tos r
      ∷ or-back number (nonzero (Route.priority r)) (bytes4 (Route.priority r)) (Route.priority r)
      (number-back (Route.priority r) (b 4)) (zero-back (Route.priority r)) i
      ∷ Route.kind r ∷ Route.proto r ∷ Route.scope r
      ∷ (value-back (Route.prefsrc_present r) (Route.prefsrc r) f.prefsrc (b 9) i
      ++ (value-back (Route.gateway_present r) (Route.gateway r) f.gateway (b 11) i
      ++ (device-back (Route.device r) f.device i ∷ []))))
      ∙ sym (lists 13 0 r (omega (arith, f.long)))

  metrics-are : metrics_in (presents (route_entries r)) ≡ presents (metric_entries (Route.metrics r))
  metrics-are = ap nested (last-entry 8 (route_entries r) refl) ∙ nested-back (Route.metrics r)

  seventeen : length (Route.metrics r) ≡ 17
  seventeen = omega (arith, length-drop 15 r, f.long)

  new-row : flags < 65536 → (up : ℕ) → new_route up m (presents (route_entries r)) ≡ new_route_of up flags r
  unfolding new_route
  new-row h up =
      let l = presents (route_entries r) in
      let k = Route.metrics r in
      ap₂ (λ (w q : Row). w ++ (u32 m 24 ∷ message_flags m ∷ (q ++ (up ∷ [])))) words-are
      (ap metrics_asked metrics-are ∙ asked-back k seventeen (below-drop 4294967296 15 r b))
      ∙ ap₂ (λ (o n : ℕ). take 13 r ++ (o ∷ n ∷ 0 ∷ (k ++ (up ∷ [])))) onlink-is (flags-are h)
    where
      onlink-is : u32 m 24 ≡ onlink_flag (Route.onlink r)
      onlink-is = unfold m in unfold message in bytes-back (onlink_flag (Route.onlink r)) (onlink-below (Route.onlink r))

      flags-are : flags < 65536 → message_flags m ≡ flags
      flags-are h = unfold m in unfold message in two-back flags h

  del-row : del_route m (presents (route_entries r)) ≡ del_route_of r
  unfolding del_route
  del-row =
      ap₂ (λ (w q : Row). w ++ q) words-are
      (ap pairs_asked metrics-are ∙ pairs-back (Route.metrics r) seventeen (below-drop 4294967296 15 r b))

asks-new : (up : ℕ) (m : List ℕ) (l : List Attribute) → request up m 24 l ≡ new_route up m l
unfolding request
asks-new up m l = refl

asks-del : (up : ℕ) (m : List ℕ) (l : List Attribute) → request up m 25 l ≡ del_route m l
unfolding request
asks-del up m l = refl

-- ---- THE LAWS: the reader accepts the message of an event, and the request has the row's words
module _ (sequence port now : ℕ) (e : Row) (w : writes e ≡ true) (b : Below 4294967296 e) (up : ℕ) where
  pub read-new-route : kind e ≡ 3
      → read up (event_message sequence port now e) ≡ asked 24 (new_route_of up (flags e) (route_row e))
  unfolding m
  read-new-route k =
      let r = route_row e in
      let fit = of-route e w (rw k) in
      let there = presents (route_entries r) in
      let bytes = route_as sequence port now e 24 in
      ap (read up) (message-3 sequence port now e k)
      ∙ read-message 24 (flags e) sequence port (route_head r) (route_entries r) (new-sound r) up
      ∙ ap (asked 24) (asks-new up bytes there ∙ new-row 24 (flags e) sequence port r fit (below-part 32 2 e b) (flags-fit e w) up)

  pub read-del-route : kind e ≡ 4 → read up (event_message sequence port now e) ≡ asked 25 (del_route_of (route_row e))
  unfolding m
  read-del-route k =
      let r = route_row e in
      let fit = of-route e w (rw k) in
      let there = presents (route_entries r) in
      let bytes = route_as sequence port now e 25 in
      ap (read up) (message-4 sequence port now e k)
      ∙ read-message 25 (flags e) sequence port (route_head r) (route_entries r) (del-sound r) up
      ∙ ap (asked 25) (asks-del up bytes there ∙ del-row 25 (flags e) sequence port r fit (below-part 32 2 e b))
