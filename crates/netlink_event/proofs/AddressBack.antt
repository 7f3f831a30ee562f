-- The reader finds in the message of an address event what was put in.
-- Assumes nothing.
use Rattle.std.specs.Prelude.{ℕ, ◌+◌, ◌≤◌, ◌<◌, ◌≡◌, true, ◌&&◌, List, [], ◌∷◌, ◌++◌, length, get_or, take, drop}
use Rattle.std.proofs.Math.Path.{refl, ap}
use Rattle.std.proofs.Common.{sym, ◌∙◌, arith, length-append}
use Rattle.std.proofs.Math.Bool.{not}
use Rattle.std.proofs.Math.Option.{Option}
use borrow.Author.Tests.{le-leb, lt-ltb}
use Rattle.lists.specs.Lists.{Row, all, zeros}
use Rattle.lists.specs.Rows.{length-zeros}
use Rattle.endian.specs.Laws.{Below}
use Rattle.layout.specs.Flags.{has_bit}
use Rattle.layout.specs.Address as Address
use Rattle.definition.specs.Reference.Source.{left}
use Rattle.netlink.specs.Codes.{replace_bit, excl_bit}
use Rattle.netlink.specs.Attributes.{Attribute, last}
use Rattle.netlink.specs.Reader.{address, number, byte, flag, forever, or_else, optional, label, label_words, label_or, lo}
use Rattle.netlink.specs.Reader.{valid_in, preferred_in}
use Rattle.netlink.specs.Reader.{message_flags, sized_in, sizes, new_addr, del_addr, request, asked, read}
use Rattle.netlink_event.specs.Written.{bytes4, writable, presents, message}
use Rattle.netlink_event.proofs.Back.{bytes-back, number-back, address-back, two-back, all-entries, last-entry, or-back}
use Rattle.netlink_event.proofs.Back.{zero-back, total}
use Rattle.netlink_event.proofs.MessageBack.{Sound, read-message}
use Rattle.netlink_event.specs.Found.{zeroless}
use Rattle.netlink_event.specs.Writer.{kind, flags, address_row, nonzero, address_head, label_bytes, cacheinfo, address_entries}
use Rattle.netlink_event.specs.Writer.{event_message, writes}
use Rattle.netlink_event.proofs.Fit.{AddressFits, listed, lists, below-part, left-preferred-below, left-valid-below, value-back}
use Rattle.netlink_event.proofs.Fit.{flags-fit, of-address, address_as, message-1, message-2}
use Rattle.netlink_event.proofs.LabelBack.{closing-zero, bytes-short, label-short, uncut, label-back}

-- ---- what the requests are, by the last attribute of each code
new-fields : (up : ℕ) (m : List ℕ) (l : List Attribute) {o1 o2 o3 o4 o6 o8 o9 o11 : Option (List ℕ)}
    → last 1 l ≡ o1 → last 2 l ≡ o2 → last 3 l ≡ o3 → last 4 l ≡ o4 → last 6 l ≡ o6 → last 8 l ≡ o8 → last 9 l ≡ o9 → last 11 l ≡ o11
    → new_addr up m l
    ≡ or_else address 0 o2 ∷ or_else address (or_else address 0 o2) o1 ∷ get_or m 17 0
    ∷ (optional address o4 ++ (get_or m 19 0 ∷ or_else number (get_or m 18 0) o8 ∷ or_else byte 0 o11
    ∷ (label_words (label_or lo o3) ++ (or_else number 0 o9 ∷ or_else valid_in forever o6 ∷ or_else preferred_in forever o6
    ∷ flag (has_bit replace_bit (message_flags m) && not (has_bit excl_bit (message_flags m))) ∷ up ∷ []))))
unfolding new_addr
new-fields up m l e1 e2 e3 e4 e6 e8 e9 e11 = rw (e1, e2, e3, e4, e6, e8, e9, e11)

-- ---- a row that fits
module _ (now : ℕ) (a : Row) (f : AddressFits a) where
  long-label : length (label_bytes a ++ (0 ∷ [])) ≤ 16
  long-label = omega (arith, length-append (label_bytes a) (0 ∷ []), bytes-short a f)

  long-cache : length (cacheinfo now a) ≡ 16
  long-cache = omega (arith, length-zeros 8)

  pub address-total : total (address_entries now a) ≤ 88
  address-total = omega (arith, long-label, long-cache)

  fitting : all (λ e. writable e.attribute) (address_entries now a) ≡ true
  fitting =
      rw (
        lt-ltb (length (label_bytes a ++ (0 ∷ [])) + 4) 65536 (omega (arith, long-label)),
        lt-ltb (length (cacheinfo now a) + 4) 65536 (omega (arith, long-cache)),
      )

  new-sized : all (sized_in 20) (presents (address_entries now a)) ≡ true
  unfolding zeros
  new-sized =
      all-entries (sized_in 20) (address_entries now a)
      (rw (closing-zero (label_bytes a), le-leb (length (label (label_bytes a))) 15 (label-short a f)))

  del-sized : all (sized_in 21) (presents (address_entries now a)) ≡ true
  del-sized =
      all-entries (sized_in 21) (address_entries now a)
      (rw (closing-zero (label_bytes a), le-leb (length (label (label_bytes a))) 15 (label-short a f)))

  new-sizes : sizes 20 (presents (address_entries now a)) ≡ true
  unfolding sizes
  new-sizes = rw (new-sized, last-entry 2 (address_entries now a) refl)

  del-sizes : sizes 21 (presents (address_entries now a)) ≡ true
  unfolding sizes
  del-sizes = rw del-sized

  new-sound : Sound 20 (address_head a) (address_entries now a)
  new-sound =
      record {
        one-of-four = refl;
        type-fits = omega arith;
        head-ends = refl;
        head-family = refl;
        few = omega (arith, address-total);
        fit = fitting;
        inner = refl;
        sized = new-sizes;
      }

  del-sound : Sound 21 (address_head a) (address_entries now a)
  del-sound =
      record {
        one-of-four = refl;
        type-fits = omega arith;
        head-ends = refl;
        head-family = refl;
        few = omega (arith, address-total);
        fit = fitting;
        inner = refl;
        sized = del-sizes;
      }

-- ---- the requests, in the row's own words
-- the request to add an address that the row of an event and its flags make; the label as a string of C has it
abbrev pub new_addr_of : (up now flags : ℕ) → Row → Row
new_addr_of up now flags a =
    Address.local a ∷ Address.address a ∷ Address.prefix a ∷ Address.broadcast_present a ∷ Address.broadcast a
    ∷ Address.scope a ∷ Address.flags a ∷ Address.proto a
    ∷ (label_words (label (label_bytes a))
    ++ (Address.priority a
    ∷ (left a now).valid
    ∷ (left a now).preferred
    ∷ flag (has_bit replace_bit flags && not (has_bit excl_bit flags))
    ∷ up
    ∷ []))

-- the request to delete it: local, address and label are given
abbrev pub del_addr_of : Row → Row
del_addr_of a = 1 ∷ Address.local a ∷ 1 ∷ Address.address a ∷ Address.prefix a ∷ 1 ∷ label_words (label (label_bytes a))

module _ (type flags sequence port now : ℕ) (a : Row) (f : AddressFits a) (b : Below 4294967296 a) where
  m : List ℕ
  m = message type flags sequence port (address_head a) (address_entries now a)

  label-is : label (label_bytes a ++ (0 ∷ [])) ≡ label (label_bytes a)
  label-is = closing-zero (label_bytes a)

  new-row : flags < 65536 → (up : ℕ) → new_addr up m (presents (address_entries now a)) ≡ new_addr_of up now flags a
  unfolding m message
  new-row h up =
      let t = address_entries now a in
      new-fields up m (presents t) (last-entry 1 t refl) (last-entry 2 t refl) (last-entry 3 t refl) (last-entry 4 t refl)
      (last-entry 6 t refl) (last-entry 8 t refl) (last-entry 9 t refl) (last-entry 11 t refl)
      ∙ (λ i.
      address-back (Address.local a) (b 0) i ∷ address-back (Address.address a) (b 1) i ∷ Address.prefix a
      ∷ (value-back (Address.broadcast_present a) (Address.broadcast a) f.broadcast (b 4) i
      ++ (Address.scope a
      ∷ number-back (Address.flags a) (b 6) i
      ∷ or-back byte (nonzero (Address.proto a)) (Address.proto a ∷ []) (Address.proto a) refl (zero-back (Address.proto a)) i
      ∷ (label_words (label-is i)
      ++ (or-back number (nonzero (Address.priority a)) (bytes4 (Address.priority a)) (Address.priority a)
      (number-back (Address.priority a) (b 13)) (zero-back (Address.priority a)) i
      ∷ bytes-back (left a now).valid (left-valid-below a now b) i
      ∷ bytes-back (left a now).preferred (left-preferred-below a now b) i
      ∷ flag (has_bit replace_bit (two-back flags h i) && not (has_bit excl_bit (two-back flags h i)))
      ∷ up
      ∷ [])))))

  del-row : del_addr m (presents (address_entries now a)) ≡ del_addr_of a
  unfolding m message del_addr
  del-row =
      let t = address_entries now a in
      rw (last-entry 1 t refl, last-entry 2 t refl, last-entry 3 t refl)
      (λ i. 1 ∷ address-back (Address.local a) (b 0) i ∷ 1 ∷ address-back (Address.address a) (b 1) i ∷ Address.prefix a ∷ 1 ∷ label_words (label-is i))

asks-new : (up : ℕ) (m : List ℕ) (l : List Attribute) → request up m 20 l ≡ new_addr up m l
unfolding request
asks-new up m l = refl

asks-del : (up : ℕ) (m : List ℕ) (l : List Attribute) → request up m 21 l ≡ del_addr m l
unfolding request
asks-del up m l = refl

-- ---- THE LAWS: the reader accepts the message of an event, and the request has the row's words
module _ (sequence port now : ℕ) (e : Row) (w : writes e ≡ true) (b : Below 4294967296 e) (up : ℕ) where
  pub read-new-address : kind e ≡ 1
      → read up (event_message sequence port now e) ≡ asked 20 (new_addr_of up now (flags e) (address_row e))
  unfolding m
  read-new-address k =
      let a = address_row e in
      let fit = of-address e w (rw k) in
      let there = presents (address_entries now a) in
      let bytes = address_as sequence port now e 20 in
      ap (read up) (message-1 sequence port now e k)
      ∙ read-message 20 (flags e) sequence port (address_head a) (address_entries now a) (new-sound now a fit) up
      ∙ ap (asked 20) (asks-new up bytes there ∙ new-row 20 (flags e) sequence port now a fit (below-part 20 2 e b) (flags-fit e w) up)

  pub read-del-address : kind e ≡ 2 → read up (event_message sequence port now e) ≡ asked 21 (del_addr_of (address_row e))
  unfolding m
  read-del-address k =
      let a = address_row e in
      let fit = of-address e w (rw k) in
      let there = presents (address_entries now a) in
      let bytes = address_as sequence port now e 21 in
      ap (read up) (message-2 sequence port now e k)
      ∙ read-message 21 (flags e) sequence port (address_head a) (address_entries now a) (del-sound now a fit) up
      ∙ ap (asked 21) (asks-del up bytes there ∙ del-row 21 (flags e) sequence port now a fit (below-part 20 2 e b))

-- ---- where the label has no zero byte, the row's own words
module _ (a : Row) (f : AddressFits a) (b : Below 4294967296 a) (z : zeroless a ≡ true) where
  pub label-words : label_words (label (label_bytes a)) ≡ take 5 (drop 8 a)
  label-words = ap label_words (uncut (label_bytes a) z) ∙ label-back a f b ∙ sym (lists 5 8 a (omega (arith, f.long)))

  -- a new address: local to priority
  pub new-own : (up now flags : ℕ) → take 14 (new_addr_of up now flags a) ≡ take 14 a
  new-own up now flags =
      let long : 14 ≤ length a = omega (arith, f.long) in
      let front : Row → Row = (λ (l : Row). take 14 (listed 8 0 a ++ (l ++ (Address.priority a ∷ [])))) in
      ap front (ap label_words (uncut (label_bytes a) z) ∙ label-back a f b) ∙ sym (lists 14 0 a long)

  pub del-own : del_addr_of a ≡ 1 ∷ Address.local a ∷ 1 ∷ Address.address a ∷ Address.prefix a ∷ 1 ∷ take 5 (drop 8 a)
  del-own = ap (λ (l : Row). 1 ∷ Address.local a ∷ 1 ∷ Address.address a ∷ Address.prefix a ∷ 1 ∷ l) label-words
