-- A message written from a table of entries is read: the reader asks for what the table holds.
-- Assumes nothing.
use Rattle.std.specs.Prelude.{ℕ, ◌+◌, ◌-◌, ◌≤◌, ◌<◌, ◌≡◌, true, ◌||◌, List, ◌++◌, eqb, get_or, take, drop}
use Rattle.std.proofs.Common.{sym, ◌∙◌, arith, length-append, take_all}
use Rattle.std.proofs.Math.Path.{ap}
use Rattle.std.proofs.Math.ListN.{length, get_or-append}
use Rattle.std.proofs.Math.Seq.{drop_at}
use borrow.Author.Tests.{le-leb, eq-eqb}
use Rattle.lists.specs.Lists.{all}
use Rattle.lists.specs.Bools.{or_case, or_left, or_right, cond-case}
use Rattle.netlink.specs.Codes.{inet}
use Rattle.netlink.specs.Attributes.{Attribute, attributes, right}
use Rattle.netlink.specs.Reader.{asked, message_length, message_type, family, is_address, is_route, attributes_at}
use Rattle.netlink.specs.Reader.{headed, body, nested_right, lengths, sizes, request, shape_refusal, refusal, read}
use Rattle.netlink_event.specs.Written.{bytes2, bytes4, writable, Entry, presents, written_all, message}
use Rattle.netlink_event.proofs.Back.{bytes-back, two-back, attributes-back, right-back, all-entries, total, at-most}

-- ---- no reason to refuse
unrefused : (m : List ℕ) → headed m ≡ true → is_address (message_type m) || is_route (message_type m) ≡ true → lengths m ≡ true
    → eqb (family m) inet ≡ true → sizes (message_type m) (attributes (body m)) ≡ true → refusal m ≡ 0
unfolding refusal shape_refusal
unrefused m h k l f s = rw (h, k, l, f, s)

accepted : (up : ℕ) (m : List ℕ) (t : ℕ) (l : List Attribute) → refusal m ≡ 0 → message_type m ≡ t → attributes (body m) ≡ l
    → read up m ≡ asked t (request up m t l)
unfolding read
accepted up m t l a b c = rw (a, c, b)

at_28 : (t : ℕ) → attributes_at t ≤ 28
at_28 t = cond-case (λ (n : ℕ). n ≤ 28) (is_address t) (λ e. omega arith) (λ e. omega arith)

past_16 : (t : ℕ) → 16 < attributes_at t
past_16 t = cond-case (λ (n : ℕ). 16 < n) (is_address t) (λ e. omega arith) (λ e. omega arith)

-- ---- lengths
pub length-message : (type flags sequence port : ℕ) (head : List ℕ) (t : List Entry)
    → length (message type flags sequence port head t) ≡ 16 + length head + length (written_all t)
unfolding message
length-message type flags sequence port head t = omega (arith, length-append head (written_all t))

-- ---- what a message must be made of
pub record Sound (type : ℕ) (head : List ℕ) (t : List Entry) : Type 0 where
  pub one-of-four : is_address type || is_route type ≡ true
  pub type-fits : type < 65536
  -- ifaddrmsg or rtmsg, of IPv4
  pub head-ends : 16 + length head ≡ attributes_at type
  pub head-family : get_or head 0 0 ≡ inet
  pub few : total t < 65536
  pub fit : all (λ e. writable e.attribute) t ≡ true
  pub inner : is_address type || all (λ e. nested_right e.attribute) t ≡ true
  pub sized : sizes type (presents t) ≡ true

module _ (type flags sequence port : ℕ) (head : List ℕ) (t : List Entry) (s : Sound type head t) where
  m : List ℕ
  m = message type flags sequence port head t

  type-is : message_type m ≡ type
  unfolding m message
  type-is = two-back type s.type-fits

  length-is : length m ≡ 16 + length head + length (written_all t)
  unfolding m
  length-is = length-message type flags sequence port head t

  size-is : message_length m ≡ 16 + length head + length (written_all t)
  unfolding m message
  size-is =
      bytes-back (16 + length head + length (written_all t)) (omega (arith, at-most t, s.few, s.head-ends, at_28 type))

  start-is : attributes_at (message_type m) ≡ 16 + length head
  start-is = ap attributes_at type-is ∙ sym s.head-ends

  behind : drop (16 + length head) m ≡ written_all t
  unfolding m message
  behind =
      let front = bytes4 (16 + length head + length (written_all t)) ++ (bytes2 type ++ (bytes2 flags ++ (bytes4 sequence ++ (bytes4 port ++ head)))) in
      drop_at front (written_all t) (16 + length head) (omega arith)

  body-is : body m ≡ written_all t
  body-is =
      ap (λ (k : ℕ). take (message_length m - k) (drop k m)) start-is
      ∙ ap (take (message_length m - (16 + length head))) behind
      ∙ take_all (message_length m - (16 + length head)) (written_all t) (omega (arith, size-is))

  fitting : all writable (presents t) ≡ true
  fitting = all-entries writable t s.fit

  found : attributes (body m) ≡ presents t
  unfolding written_all
  found = ap attributes body-is ∙ attributes-back (presents t) fitting

  right-is : right (body m) ≡ true
  unfolding written_all
  right-is = ap right body-is ∙ right-back (presents t) fitting

  headed-is : headed m ≡ true
  unfolding headed
  headed-is =
      rw (
        le-leb 16 (length m) (omega (arith, length-is)),
        le-leb 16 (message_length m) (omega (arith, size-is)),
        le-leb (message_length m) (length m) (omega (arith, size-is, length-is)),
      )

  inner-is : is_address (message_type m) || all nested_right (attributes (body m)) ≡ true
  inner-is =
      rw (found, type-is)
      (or_case (is_address type) (all (λ e. nested_right e.attribute) t) s.inner
      (or_left (is_address type) (all nested_right (presents t)))
      (λ h. or_right (is_address type) (all nested_right (presents t)) (all-entries nested_right t h)))

  lengths-is : lengths m ≡ true
  unfolding lengths
  lengths-is =
      rw (le-leb (attributes_at (message_type m)) (message_length m) (omega (arith, start-is, size-is)), right-is) inner-is

  family-is : eqb (family m) inet ≡ true
  unfolding m message
  family-is =
      eq-eqb (family m) inet (get_or-append head (written_all t) 0 0 (omega (arith, s.head-ends, past_16 type)) ∙ s.head-family)

  -- THE ROUND TRIP of a message: it is accepted, with the table's attributes
  pub read-message : (up : ℕ) → read up (message type flags sequence port head t)
      ≡ asked type (request up (message type flags sequence port head t) type (presents t))
  unfolding m
  read-message up =
      accepted up m type (presents t)
      (unrefused m headed-is (rw type-is s.one-of-four) lengths-is family-is (rw (found, type-is) s.sized)) type-is found
