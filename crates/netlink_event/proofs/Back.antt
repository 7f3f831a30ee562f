-- What is written is read back: numbers, attributes, tables of them, whole messages.
-- Assumes nothing.
use Prim.Native.Nat.{ℕ, ◌+◌, ◌-◌, ◌*◌, ◌/◌, ◌%◌, ◌≤◌, ◌<◌}
use Rattle.std.specs.Prelude.{◌≡◌, Bool, true, false, cond, not, eqb, ltb, drop}
use Rattle.std.proofs.Math.Path.{refl, ap}
use Rattle.std.proofs.Common.{sym, ◌∙◌, mod-eq_of_lt, arith, length-append, drop_at, ltb-true, eqb-true, ne_eqb}
use mathlib.Core.List.{List, [], ◌∷◌, ◌++◌, append_assoc, append-nil}
use Rattle.std.proofs.Math.Option.{Option, none, some}
use Rattle.std.proofs.Math.Nat.{div-div-eq-div-mul}
use Rattle.std.proofs.Math.ListN.{length, take}
use Rattle.std.proofs.Math.Seq.{take_at}
use Rattle.std.proofs.lemmas.Bool.{not-false}
use Rattle.lists.specs.Lists.{all, each, pairwise, zeros}
use Rattle.lists.specs.Rows.{length-zeros}
use Rattle.lists.specs.Bools.{and_left, and_right, test-case, cond-true, cond-false}
use Rattle.netlink.specs.Attributes.{Attribute, Parsed, u16, padded, whole, first, more, parsed, attributes, right, last_after}
use Rattle.netlink.specs.Attributes.{last}
use Rattle.netlink.specs.Reader.{number, address, or_else, given}
use Rattle.netlink_event.specs.Written.{bytes4, address_bytes, written, writable, Entry, presents, written_all}
use Rattle.netlink.specs.Laws.{is_whole, parsed-more, parsed-end}

-- ---- numbers
pub bytes-back : (n : ℕ) → n < 4294967296
    → n % 256 + 256 * (n / 256 % 256) + 65536 * (n / 65536 % 256 + 256 * (n / 16777216 % 256)) ≡ n
bytes-back n h =
    let e : n / 256 / 256 ≡ n / 65536 = div-div-eq-div-mul n 256 256 in
    let f : n / 65536 / 256 ≡ n / 16777216 = div-div-eq-div-mul n 65536 256 in
    let top : n / 16777216 < 256 = omega arith in
    let g : n / 16777216 % 256 ≡ n / 16777216 = mod-eq_of_lt top in
    omega arith

pub number-back : (n : ℕ) → n < 4294967296 → number (bytes4 n) ≡ n
number-back n h = bytes-back n h

pub address-back : (n : ℕ) → n < 4294967296 → address (address_bytes n) ≡ n
address-back n h = omega (arith, bytes-back n h)

pub two-back : (n : ℕ) → n < 65536 → n % 256 + 256 * (n / 256 % 256) ≡ n
two-back n h = omega arith

-- ---- one attribute
record InTwoBytes (a : Attribute) : Type 0 where
  code_fits : a.code < 16384
  size_fits : length a.payload + 4 < 65536

does-fit : (a : Attribute) → writable a ≡ true → InTwoBytes a
does-fit a f =
    let p = ltb a.code 16384 in
    let q = ltb (length a.payload + 4) 65536 in
    record { code_fits = ltb-true a.code 16384 (and_left p q f); size_fits = ltb-true (length a.payload + 4) 65536 (and_right p q f) }

-- the bytes of an attribute whose payload has n bytes
abbrev pub room : ℕ → ℕ
room n = padded (n + 4)

pub length-written : (a : Attribute) → length (written a) ≡ room (length a.payload)
unfolding written
length-written a =
    let n : ℕ = length a.payload in
    let e : length (a.payload ++ zeros (padded n - n)) ≡ n + (padded n - n) = rw (length-append, length-zeros) in
    omega arith

module _ (a : Attribute) (fit : InTwoBytes a) (r : List ℕ) where
  size-back : u16 (written a ++ r) 0 ≡ length a.payload + 4
  unfolding written
  size-back = omega (arith, fit.size_fits)

  code-back : u16 (written a ++ r) 2 % 16384 ≡ a.code
  unfolding written
  code-back = omega (arith, fit.code_fits)

  behind-back : drop (padded (u16 (written a ++ r) 0)) (written a ++ r) ≡ r
  behind-back = rw size-back (drop_at (written a) r (room (length a.payload)) (length-written a))

  payload-back : take (u16 (written a ++ r) 0 - 4) (drop 4 (written a ++ r)) ≡ a.payload
  unfolding written
  payload-back =
      let n : ℕ = length a.payload in
      let z : List ℕ = zeros (padded n - n) in
      let same : u16 (written a ++ r) 0 - 4 ≡ n = omega (arith, size-back) in
      ap (λ (k : ℕ). take k (drop 4 (written a ++ r))) same
      ∙ ap (take n) (append_assoc a.payload z r)
      ∙ take_at a.payload (z ++ r) n refl

  whole-back : whole (written a ++ r) ≡ true
  whole-back =
      is_whole (written a ++ r) (rw size-back (omega arith)) (rw (size-back, length-append, length-written) (omega arith))

  first-back : first (written a ++ r) ≡ a
  unfolding first
  first-back = λ i. record { code = code-back i; payload = payload-back i }

  parsed-back : parsed (written a ++ r) ≡ more a (parsed r)
  parsed-back = parsed-more (written a ++ r) whole-back ∙ rw (first-back, behind-back)

-- ---- attributes one after the other
-- with any bytes behind them that begin none
pub back : (l : List Attribute) → all writable l ≡ true → (r : List ℕ) → whole r ≡ false
    → parsed (each written l ++ r) ≡ record { attributes = l; spare = r }
back [] f r w = parsed-end r w
back (a ∷ l) f r w =
    ap parsed (append_assoc (written a) (each written l) r)
    ∙ parsed-back a (does-fit a (and_left (writable a) (all writable l) f)) (each written l ++ r)
    ∙ ap (more a) (back l (and_right (writable a) (all writable l) f) r w)

no-more : whole [] ≡ false
unfolding whole
no-more = refl

-- THE ROUND TRIP of attributes
pub attributes-back : (l : List Attribute) → all writable l ≡ true → attributes (each written l) ≡ l
attributes-back l f = ap attributes (sym (append-nil (each written l))) ∙ ap (λ (p : Parsed). p.attributes) (back l f [] no-more)

pub right-back : (l : List Attribute) → all writable l ≡ true → right (each written l) ≡ true
right-back l f = ap right (sym (append-nil (each written l))) ∙ ap (λ (p : Parsed). ltb (length p.spare) 4) (back l f [] no-more)

-- ---- what a table holds
-- codes rise, so that none stands twice
abbrev pub rising : List Entry → Bool
rising t = pairwise (λ a b. ltb a.attribute.code b.attribute.code) t

-- the payload of a code, where it is there
abbrev pub entry : ℕ → List Entry → Option (List ℕ)
entry c [] = none
entry c (e ∷ t) = cond (eqb e.attribute.code c) (cond e.present (some e.attribute.payload) none) (entry c t)

all-one : (p : Attribute → Bool) (b : Bool) (a : Attribute) (l : List Attribute) → p a ≡ true → all p l ≡ true
    → all p (cond b (a ∷ []) [] ++ l) ≡ true
all-one p true a l h k = rw (h, k)
all-one p false a l h k = k

-- what passes for every entry, there or not, passes for the attributes
pub all-entries : (p : Attribute → Bool) (t : List Entry) → all (λ e. p e.attribute) t ≡ true → all p (presents t) ≡ true
all-entries p [] h = refl
all-entries p (e ∷ t) h =
    let a = p e.attribute in
    let r = all (λ (x : Entry). p x.attribute) t in
    all-one p e.present e.attribute (presents t) (and_left a r h) (all-entries p t (and_right a r h))

skip : (c : ℕ) (o : Option (List ℕ)) (b : Bool) (a : Attribute) (l : List Attribute) → eqb a.code c ≡ false
    → last_after c o (cond b (a ∷ []) [] ++ l) ≡ last_after c o l
unfolding last_after
skip c o true a l h = rw h
skip c o false a l h = refl

hit : (c : ℕ) (o : Option (List ℕ)) (b : Bool) (a : Attribute) (l : List Attribute) → eqb a.code c ≡ true
    → last_after c o (cond b (a ∷ []) [] ++ l) ≡ last_after c (cond b (some a.payload) o) l
unfolding last_after
hit c o true a l h = rw h
hit c o false a l h = refl

none-later : (c : ℕ) (o : Option (List ℕ)) (t : List Entry) → all (λ e. ltb c e.attribute.code) t ≡ true
    → last_after c o (presents t) ≡ o
unfolding last_after
none-later c o [] h = refl
none-later c o (e ∷ t) h =
    let k : ℕ = e.attribute.code in
    let p = ltb c k in
    let r = all (λ (x : Entry). ltb c x.attribute.code) t in
    skip c o e.present e.attribute (presents t) (ne_eqb k c (λ q. omega (arith, ltb-true c k (and_left p r h))))
    ∙ none-later c o t (and_right p r h)

-- the last of a code in what a table writes is the table's entry, there or not
pub last-entry : (c : ℕ) (t : List Entry) → rising t ≡ true → last c (presents t) ≡ entry c t
unfolding last_after
last-entry c [] h = refl
last-entry c (e ∷ t) h =
    let k : ℕ = e.attribute.code in
    let o : Option (List ℕ) = cond e.present (some e.attribute.payload) none in
    let above = all (λ (x : Entry). ltb k x.attribute.code) t in
    test-case (eqb k c)
    (λ w. hit c none e.present e.attribute (presents t) w
    ∙ ap (λ (n : ℕ). last_after n o (presents t)) (sym (eqb-true k c w))
    ∙ none-later k o t (and_left above (rising t) h)
    ∙ sym (cond-true (eqb k c) o (entry c t) w))
    (λ w. skip c none e.present e.attribute (presents t) w
    ∙ last-entry c t (and_right above (rising t) h)
    ∙ sym (cond-false (eqb k c) o (entry c t) w))

-- a value that is 0 where it isn't written
pub or-back : (r : List ℕ → ℕ) (b : Bool) (p : List ℕ) (n : ℕ) → r p ≡ n → (b ≡ false → n ≡ 0)
    → or_else r 0 (cond b (some p) none) ≡ n
or-back r true p n e z = e
or-back r false p n e z = sym (z refl)

pub given-is : (b : Bool) (p : List ℕ) → given (cond b (some p) none) ≡ b
given-is true p = refl
given-is false p = refl

pub zero-back : (n : ℕ) → not (eqb n 0) ≡ false → n ≡ 0
zero-back n h = eqb-true n 0 (not-false (eqb n 0) h)

-- ---- lengths of a table's attributes
-- all of them there
abbrev pub total : List Entry → ℕ
total [] = 0
total (e ∷ t) = room (length e.attribute.payload) + total t

length-one : (b : Bool) (a : Attribute) (l : List Attribute) (n : ℕ) → length (each written l) ≤ n
    → length (each written (cond b (a ∷ []) [] ++ l)) ≤ room (length a.payload) + n
length-one true a l n h = rw (length-append, length-written) (omega arith)
length-one false a l n h = omega arith

pub at-most : (t : List Entry) → length (written_all t) ≤ total t
unfolding written_all
at-most [] = omega arith
at-most (e ∷ t) = length-one e.present e.attribute (presents t) (total t) (at-most t)

-- a multiple of four
pub written-fours : (l : List Attribute) → length (each written l) % 4 ≡ 0
written-fours [] = refl
written-fours (a ∷ l) =
    let e : length (written a ++ each written l) ≡ room (length a.payload) + length (each written l) = rw (length-append, length-written) in
    omega (arith, written-fours l)

pub table-fours : (t : List Entry) → length (written_all t) % 4 ≡ 0
unfolding written_all
table-fours t = written-fours (presents t)
