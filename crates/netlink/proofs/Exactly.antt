-- Which messages are refused, and with which number: 204 exactly if a length is bad, 205 exactly if none is and the type or the family
-- is another, 206 exactly if neither and an attribute has a wrong size or a new address no local one; else it is read.
-- Assumes nothing.
use Rattle.std.specs.Prelude.{ℕ, zero, suc, ◌≤◌, ◌≡◌, refl, Bool, true, ◌&&◌, ◌||◌, List, [], ◌∷◌, ◌++◌, ◌↔◌, eqb, length}
use Rattle.std.proofs.Common.{sym, ◌∙◌, arith}
use Rattle.std.proofs.Math.Path.{ap}
use Rattle.std.proofs.Math.Bool.{false, cond, not}
use Rattle.std.proofs.Math.Option.{Option, none, some}
use Rattle.std.proofs.Math.Dec.{leb}
use borrow.Author.Tests.{leb-true, leb-false, ltb-true, ltb-false, eqb-true, eq-eqb, not-true, not-false}
use Rattle.lists.specs.Lists.{all}
use Rattle.lists.specs.Bools.{and_left, and_right, and_both, and_rest, or-false, or_case, or_left, or_right, fails, test-case, true-false, false-not}
use Rattle.lists.specs.All.{all_head, all_back}
use Rattle.netlink.specs.Codes.{rtm_new_addr, rtm_del_addr, rtm_new_route, rtm_del_route, inet, ifa_local, rta_metrics}
use Rattle.netlink.specs.Attributes.{u16, whole, parsed_from, attributes, right, last}
use Rattle.netlink.specs.Reader.{Answer, refused, asked, message_length, message_type, family, is_address, is_route, attributes_at}
use Rattle.netlink.specs.Reader.{headed, body, nested_right, lengths, sized_in, given, sizes, request, shape_refusal, refusal, read}
use Rattle.netlink.specs.Exactly.{BadAttribute, below-header, past_end, spare, known, BadLength, short, below, past, family-header, attribute, nested, Other, other-type, other-family, WrongSize, size, no_local, Shaped}

-- ---- an element that fails
record Failing {A : Type 0} (p : A → Bool) (l : List A) : Type 0 where
  before : List A
  here : A
  after : List A
  is : l ≡ before ++ (here ∷ after)
  fails-here : p here ≡ false

module _ {A : Type 0} (p : A → Bool) where
  failing : (l : List A) → all p l ≡ false → Failing p l
  failing [] h = absurd (true-false true refl h)
  failing (x ∷ l) h =
      test-case (p x)
      (λ w. let f = failing l (and_rest (p x) (all p l) w h) in
      record { before = x ∷ f.before; here = f.here; after = f.after; is = ap (λ (y : List A). x ∷ y) f.is; fails-here = f.fails-here })
      (λ w. record { before = []; here = x; after = l; is = refl; fails-here = w })

  not-all : (l b c : List A) (x : A) → l ≡ b ++ (x ∷ c) → p x ≡ false → all p l ≡ false
  not-all l b c x e f =
      fails (all p l) (λ h. true-false (p x) (all_head p x c (all_back p b (x ∷ c) (ap (all p) (sym e) ∙ h))) f)

-- ---- lengths of attributes
nothing-whole : whole [] ≡ false
unfolding whole
nothing-whole = refl

spare-ends : (k : ℕ) (l : List ℕ) → whole (parsed_from k l).spare ≡ false
unfolding parsed_from
spare-ends k [] = nothing-whole
spare-ends (suc k) (b ∷ l) = spare-ends k l
spare-ends zero (b ∷ l) = test-case (whole (b ∷ l)) (λ w. rw w (spare-ends _ l)) (λ w. rw w w)

wrong : (l : List ℕ) → right l ≡ false → BadAttribute (spare l)
unfolding whole
wrong l h =
    let s = spare l in
    let long : 4 ≤ length s = ltb-false (length s) 4 h in
    test-case (leb 4 (u16 s 0))
    (λ w. past_end long (leb-false (u16 s 0) (length s) (and_rest (leb 4 (u16 s 0)) (leb (u16 s 0) (length s)) w (spare-ends 0 l))))
    (λ w. below-header long (leb-false 4 (u16 s 0) w))

not_right : (l : List ℕ) → BadAttribute (spare l) → right l ≡ false
not_right l (below-header h g) = fails (right l) (λ e. omega (arith, h, ltb-true (length (spare l)) 4 e))
not_right l (past_end h g) = fails (right l) (λ e. omega (arith, h, ltb-true (length (spare l)) 4 e))

-- ---- the order of the tests
-- the number, by whether a length is bad, type and family are ours, and the sizes fit
abbrev chosen : Bool → Bool → Bool → ℕ
chosen b o f = cond b 204 (cond o (cond f 0 206) 205)

in_order : (h k l y f : Bool) →
    cond (eqb (cond (not h) 204 (cond (not k) 205 (cond (not l) 204 (cond y 0 205)))) 0) (cond f 0 206)
    (cond (not h) 204 (cond (not k) 205 (cond (not l) 204 (cond y 0 205))))
    ≡ chosen (not h || (k && not l)) (k && y) f
in_order false k l y f = refl
in_order true false l y f = refl
in_order true true false y f = refl
in_order true true true false f = refl
in_order true true true true f = refl

bad_204 : (b o f : Bool) → chosen b o f ≡ 204 → b ≡ true
bad_204 true o f h = refl
bad_204 false true true h = absurd (omega (arith, h))
bad_204 false true false h = absurd (omega (arith, h))
bad_204 false false f h = absurd (omega (arith, h))

other_205 : (b o f : Bool) → chosen b o f ≡ 205 → (b ≡ false) × (o ≡ false)
other_205 true o f h = absurd (omega (arith, h))
other_205 false true true h = absurd (omega (arith, h))
other_205 false true false h = absurd (omega (arith, h))
other_205 false false f h = (refl, refl)

wrong_206 : (b o f : Bool) → chosen b o f ≡ 206 → (b ≡ false) × (o ≡ true) × (f ≡ false)
wrong_206 true o f h = absurd (omega (arith, h))
wrong_206 false true true h = absurd (omega (arith, h))
wrong_206 false true false h = (refl, refl, refl)
wrong_206 false false f h = absurd (omega (arith, h))

right_0 : (b o f : Bool) → chosen b o f ≡ 0 → (b ≡ false) × (o ≡ true) × (f ≡ true)
right_0 true o f h = absurd (omega (arith, h))
right_0 false true true h = (refl, refl, refl)
right_0 false true false h = absurd (omega (arith, h))
right_0 false false f h = absurd (omega (arith, h))

-- the number of a refusal, 0 of a request
abbrev number_of : Answer → ℕ
number_of (refused n) = n
number_of (asked t r) = 0

number_is : (n t : ℕ) (r : List ℕ) → number_of (cond (eqb n 0) (asked t r) (refused n)) ≡ n
number_is n t r = test-case (eqb n 0) (λ w. rw w (sym (eqb-true n 0 w))) (λ w. rw w)

passes : (b : Bool) → (b ≡ false → ⊥) → b ≡ true
passes true h = refl
passes false h = absurd (h refl)

ungiven : (o : Option (List ℕ)) → given o ≡ false → o ≡ none
ungiven none h = refl
ungiven (some p) h = absurd (true-false true refl h)

one-kind : (t : ℕ) → is_address t ≡ true → is_route t ≡ true → ⊥
one-kind t a r =
    let address : (n : ℕ) → n ≤ 21 → eqb t n ≡ true → ⊥ =
    (λ n h e. or_case (eqb t rtm_new_route) (eqb t rtm_del_route) r
    (λ f. omega (arith, h, eqb-true t n e, eqb-true t rtm_new_route f))
    (λ f. omega (arith, h, eqb-true t n e, eqb-true t rtm_del_route f)))
    in
    or_case (eqb t rtm_new_addr) (eqb t rtm_del_addr) a (address rtm_new_addr (omega arith)) (address rtm_del_addr (omega arith))

-- ---- the message, as tests: a length is bad, type and family are right, sizes are right
module _ (m : List ℕ) where
  abbrev bad_length : Bool
  bad_length = not (headed m) || (known (message_type m) && not (lengths m))

  abbrev ours : Bool
  ours = known (message_type m) && eqb (family m) inet

  abbrev fitting : Bool
  fitting = sizes (message_type m) (attributes (body m))

  header_bad : headed m ≡ false → BadLength m
  unfolding headed
  header_bad h =
      let a = leb 16 (length m) in
      let b = leb 16 (message_length m) in
      let d = leb (message_length m) (length m) in
      test-case a
      (λ u. test-case b
      (λ v. past (leb-false (message_length m) (length m) (and_rest (a && b) d (and_both a b u v) h)))
      (λ v. below (leb-false 16 (message_length m) v)))
      (λ u. short (leb-false 16 (length m) u))

  pub record Headed : Type 0 where
    pub long : 16 ≤ length m
    pub covers : 16 ≤ message_length m
    pub ends : message_length m ≤ length m

  pub headed-is : headed m ≡ true → Headed
  unfolding headed
  headed-is h =
      let a = leb 16 (length m) in
      let b = leb 16 (message_length m) in
      let d = leb (message_length m) (length m) in
      record {
        long = leb-true 16 (length m) (and_left a b (and_left (a && b) d h));
        covers = leb-true 16 (message_length m) (and_right a b (and_left (a && b) d h));
        ends = leb-true (message_length m) (length m) (and_right (a && b) d h);
      }

  inner_bad : known (message_type m) ≡ true → lengths m ≡ false → BadLength m
  unfolding lengths
  inner_bad k h =
      let a = leb (attributes_at (message_type m)) (message_length m) in
      let b = right (body m) in
      let d = all nested_right (attributes (body m)) in
      test-case a
      (λ u. test-case b
      (λ v. let w = or-false (is_address (message_type m)) d (and_rest (a && b) (is_address (message_type m) || d) (and_both a b u v) h) in
      let f = failing nested_right (attributes (body m)) w.1 in
      let x = or-false (not (eqb f.here.code rta_metrics)) (right f.here.payload) f.fails-here in
      nested f.before f.after f.here
      (or_case (is_address (message_type m)) (is_route (message_type m)) k (λ e. absurd (true-false _ e w.0)) (λ e. e))
      f.is
      (eqb-true f.here.code rta_metrics (not-false (eqb f.here.code rta_metrics) x.0))
      (wrong f.here.payload x.1))
      (λ v. attribute k (wrong (body m) v)))
      (λ u. family-header k (leb-false (attributes_at (message_type m)) (message_length m) u))

  why : bad_length ≡ true → BadLength m
  why h =
      or_case (not (headed m)) (known (message_type m) && not (lengths m)) h
      (λ e. header_bad (not-true (headed m) e))
      (λ e. inner_bad (and_left (known (message_type m)) (not (lengths m)) e) (not-true (lengths m) (and_right (known (message_type m)) (not (lengths m)) e)))

  by-header : headed m ≡ false → bad_length ≡ true
  by-header h = or_left (not (headed m)) (known (message_type m) && not (lengths m)) (false-not (headed m) h)

  by-inner : known (message_type m) ≡ true → lengths m ≡ false → bad_length ≡ true
  by-inner k h =
      or_right (not (headed m)) (known (message_type m) && not (lengths m))
      (and_both (known (message_type m)) (not (lengths m)) k (false-not (lengths m) h))

  pub record Lengths : Type 0 where
    pub covers : attributes_at (message_type m) ≤ message_length m
    pub outer : right (body m) ≡ true
    pub inner : is_address (message_type m) || all nested_right (attributes (body m)) ≡ true

  pub lengths_are : lengths m ≡ true → Lengths
  unfolding lengths
  lengths_are h =
      let a = leb (attributes_at (message_type m)) (message_length m) in
      let b = right (body m) in
      let d = is_address (message_type m) || all nested_right (attributes (body m)) in
      record {
        covers = leb-true (attributes_at (message_type m)) (message_length m) (and_left a b (and_left (a && b) d h));
        outer = and_right a b (and_left (a && b) d h);
        inner = and_right (a && b) d h;
      }

  is_bad : BadLength m → bad_length ≡ true
  is_bad (short h) = by-header (fails (headed m) (λ e. omega (arith, h, (headed-is e).long)))
  is_bad (below h) = by-header (fails (headed m) (λ e. omega (arith, h, (headed-is e).covers)))
  is_bad (past h) = by-header (fails (headed m) (λ e. omega (arith, h, (headed-is e).ends)))
  is_bad (family-header k h) = by-inner k (fails (lengths m) (λ e. omega (arith, h, (lengths_are e).covers)))
  is_bad (attribute k h) = by-inner k (fails (lengths m) (λ e. true-false (right (body m)) (lengths_are e).outer (not_right (body m) h)))
  is_bad (nested p q a r i c h) =
      by-inner (or_right (is_address (message_type m)) (is_route (message_type m)) r) (fails (lengths m) (λ e.
      or_case (is_address (message_type m)) (all nested_right (attributes (body m))) (lengths_are e).inner
      (λ w. one-kind (message_type m) w r)
      (λ w. true-false (all nested_right (attributes (body m))) w
      (not-all nested_right (attributes (body m)) p q a i (rw (eq-eqb a.code rta_metrics c) (not_right a.payload h))))))

  -- ---- type and family
  other : ours ≡ false → Other m
  other h =
      test-case (known (message_type m))
      (λ k. other-family (λ e. true-false (eqb (family m) inet) (eq-eqb (family m) inet e) (and_rest (known (message_type m)) (eqb (family m) inet) k h)))
      (λ k. other-type k)

  is-other : Other m → ours ≡ false
  is-other (other-type k) = fails ours (λ e. true-false _ (and_left (known (message_type m)) (eqb (family m) inet) e) k)
  is-other (other-family f) = fails ours (λ e. f (eqb-true (family m) inet (and_right (known (message_type m)) (eqb (family m) inet) e)))

  -- ---- sizes
  wrong_size : fitting ≡ false → WrongSize m
  unfolding sizes
  wrong_size h =
      let l = attributes (body m) in
      let a = all (sized_in (message_type m)) l in
      let n = not (eqb (message_type m) rtm_new_addr) in
      let g = given (last ifa_local l) in
      test-case a
      (λ w. let v = or-false n g (and_rest a (n || g) w h) in
      no_local
      (eqb-true (message_type m) rtm_new_addr (not-false (eqb (message_type m) rtm_new_addr) v.0))
      (ungiven (last ifa_local l) v.1))
      (λ w. let f = failing (sized_in (message_type m)) l w in
      size f.before f.after f.here f.is f.fails-here)

  is-wrong-size : WrongSize m → fitting ≡ false
  unfolding sizes
  is-wrong-size (size p q a i h) =
      let l = attributes (body m) in
      let s = all (sized_in (message_type m)) l in
      fails fitting (λ e. true-false s (and_left s _ e) (not-all (sized_in (message_type m)) l p q a i h))
  is-wrong-size (no_local k e) =
      let l = attributes (body m) in
      let v = not (eqb (message_type m) rtm_new_addr) || given (last ifa_local l) in
      let none-there : v ≡ false =
      ap (λ (b : Bool). not b || given (last ifa_local l)) (eq-eqb (message_type m) rtm_new_addr k) ∙ ap given e
      in
      fails fitting (λ w. true-false v (and_right (all (sized_in (message_type m)) l) v w) none-there)

  -- ---- the answer, by the three tests
  refusal_is : refusal m ≡ chosen bad_length ours fitting
  unfolding refusal shape_refusal
  refusal_is = in_order (headed m) (known (message_type m)) (lengths m) (eqb (family m) inet) fitting

  abbrev pub wanted : ℕ → Answer
  wanted up = asked (message_type m) (request up m (message_type m) (attributes (body m)))

  read_is : (up : ℕ) → read up m ≡ cond (eqb (chosen bad_length ours fitting) 0) (wanted up) (refused (chosen bad_length ours fitting))
  unfolding read
  read_is up = ap (λ (n : ℕ). cond (eqb n 0) (wanted up) (refused n)) refusal_is

  number : (up : ℕ) → number_of (read up m) ≡ chosen bad_length ours fitting
  number up = ap number_of (read_is up) ∙ number_is (chosen bad_length ours fitting) (message_type m) (request up m (message_type m) (attributes (body m)))

-- ---- a message that isn't refused before its sizes
shape_in_order : (h k l y : Bool) → cond (not h) 204 (cond (not k) 205 (cond (not l) 204 (cond y 0 205))) ≡ chosen (not h || (k && not l)) (k && y) true
shape_in_order false k l y = refl
shape_in_order true false l y = refl
shape_in_order true true false y = refl
shape_in_order true true true y = refl

pub shaped : (m : List ℕ) → shape_refusal m ≡ 0 → Shaped m
unfolding shape_refusal
shaped m h =
    let k = known (message_type m) in
    let e = right_0 (bad_length m) (ours m) true (sym (shape_in_order (headed m) k (lengths m) (eqb (family m) inet)) ∙ h) in
    let good = or-false (not (headed m)) (k && not (lengths m)) e.0 in
    let four : k ≡ true = and_left k (eqb (family m) inet) e.1 in
    let header = headed-is m (not-false (headed m) good.0) in
    let inner = lengths_are m (not-false (lengths m) (and_rest k (not (lengths m)) four good.1)) in
    record { long = header.long; covers = inner.covers; ends = header.ends; one_of-four = four }

pub unrefused : (m : List ℕ) → refusal m ≡ 0 → Shaped m
unfolding refusal
unrefused m h = shaped m (test-case (eqb (shape_refusal m) 0) (λ w. eqb-true (shape_refusal m) 0 w) (λ w. rw w at h))

pub four-types : (t : ℕ) {C : Type 0} → known t ≡ true
    → (t ≡ rtm_new_addr → C) → (t ≡ rtm_del_addr → C) → (t ≡ rtm_new_route → C) → (t ≡ rtm_del_route → C) → C
four-types t k f g h i =
    or_case (is_address t) (is_route t) k
    (λ e. or_case (eqb t rtm_new_addr) (eqb t rtm_del_addr) e (λ w. f (eqb-true t rtm_new_addr w)) (λ w. g (eqb-true t rtm_del_addr w)))
    (λ e. or_case (eqb t rtm_new_route) (eqb t rtm_del_route) e (λ w. h (eqb-true t rtm_new_route w)) (λ w. i (eqb-true t rtm_del_route w)))

-- ---- what is asked of a reader
module _ (up : ℕ) (m : List ℕ) where
  pub is_204 : (read up m ≡ refused 204) ↔ BadLength m
  is_204 = (
    (λ e. why m (bad_204 (bad_length m) (ours m) (fitting m) (sym (number m up) ∙ ap number_of e))),
    (λ b. read_is m up ∙ rw (is_bad m b)),
  )

  pub is_205 : (read up m ≡ refused 205) ↔ ((BadLength m → ⊥) × Other m)
  is_205 = (
    (λ e. let h = other_205 (bad_length m) (ours m) (fitting m) (sym (number m up) ∙ ap number_of e) in
        ((λ b. true-false (bad_length m) (is_bad m b) h.0), other m h.1)),
    (λ h. read_is m up ∙ rw (fails (bad_length m) (λ e. h.0 (why m e)), is-other m h.1)),
  )

  pub is_206 : (read up m ≡ refused 206) ↔ ((BadLength m → ⊥) × (Other m → ⊥) × WrongSize m)
  is_206 = (
    (λ e. let h = wrong_206 (bad_length m) (ours m) (fitting m) (sym (number m up) ∙ ap number_of e) in
        ((λ b. true-false (bad_length m) (is_bad m b) h.0), (λ b. true-false (ours m) h.1 (is-other m b)), wrong_size m h.2)),
    (λ h. read_is m up ∙ rw (fails (bad_length m) (λ e. h.0 (why m e)), passes (ours m) (λ e. h.1 (other m e)), is-wrong-size m h.2)),
  )

  -- the request of the message's type
  pub is-asked : (read up m ≡ wanted m up) ↔ ((BadLength m → ⊥) × (Other m → ⊥) × (WrongSize m → ⊥))
  is-asked = (
    (λ e. let h = right_0 (bad_length m) (ours m) (fitting m) (sym (number m up) ∙ ap number_of e) in (
      (λ b. true-false (bad_length m) (is_bad m b) h.0),
      (λ b. true-false (ours m) h.1 (is-other m b)),
      (λ b. true-false (fitting m) h.2 (is-wrong-size m b)),
    )),
    (λ h. read_is m up
        ∙ rw (fails (bad_length m) (λ e. h.0 (why m e)), passes (ours m) (λ e. h.1 (other m e)), passes (fitting m) (λ e. h.2 (wrong_size m e)))),
  )
