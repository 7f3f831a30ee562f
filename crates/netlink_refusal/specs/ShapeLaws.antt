-- What refuses a message, test by test.
-- Assumes nothing.
use Rattle.std.specs.Prelude.{ℕ, ◌≡◌, refl, Bool, true, false, cond, ◌&&◌, ◌||◌, not, List, eqb, leb}
use Rattle.std.proofs.Common.{sym, ap, ◌∙◌}
use Rattle.lists.specs.Lists.{all}
use Rattle.netlink.specs.Attributes.{attributes, right}
use Rattle.netlink.specs.Codes.{inet}
use Rattle.netlink.specs.Exactly.{known}
use Rattle.netlink.specs.Reader.{message_length, message_type, family, is_address, attributes_at, headed, body, nested_right, lengths, sizes, shape_refusal, refusal}
use Rattle.netlink_refusal.specs.Order.{number_for}

abbrev shapes : Bool → Bool → Bool → Bool → ℕ
shapes h k l y = cond (not h) 204 (cond (not k) 205 (cond (not l) 204 (cond y 0 205)))

abbrev whole : ℕ → Bool → ℕ
whole n s = cond (eqb n 0) (cond s 0 206) n

no_header : (h k l y s : Bool) → h ≡ false → whole (shapes h k l y) s ≡ 204
no_header false k l y s e = refl
no_header true k l y s e = cc

no_type : (h k l y s : Bool) → h ≡ true → k ≡ false → whole (shapes h k l y) s ≡ 205
no_type true false l y s e f = refl
no_type true true l y s e f = cc
no_type false k l y s e f = cc

by-walk : (x y s : Bool) → whole (shapes true true x y) s ≡ cond x (cond y (cond s 0 206) 205) 204
by-walk false y s = refl
by-walk true true s = refl
by-walk true false s = refl

by-both : (h k c r n y s : Bool) → h ≡ true → k ≡ true → whole (shapes h k (c && r && n) y) s ≡ cond c (cond (r && n) (cond y (cond s 0 206) 205) 204) 204
by-both true true true r n y s e f = by-walk (r && n) y s
by-both true true false r n y s e f = refl
by-both true false c r n y s e f = cc
by-both false k c r n y s e f = cc

module _ (m : List ℕ) where
  abbrev y : Bool
  y = eqb (family m) inet

  abbrev s : Bool
  s = sizes (message_type m) (attributes (body m))

  pub headless : headed m ≡ false → refusal m ≡ 204
  unfolding refusal shape_refusal
  headless h = no_header (headed m) (known (message_type m)) (lengths m) y s h

  module _ (h : headed m ≡ true) where
    pub unknown : known (message_type m) ≡ false → refusal m ≡ 205
    unfolding refusal shape_refusal
    unknown k = no_type (headed m) (known (message_type m)) (lengths m) y s h k

    pub number-is : (t end : ℕ) → t ≡ message_type m → known t ≡ true → end ≡ message_length m → refusal m ≡ number_for t m end
    unfolding refusal shape_refusal lengths
    number-is t end e k f =
        by-both (headed m) (known (message_type m)) (leb (attributes_at (message_type m)) (message_length m)) (right (body m))
        (is_address (message_type m) || all nested_right (attributes (body m))) y s h (ap known (sym e) ∙ k)
        ∙ (λ i. number_for (sym e i) m (sym f i))
