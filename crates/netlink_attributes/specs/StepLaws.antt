-- Laws of what the iterator of attributes gives at one step: the bytes that are left are those from a place on.
-- Assumes nothing.
use Rattle.std.specs.Prelude.{ℕ, ◌+◌, ◌-◌, ◌*◌, ◌%◌, ◌≤◌, ◌<◌, ◌≡◌, true, List, length, get_or, take, drop}
use Rattle.std.proofs.Common.{sym, ap, ◌∙◌, arith, length-drop, drop-drop, take_all, ltb-true}
use Rattle.lists.specs.Bools.{fails}
use Rattle.netlink.specs.Attributes.{Attribute, Parsed, u16, padded, whole, first, more, parsed, attributes}
use Rattle.netlink.specs.Laws.{end, four, within, is_whole, parsed-more, parsed-end}
use Rattle.netlink_attributes.specs.Steps.{short}

pub nothing : (l : List ℕ) → (4 ≤ u16 l 0 → u16 l 0 ≤ length l → ⊥) → parsed l ≡ end l
nothing l h = parsed-end l (fails (whole l) (λ w. h (four l w) (within l w)))

pub is-short : (l : List ℕ) → short l ≡ true → parsed l ≡ end l
is-short l h = nothing l (λ p q. omega (arith, ltb-true (length l) 4 h))

pub fewer : (l m : List ℕ) (a : Attribute) → parsed l ≡ more a (parsed m) → length (attributes m) < length (attributes l)
fewer l m a e = let n = ap (λ (p : Parsed). length p.attributes) e in omega arith

module _ (l : List ℕ) (at : ℕ) where
  -- as the code has them
  abbrev pub left : List ℕ
  left = take (length l - at) (drop at l)

  pub left-is : left ≡ drop at l
  left-is = take_all (length l - at) (drop at l) (rw length-drop (omega arith))

  -- the header's two numbers
  pub length-is : (n : ℕ) → n ≡ get_or left 0 0 + get_or left 1 0 * 256 → n ≡ u16 (drop at l) 0
  length-is n e = e ∙ ap (λ (x : List ℕ). get_or x 0 0 + get_or x 1 0 * 256) left-is ∙ omega arith

  pub code-is : (n : ℕ) → n ≡ get_or left 2 0 + get_or left 3 0 * 256 → n ≡ u16 (drop at l) 2
  code-is n e = e ∙ ap (λ (x : List ℕ). get_or x 2 0 + get_or x 3 0 * 256) left-is ∙ omega arith

  pub begins : (p : List ℕ) (n code next : ℕ) → n ≡ u16 (drop at l) 0 → 4 ≤ n → n ≤ length l - at → code ≡ u16 (drop at l) 2 % 16384
      → p ≡ take (n - 4) (drop 4 left) → next ≡ padded n → parsed (drop at l) ≡ more (record { code = code; payload = p }) (parsed (drop (at + next) l))
  unfolding first
  begins p n code next e f g c q r =
      let long : length (drop at l) ≡ length l - at = length-drop at l in
      let w : whole (drop at l) ≡ true = is_whole (drop at l) (omega arith) (omega arith) in
      let same : first (drop at l) ≡ record { code = code; payload = p } =
      (λ i. record { code = sym c i; payload = (ap (λ (k : ℕ). take (k - 4) (drop 4 (drop at l))) (sym e) ∙ sym (q ∙ ap (λ (x : List ℕ). take (n - 4) (drop 4 x)) left-is)) i })
      in
      let on : drop (padded (u16 (drop at l) 0)) (drop at l) ≡ drop (at + next) l = ap (λ (k : ℕ). drop k (drop at l)) (ap padded (sym e) ∙ sym r) ∙ drop-drop next at l in
      parsed-more (drop at l) w ∙ (λ i. more (same i) (parsed (on i)))
