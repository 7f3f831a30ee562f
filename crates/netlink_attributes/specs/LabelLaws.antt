-- A label as the part before the first zero.
-- Assumes nothing.
use Rattle.std.specs.Prelude.{ℕ, suc, ◌+◌, ◌≤◌, ◌≡◌, refl, Bool, cond, List, [], ◌∷◌, Option, eqb, length, take, unwrap_or, nat_lt}
use Rattle.std.specs.List.{position, position_or_len}
use Rattle.std.proofs.Common.{sym, ap, ◌∙◌, arith, ltb-false, eqb-true, eq-eqb}
use Rattle.lists.specs.Lists.{until}
use Rattle.lists.specs.Bools.{same_test, test-case}
use Rattle.netlink.specs.Reader.{label}

module _ (p : ℕ → Bool) where
  first-within : (l : List ℕ) → position_or_len p l ≤ length l
  first-within [] = omega arith
  first-within (b ∷ l) =
      let ih = first-within l in
      test-case (p b) (λ w. rw w (omega arith)) (λ w. rw w (omega arith))

  before-first : (l : List ℕ) → take (position_or_len p l) l ≡ until p l
  before-first [] = refl
  before-first (b ∷ l) =
      test-case (p b)
      (λ w. rw w)
      (λ w. let one : 1 + position_or_len p l ≡ suc (position_or_len p l) = omega arith in
      rw (w, one) (ap (λ (x : List ℕ). b ∷ x) (before-first l)))

  first-or : (l : List ℕ) → unwrap_or (position p l) (length l) ≡ position_or_len p l
  first-or l =
      let within = first-within l in
      test-case (nat_lt (position_or_len p l) (length l))
      (λ w. rw w)
      (λ w. let h = ltb-false (position_or_len p l) (length l) w in rw w (omega arith))

  -- by a test q that says the same
  until-same : (q : ℕ → Bool) → ((b : ℕ) → p b ≡ q b) → (l : List ℕ) → until p l ≡ until q l
  until-same q same [] = refl
  until-same q same (b ∷ l) = rw same (ap (λ (x : List ℕ). cond (q b) [] (b ∷ x)) (until-same q same l))

turned : (b : ℕ) → eqb b 0 ≡ eqb 0 b
turned b = same_test (eqb b 0) (eqb 0 b) (λ e. eq-eqb 0 b (sym (eqb-true b 0 e))) (λ e. eq-eqb b 0 (sym (eqb-true 0 b e)))

pub front : (l : List ℕ) (r : Option ℕ) (n : ℕ) → r ≡ position (λ b. eqb b 0) l → n ≡ unwrap_or r (length l) → take n l ≡ label l
front l r n e f =
    let zero_at : ℕ → Bool = λ b. eqb b 0 in
    ap (λ (i : ℕ). take i l) (f ∙ ap (λ (o : Option ℕ). unwrap_or o (length l)) e ∙ first-or zero_at l)
    ∙ before-first zero_at l
    ∙ until-same zero_at (eqb 0) turned l
