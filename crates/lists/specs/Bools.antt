-- Laws of tests: joined by and and or, turned round, and what is chosen by one. mathlib.Core.Bool has those of one variable.
-- Assumes nothing.
use Rattle.std.specs.Prelude.{ℕ, ◌≡◌, refl, Bool, true, false, cond, not, ◌&&◌, ◌||◌, ◌↔◌}
use Rattle.std.proofs.Common.{sym, ap, ◌∙◌, true≢false, arith}

pub and_left : (a b : Bool) → a && b ≡ true → a ≡ true
and_left true b h = refl
and_left false b h = h

pub and_right : (a b : Bool) → a && b ≡ true → b ≡ true
and_right true b h = h
and_right false b h = cc

pub and_both : (a b : Bool) → a ≡ true → b ≡ true → a && b ≡ true
and_both true b g h = h
and_both false b g h = g

-- the second fails where the first passes and both don't
pub and_rest : (a b : Bool) → a ≡ true → a && b ≡ false → b ≡ false
and_rest true b g h = h
and_rest false b g h = cc

-- `simp and_iff at h` takes a chain of tests apart, and `simp and_iff` puts one together
pub and_iff : (a b : Bool) → (a && b ≡ true) ↔ ((a ≡ true) × (b ≡ true))
and_iff a b = ((λ h. (and_left a b h, and_right a b h)), (λ h. and_both a b h.0 h.1))

pub or-false : (a b : Bool) → a || b ≡ false → (a ≡ false) × (b ≡ false)
or-false true b h = (h, cc)
or-false false b h = (refl, h)

pub or_case : (a b : Bool) {C : Type 0} → a || b ≡ true → (a ≡ true → C) → (b ≡ true → C) → C
or_case true b h f g = f refl
or_case false b h f g = g h

pub or_left : (a b : Bool) → a ≡ true → a || b ≡ true
or_left true b h = refl
or_left false b h = cc

pub or_right : (a b : Bool) → b ≡ true → a || b ≡ true
or_right true b h = refl
or_right false b h = h

-- a test that can't pass fails
pub fails : (b : Bool) → (b ≡ true → ⊥) → b ≡ false
fails true h = absurd (h refl)
fails false h = refl

pub not-both : (b : Bool) → b ≡ true → not b ≡ true → ⊥
not-both true g h = let z : ◌≡◌ {A = ℕ} 0 1 = cc in omega arith
not-both false g h = let z : ◌≡◌ {A = ℕ} 0 1 = cc in omega arith

pub not_so : (b : Bool) → (b ≡ true → ⊥) → not b ≡ true
not_so true h = absurd (h refl)
not_so false h = refl

pub false-not : (b : Bool) → b ≡ false → not b ≡ true
false-not b h = ap not h

pub true-false : (b : Bool) → b ≡ true → b ≡ false → ⊥
true-false b g h = let z : ◌≡◌ {A = ℕ} 0 1 = cc in omega arith

-- a test passes or fails
pub test-case : (b : Bool) {C : Type 0} → (b ≡ true → C) → (b ≡ false → C) → C
test-case true f g = f refl
test-case false f g = g refl

-- what holds of both arms, each where its test says so, holds of the choice
pub cond-case {ℓ} : {A : Type ℓ} (P : A → Type 0) (b : Bool) {x y : A} → (b ≡ true → P x) → (b ≡ false → P y) → P (cond b x y)
cond-case P true f g = f refl
cond-case P false f g = g refl

pub cond-true {ℓ} : {A : Type ℓ} (b : Bool) (x y : A) → b ≡ true → cond b x y ≡ x
cond-true b x y h = ap (λ (t : Bool). cond t x y) h

pub cond-false {ℓ} : {A : Type ℓ} (b : Bool) (x y : A) → b ≡ false → cond b x y ≡ y
cond-false b x y h = ap (λ (t : Bool). cond t x y) h

-- two tests agree where each fact gives the other
pub same_test : (a b : Bool) → (a ≡ true → b ≡ true) → (b ≡ true → a ≡ true) → a ≡ b
same_test true true f g = refl
same_test true false f g = sym (f refl)
same_test false true f g = g refl
same_test false false f g = refl

-- what follows from a test that holds doesn't hold where the test fails
pub contrary : (a b : Bool) → (a ≡ true → b ≡ true) → b ≡ false → a ≡ false
contrary true b f h = absurd (true≢false (sym (f refl) ∙ h))
contrary false b f h = refl

pub cond_map : {A B : Type 0} (f : A → B) (b : Bool) (x y : A) → f (cond b x y) ≡ cond b (f x) (f y)
cond_map f true x y = refl
cond_map f false x y = refl

pub cond_same : {A : Type 0} (b : Bool) (x : A) → cond b x x ≡ x
cond_same true x = refl
cond_same false x = refl
