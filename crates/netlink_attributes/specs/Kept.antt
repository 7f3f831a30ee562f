-- A field that is kept as its attributes come: what the last of its code gives, and the flags that hold as long as all attributes do.
-- Assumes nothing.
use Rattle.std.specs.Prelude.{ℕ, ◌≡◌, refl, Bool, true, false, cond, ◌&&◌, ◌||◌, not, List, [], ◌∷◌, eqb, length}
use Rattle.std.specs.List.{fold}
use Rattle.std.proofs.Common.{sym, ap, ◌∙◌}
use Rattle.std.proofs.Math.Option.{Option, none, some}
use Rattle.lists.specs.Lists.{all, any}
use Rattle.lists.specs.Bools.{and_left, and_right, test-case}
use Rattle.netlink.specs.Attributes.{Attribute, last_after, last}

-- an attribute is of a code, and fits its field
abbrev pub fits : ℕ → (List ℕ → Bool) → Attribute → Bool
fits k f a = not (eqb a.code k) || f a.payload

abbrev pub long : ℕ → List ℕ → Bool
long n p = eqb (length p) n

-- the field, one attribute later
abbrev pub placed : {B : Type 0} → ℕ → (List ℕ → Bool) → (List ℕ → B) → B → Attribute → B
placed k f g b a = cond (eqb a.code k && f a.payload) (g a.payload) b

-- what a payload gives, or what stands for none
abbrev pub chosen : {B : Type 0} → (List ℕ → B) → B → Option (List ℕ) → B
chosen g b none = b
chosen g b (some p) = g p

module _ {B : Type 0} (k : ℕ) (g : List ℕ → B) where
  later : (b : B) (o : Option (List ℕ)) (l : List Attribute) → chosen g b (last_after k o l) ≡ chosen g (chosen g b o) (last_after k none l)
  unfolding last_after
  later b o [] = refl
  later b o (a ∷ l) =
      test-case (eqb a.code k)
      (λ w. rw w (later b (some a.payload) l ∙ sym (later (chosen g b o) (some a.payload) l)))
      (λ w. rw w (later b o l))

  -- where all of the code fit, the field is what the last of them gives
  pub kept : (f : List ℕ → Bool) (b : B) (l : List Attribute) → all (fits k f) l ≡ true → fold (placed k f g) b l ≡ chosen g b (last k l)
  unfolding last_after
  kept f b [] h = refl
  kept f b (a ∷ l) h =
      let here = and_left (fits k f a) (all (fits k f) l) h in
      let rest = and_right (fits k f a) (all (fits k f) l) h in
      test-case (eqb a.code k)
      (λ w. let good : f a.payload ≡ true = rw w at here in
      rw (w, good) (kept f (g a.payload) l rest ∙ sym (later b (some a.payload) l)))
      (λ w. rw w (kept f b l rest))

-- the last of a code fits, where all of them do
pub last-fits : (k : ℕ) (f : List ℕ → Bool) (o : Option (List ℕ)) (l : List Attribute) → chosen f true o ≡ true → all (fits k f) l ≡ true
    → chosen f true (last_after k o l) ≡ true
unfolding last_after
last-fits k f o [] g h = g
last-fits k f o (a ∷ l) g h =
    let here = and_left (fits k f a) (all (fits k f) l) h in
    let rest = and_right (fits k f a) (all (fits k f) l) h in
    test-case (eqb a.code k)
    (λ w. let good : f a.payload ≡ true = rw w at here in
    rw w (last-fits k f (some a.payload) l good rest))
    (λ w. rw w (last-fits k f o l g rest))

module _ {A S B : Type 0} (step : S → A → S) (p : S → B) (g : B → A → B) (e : (s : S) (a : A) → p (step s a) ≡ g (p s) a) where
  -- a part of what is kept goes by itself
  pub part : (s : S) (l : List A) → p (fold step s l) ≡ fold g (p s) l
  part s [] = refl
  part s (a ∷ l) = part (step s a) l ∙ ap (λ (b : B). fold g b l) (e s a)

module _ {A : Type 0} (q : A → Bool) where
  pub flagged : (b : Bool) (l : List A) → fold (λ b a. b && q a) b l ≡ b && all q l
  flagged true [] = refl
  flagged false [] = refl
  flagged true (a ∷ l) = flagged (q a) l
  flagged false (a ∷ l) = flagged false l

  pub raised : (b : Bool) (l : List A) → fold (λ b a. b || q a) b l ≡ b || any q l
  raised true [] = refl
  raised false [] = refl
  raised true (a ∷ l) = raised true l
  raised false (a ∷ l) = raised (q a) l
