-- A state without its chosen tables, and steps that go the same way there.
use Rattle.std.specs.Prelude.{ℕ, ◌≡◌, Bool, true, false, cond, not, eqb}
use Rattle.std.proofs.Math.Path.{refl, ap, ap₂}
use Rattle.std.proofs.Common.{sym, ◌∙◌, eqb-true}
use mathlib.Core.List.{List, [], ◌∷◌, ◌++◌}
use Rattle.lists.specs.Lists.{keep, all}
use Rattle.lists.specs.Bools.{and_left, and_right}
use Rattle.lists.specs.All.{all_always}
use Rattle.definition.specs.State.{State, Out, also, through}
use Rattle.definition.specs.Reference.Addresses.{Outcome, goes, refused}
unfoldable pub use Rattle.definition.specs.Step.{result}
use Rattle.definition.specs.Noninterference.Statement.{outside}

module _ (chosen : ℕ → Bool) where
  -- a table that isn't chosen
  abbrev pub unchosen : ℕ → Bool
  unchosen t = not (chosen t)

  -- the state without the chosen tables and their rows
  abbrev pub without : State → State
  without st =
      record {
        addresses = st.addresses;
        routes = keep (outside chosen) st.routes;
        tables = keep unchosen st.tables;
      }

  -- a number equal to one that is not chosen
  pub unchosen_as : (t u : ℕ) → unchosen t ≡ true → eqb u t ≡ true → unchosen u ≡ true
  unchosen_as t u h e = rw (eqb-true u t e) h

  pub unchosen_like : (t u : ℕ) → unchosen t ≡ true → eqb t u ≡ true → unchosen u ≡ true
  unchosen_like t u h e = rw (sym (eqb-true t u e)) h

  -- ---- the step p does without the chosen tables what o does with them
  pub record Mirrors (o p : Out) : Type 0 where
    pub state : p.state ≡ without o.state
    pub emitted : p.emitted ≡ o.emitted

  -- step consistency: it goes the same way without the chosen tables
  abbrev pub StepConsistent : (State → Out) → Type 0
  StepConsistent f = (st : State) → Mirrors (f st) (f (without st))

  pub mirrors_also : (o p : Out) (f : State → Out) → Mirrors o p → StepConsistent f → Mirrors (also o f) (also p f)
  unfolding also
  mirrors_also o p f m h =
      let k = h o.state in
      record {
        state = ap (λ s. (f s).state) m.state ∙ k.state;
        emitted = ap₂ ◌++◌ m.emitted (ap (λ s. (f s).emitted) m.state ∙ k.emitted);
      }

  pub consistent-through : {A : Type 0} (f : A → State → Out) (p : A → Bool) → ((x : A) → p x ≡ true → StepConsistent (f x)) → (l : List A) → all p l ≡ true → StepConsistent (through f l)
  unfolding through
  consistent-through f p h [] k st = record { state = refl; emitted = refl }
  consistent-through f p h (x ∷ l) k st =
      mirrors_also (f x st) (f x (without st)) (through f l) (h x (and_left (p x) (all p l) k) st)
      (consistent-through f p h l (and_right (p x) (all p l) k))

  pub consistent-all : {A : Type 0} (f : A → State → Out) → ((x : A) → StepConsistent (f x)) → (l : List A) → StepConsistent (through f l)
  consistent-all f h l = consistent-through f (λ x. true) (λ x e. h x) l (all_always (λ x. true) l (λ x. refl))

  pub mirrors_cond : (b : Bool) (o o' p p' : Out) → Mirrors o p → Mirrors o' p' → Mirrors (cond b o o') (cond b p p')
  mirrors_cond true o o' p p' m n = m
  mirrors_cond false o o' p p' m n = n

  -- what a changing call comes to, with and without the chosen tables
  pub data Tandem : Outcome → Outcome → Type 0 where
    both_go : {o p : Out} → Mirrors o p → Tandem (goes o) (goes p)
    both-refuse : (n : ℕ) (st : State) → Tandem (refused n st) (refused n (without st))

  pub tandem_cond : (b : Bool) (o o' p p' : Outcome) → Tandem o p → Tandem o' p' → Tandem (cond b o o') (cond b p p')
  tandem_cond true o o' p p' m n = m
  tandem_cond false o o' p p' m n = n
