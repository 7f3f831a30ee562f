-- A step for each element of a list, one element more at a time, as a loop does it.
-- Assumes nothing.
use Rattle.std.specs.Prelude.{ℕ, zero, suc, ◌+◌, ◌≤◌, ◌<◌, ◌≡◌, Bool, ◌&&◌, length, get_or, take}
use Rattle.std.proofs.Math.Path.{refl, sym, ap}
use Rattle.std.proofs.Common.{◌∙◌, take_all}
use Rattle.std.proofs.Math.Bool.{true, false}
use mathlib.Core.List.{List, [], ◌∷◌, ◌++◌}
use Rattle.lists.specs.Bools.{test-case, true-false, and_rest, and_right}
use Rattle.lists.specs.Split.{take_more}
use Rattle.definition.specs.State.{State, Out, sizes, stays, also, through}
use Rattle.definition.specs.Words.{within}
use Rattle.definition.specs.Reference.Addresses.{goes}
use Rattle.state.specs.Represents.{Represents}
use Rattle.step_events.specs.Emits.{does-same}
use Rattle.step_events.specs.Iterations.{Like, like_refl, like_sym, like_trans, also_like, through-one, through_append}
use Rattle.step_events.specs.Comes.{Answer, Comes, within-also, other-past, comes-full, adds_none, adds-also}
use Rattle.step_events.specs.declared.change.Change.{Change}
use Rattle.refusal.specs.declared.Refusal.{Refusal}
use Rattle.std.specs.Prelude.{Ok, Err}

-- two steps that leave and emit the same, within the limits alike
pub record Alike (o p : Out) : Type 0 where
  pub left : o.state ≡ p.state
  pub said : o.emitted ≡ p.emitted
  pub limits : within o.peak ≡ within p.peak

pub adds_same : {o p : Out} {a b : Change} {r : Answer} → Alike o p → Comes (goes o) a b r → Comes (goes p) a b r
adds_same s t =
    record {
      answer = t.answer ∙ rw s.limits;
      does = λ e. does-same s.left s.said (t.does (s.limits ∙ e));
    }

-- what a step leaves is no longer than its peak
pub record Covered {A : Type 0} (f : A → State → Out) : Type 0 where
  pub covers : (x : A) (st : State) → within (f x st).peak ≡ true → within (sizes (f x st).state) ≡ true

module _ {A : Type 0} (f : A → State → Out) where
  more_like : (l : List A) (x : A) (st : State) → Like (also (through f l st) (f x)) (through f (l ++ (x ∷ [])) st)
  more_like l x st =
      like_sym
      (like_trans (through_append f l (x ∷ []) st)
      (also_like (through f (x ∷ [])) (f x) (like_refl (through f l st)) (through-one f x (through f l st).state)))

  module _ (k : Covered f) where
    more-limits : (l : List A) (x : A) (st : State) → within (sizes st) ≡ true
        → within (also (through f l st) (f x)).peak ≡ within (through f (l ++ (x ∷ [])) st).peak
    unfolding through also
    more-limits [] x st h =
        within-also (stays st) (f x) ∙ rw h (last (within (f x st).peak) (k.covers x st)) ∙ sym (within-also (f x st) stays)
      where
        last : (b : Bool) {c : Bool} → (b ≡ true → c ≡ true) → b ≡ (b && c)
        last true g = sym (g refl)
        last false g = refl
    more-limits (y ∷ l) x st h =
        let a = f y st in
        let g = f x (through f l a.state).state in
        let ahead : within (also (also a (through f l)) (f x)).peak ≡ (within a.peak && within (through f l a.state).peak && within g.peak) =
        within-also (also a (through f l)) (f x) ∙ ap (λ (b : Bool). b && within g.peak) (within-also a (through f l))
        in
        let behind : within (also a (through f (l ++ (x ∷ [])))).peak ≡ (within a.peak && within (through f (l ++ (x ∷ [])) a.state).peak) =
        within-also a (through f (l ++ (x ∷ [])))
        in
        test-case (within a.peak)
        (λ e.
        let later = sym (within-also (through f l a.state) (f x)) ∙ more-limits l x a.state (k.covers y st e) in
        let same : (within a.peak && within (through f l a.state).peak && within g.peak) ≡ (within a.peak && within (through f (l ++ (x ∷ [])) a.state).peak) = rw e later in
        ahead ∙ same ∙ sym behind)
        (λ e.
        let none_left : (within a.peak && within (through f l a.state).peak && within g.peak) ≡ (within a.peak && within (through f (l ++ (x ∷ [])) a.state).peak) = rw e in
        ahead ∙ none_left ∙ sym behind)

    -- one element more
    pub through-more : (l : List A) (x : A) (st : State) → within (sizes st) ≡ true → Alike (also (through f l st) (f x)) (through f (l ++ (x ∷ [])) st)
    through-more l x st h =
        let m = more_like l x st in
        record {
          left = m.leaves;
          said = m.same_emitted;
          limits = more-limits l x st h;
        }

-- a list that passed its limit among the first i has passed it among all
full-later : {A : Type 0} (f : A → State → Out) → Covered f → (i : ℕ) (l : List A) (st : State) → within (sizes st) ≡ true
    → within (through f (take i l) st).peak ≡ false → within (through f l st).peak ≡ false
unfolding through
full-later f k zero l st s h = absurd (true-false (within (sizes st)) s h)
full-later f k (suc i) [] st s h = h
full-later f k (suc i) (x ∷ l) st s h =
    let a = f x st in
    let here : (within a.peak && within (through f (take i l) a.state).peak) ≡ false = sym (within-also a (through f (take i l))) ∙ h in
    within-also a (through f l)
    ∙ test-case (within a.peak)
    (λ e. and-false e (full-later f k i l a.state (k.covers x st e) (and_rest (within a.peak) (within (through f (take i l) a.state).peak) e here)))
    (λ e. rw e)
  where
    and-false : {b c : Bool} → b ≡ true → c ≡ false → (b && c) ≡ false
    and-false e g = rw (e, g)

-- ---- loops: the first i elements, and one more
module _ {A : Type 0} (f : A → State → Out) (l : List A) (st : State) where
  module _ (k : Covered f) (s : within (sizes st) ≡ true) where
    pub adds-next : (i : ℕ) (d : A) → i < length l → {a b c : Change} {r : Answer} → Comes (goes (through f (take i l) st)) a b (Ok tt)
        → Comes (goes (f (get_or l i d) (through f (take i l) st).state)) b c r
        → Comes (goes (through f (take (i + 1) l) st)) a c r
    adds-next i d h t u =
        rw (take_more l i d h) (adds_same (through-more f k (take i l) (get_or l i d) st s) (adds-also t (f (get_or l i d)) u))

    -- once there is no room, none comes back
    pub adds-other-end : (i : ℕ) {a b c d : Change} {e : Refusal} → Comes (goes (through f (take i l) st)) a b (Err e) → Comes (goes (through f l st)) c d (Err e)
    adds-other-end i t = let p = other-past t in rw p.0 (comes-full (full-later f k i l st s p.1))

  pub adds-start : {a : Change} → Represents a.state.words.now st → Comes (goes (through f (take 0 l) st)) a a (Ok tt)
  unfolding through
  adds-start h = adds_none st h

  pub adds-end : (i : ℕ) → length l ≤ i → {a b : Change} {r : Answer} → Comes (goes (through f (take i l) st)) a b r → Comes (goes (through f l st)) a b r
  adds-end i h t = rw (take_all i l h) at t

-- ---- what is left is within the limits where the peak is
pub covered-also : (o : Out) (g : State → Out) → (within (g o.state).peak ≡ true → within (sizes (g o.state).state) ≡ true)
    → within (also o g).peak ≡ true → within (sizes (also o g).state) ≡ true
unfolding also
covered-also o g c h = c (and_right (within o.peak) (within (g o.state).peak) (sym (within-also o g) ∙ h))

pub covered-through : {A : Type 0} (f : A → State → Out) → Covered f → (l : List A) (st : State)
    → within (through f l st).peak ≡ true → within (sizes (through f l st).state) ≡ true
unfolding through
covered-through f k [] st h = h
covered-through f k (x ∷ l) st h = covered-also (f x st) (through f l) (covered-through f k l (f x st).state) h
