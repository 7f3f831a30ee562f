-- A step that a loop makes iteration by iteration: what is done so far, and what remains to be done from there.
-- Assumes nothing.
use Rattle.std.specs.Prelude.{ℕ, ◌≡◌, refl, List, [], ◌∷◌, ◌++◌}
use Rattle.std.proofs.Common.{sym, ap, ◌∙◌, append-nil, append_assoc}
use Rattle.lists.specs.Lists.{Row}
use Rattle.definition.specs.State.{State, Out, stays, also, through}
use Rattle.state.specs.Represents.{Represents}
use Rattle.step_events.specs.EmitsWithin.{RoomFor, SomeRoom, EmitsWithin, step_same, step-none, rest-fits, step-also}
use Rattle.step_events.specs.declared.change.Change.{Change}

-- ---- steps that show the same: the state that they leave and the rows that they emit
pub record Like (o p : Out) : Type 0 where
  pub leaves : o.state ≡ p.state
  pub same_emitted : o.emitted ≡ p.emitted

pub like_refl : (o : Out) → Like o o
like_refl o = record { leaves = refl; same_emitted = refl }

pub like_sym : {o p : Out} → Like o p → Like p o
like_sym h = record { leaves = sym h.leaves; same_emitted = sym h.same_emitted }

pub like_trans : {o p q : Out} → Like o p → Like p q → Like o q
like_trans h k = record { leaves = h.leaves ∙ k.leaves; same_emitted = h.same_emitted ∙ k.same_emitted }

pub like_eq : {o p : Out} → o ≡ p → Like o p
like_eq h = record { leaves = ap (λ (x : Out). x.state) h; same_emitted = ap (λ (x : Out). x.emitted) h }

pub also_like : {o p : Out} (f g : State → Out) → Like o p → Like (f o.state) (g o.state) → Like (also o f) (also p g)
unfolding also
also_like {o} {p} f g h k =
    record {
      leaves = k.leaves ∙ ap (λ (s : State). (g s).state) h.leaves;
      same_emitted =
          ap (λ (x : List Row). x ++ (f o.state).emitted) h.same_emitted
          ∙ ap (λ (x : List Row). p.emitted ++ x) (k.same_emitted ∙ ap (λ (s : State). (g s).emitted) h.leaves);
    }

pub also_assoc : (o : Out) (f g : State → Out) → Like (also (also o f) g) (also o (λ s. also (f s) g))
unfolding also
also_assoc o f g = record { leaves = refl; same_emitted = append_assoc o.emitted (f o.state).emitted _ }

pub also-stays : (o : Out) → Like (also o stays) o
unfolding also
also-stays o = record { leaves = refl; same_emitted = append-nil o.emitted }

pub stays-also : (st : State) (f : State → Out) → Like (also (stays st) f) (f st)
unfolding also
stays-also st f = record { leaves = refl; same_emitted = refl }

pub through-one : {A : Type 0} (f : A → State → Out) (x : A) (st : State) → Like (through f (x ∷ []) st) (f x st)
unfolding through
through-one f x st = also-stays (f x st)

pub through_append : {A : Type 0} (f : A → State → Out) (l m : List A) (st : State) → Like (through f (l ++ m) st) (also (through f l st) (through f m))
unfolding through
through_append f [] m st = like_sym (stays-also st (through f m))
through_append f (x ∷ l) m st =
    like_trans (also_like (through f (l ++ m)) (λ s. also (through f l s) (through f m)) (like_refl (f x st)) (through_append f l m (f x st).state))
    (like_sym (also_assoc (f x st) (through f l) (through f m)))

-- ---- turns
-- of a step to goal some is done: what remains is next, and what an iteration needs of the state is held
pub record Going (potential : State → ℕ) (st : State) (goal : Out) (next : State → Out) (held : State → Type 0) (a b : Change) : Type 0 where
  pub sofar : Out
  pub step : EmitsWithin potential st sofar a b
  pub goes : Like (also sofar next) goal
  pub holding : held sofar.state

module _ (potential : State → ℕ) {st : State} {goal : Out} where
  pub going_start : {a : Change} (next : State → Out) (held : State → Type 0) → RoomFor potential st a → Like (next st) goal → held st
      → Going potential st goal next held a a
  going_start next held f h k =
      record {
        sofar = stays st;
        step = step-none potential f;
        goes = like_trans (stays-also st next) h;
        holding = k;
      }

  module _ {next : State → Out} {held : State → Type 0} {a b : Change} (g : Going potential st goal next held a b) where
    pub going-fits : RoomFor potential g.sofar.state b
    going-fits = rest-fits potential g.step

    pub going_ready : SomeRoom potential b
    going_ready = record { state = g.sofar.state; fits = going-fits }

    pub going-iteration : (turn next' : State → Out) (held' : State → Type 0) {c : Change}
        → ((m : State) → held m → RoomFor potential m b → EmitsWithin potential m (turn m) b c)
        → ((m : State) → held m → Represents b.state.words.now m → Like (next m) (also (turn m) next') × held' (turn m).state)
        → Going potential st goal next' held' a c
    going-iteration turn next' held' made on =
        let o = g.sofar in
        let m = o.state in
        let done = made m g.holding going-fits in
        let more = on m g.holding g.step.emits.holds in
        record {
          sofar = also o turn;
          step = step-also potential g.step turn done;
          goes =
              like_trans (also_assoc o turn next')
              (like_trans (like_sym (also_like next (λ t. also (turn t) next') (like_refl o) more.0)) g.goes);
          holding = unfold also in more.1;
        }

    pub going_end : ((m : State) → held m → Represents b.state.words.now m → Like (next m) (stays m)) → EmitsWithin potential st goal a b
    going_end none =
        let o = g.sofar in
        let whole = like_trans (like_sym (like_trans (also_like next stays (like_refl o) (none o.state g.holding g.step.emits.holds)) (also-stays o))) g.goes in
        step_same potential whole.leaves whole.same_emitted g.step
