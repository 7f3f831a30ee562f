-- What a step leaves of a change to a state, and how one step after another is one.
-- Assumes nothing.
use Rattle.std.specs.Prelude.{ℕ, ◌+◌, ◌*◌, ◌≤◌, ◌≡◌, refl, true, List, [], ◌∷◌, ◌++◌, eqb, length}
use Rattle.std.proofs.Common.{sym, ap, ◌∙◌, arith, length-append, eq-eqb}
use Rattle.lists.specs.Lists.{Row, flat, put}
use Rattle.lists.specs.Bools.{and_both}
use Rattle.lists.specs.All.{all_append}
use Rattle.lists.specs.Rows.{sized, length-flat}
use Rattle.lists.specs.Put.{put-none, put-behind}
use Rattle.lists.specs.At.{flat_append}
use Rattle.definition.specs.State.{State, Out, becomes, stays, also}
use Rattle.state.specs.Represents.{Represents}
use Rattle.step_events.specs.Tells.{Tells}
use Rattle.step_events.specs.declared.change.Change.{Change}

-- b holds o's state, and tells the rows that o emits more than a
pub record Emits (o : Out) (a b : Change) : Type 0 where
  pub holds : Represents b.state.words.now o.state
  pub wide : sized 34 o.emitted ≡ true
  pub tells : Tells o.emitted a b

-- it shows in the state and the rows alone
pub does-same : {o p : Out} {a b : Change} → o.state ≡ p.state → o.emitted ≡ p.emitted → Emits o a b → Emits p a b
does-same {a = a} {b = b} e f t =
    record {
      holds = rw e at t.holds;
      wide = rw f at t.wide;
      tells = rw f at t.tells;
    }

pub tells-none : (a : Change) → Tells [] a a
tells-none a =
    record {
      told = omega arith;
      words = unfold flat in put-none (34 * a.told) a.events.now;
      long = refl;
      places = record { state = refl; events = refl };
    }

-- one after the other
pub tells-also : {l m : List Row} {a b c : Change} → sized 34 l ≡ true → sized 34 m ≡ true → Tells l a b → Tells m b c → Tells (l ++ m) a c
tells-also {l} {m} {a} {b} {c} w x t u =
    let long : length (flat l) ≡ 34 * length l = length-flat 34 l w in
    let at : 34 * b.told ≡ 34 * a.told + length (flat l) = omega (arith, t.told) in
    let room : 34 * a.told + length (flat l) ≤ length a.events.now = omega (arith, t.told, t.long, b.within) in
    let behind : 34 * a.told + length (flat l) + length (flat m) ≤ length a.events.now =
    omega (arith, u.told, u.long, t.told, t.long, c.within, length-flat 34 m x)
    in
    record {
      told = u.told ∙ ap (λ (n : ℕ). n + length m) t.told ∙ omega (arith, length-append l m);
      words =
          u.words
          ∙ ap (λ (n : ℕ). put n (flat m) b.events.now) at
          ∙ ap (put (34 * a.told + length (flat l)) (flat m)) t.words
          ∙ put-behind (34 * a.told) (flat l) a.events.now room (flat m) behind
          ∙ ap (λ (y : List ℕ). put (34 * a.told) y a.events.now) (sym (flat_append l m));
      long = u.long ∙ t.long;
      places = record { state = u.places.state ∙ t.places.state; events = u.places.events ∙ t.places.events };
    }

pub does-none : (st : State) (a : Change) → Represents a.state.words.now st → Emits (stays st) a a
does-none st a h = record { holds = h; wide = refl; tells = tells-none a }

-- another state, of which nothing is told
pub does-quiet : (st : State) {a b : Change} → Represents b.state.words.now st → Tells [] a b → Emits (stays st) a b
does-quiet st h t = record { holds = h; wide = refl; tells = t }

-- one row
pub does-one : (st : State) (row : Row) {a b : Change} → Represents b.state.words.now st → length row ≡ 34 → Tells (row ∷ []) a b → Emits (becomes st (row ∷ [])) a b
does-one st row h e t =
    record { holds = h; wide = and_both (eqb (length row) 34) true (eq-eqb (length row) 34 e) refl; tells = t }

-- a step on what another left is, with what came before, one step
pub does-also : {o : Out} {a b c : Change} → Emits o a b → (f : State → Out) → Emits (f o.state) b c → Emits (also o f) a c
unfolding also
does-also {o} t f u =
    record {
      holds = u.holds;
      wide = all_append (λ r. eqb (length r) 34) o.emitted (f o.state).emitted t.wide u.wide;
      tells = tells-also t.wide u.wide t.tells u.tells;
    }

-- what is told, whatever became of the state behind it
pub tells-behind : {rows : List Row} {a m b : Change} → Tells rows a m → b.told ≡ m.told → b.events.now ≡ m.events.now → b.state.words.ghost_name ≡ m.state.words.ghost_name → b.events.ghost_name ≡ m.events.ghost_name → Tells rows a b
tells-behind t e f g h =
    record {
      told = e ∙ t.told;
      words = f ∙ t.words;
      long = ap length f ∙ t.long;
      places = record { state = g ∙ t.places.state; events = h ∙ t.places.events };
    }

-- or before
pub tells-ahead : {rows : List Row} {a m b : Change} → Tells rows m b → m.told ≡ a.told → m.events.now ≡ a.events.now → m.state.words.ghost_name ≡ a.state.words.ghost_name → m.events.ghost_name ≡ a.events.ghost_name → Tells rows a b
tells-ahead {rows} {a} {m} {b} t e f g h =
    record {
      told = rw e at t.told;
      words = rw (e, f) at t.words;
      long = rw f at t.long;
      places = record { state = t.places.state ∙ g; events = t.places.events ∙ h };
    }
