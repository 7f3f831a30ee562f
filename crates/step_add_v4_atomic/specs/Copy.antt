-- A call that was tried on a copy, its words and event rows then copied back where it had room.
-- Assumes nothing.
use Rattle.std.specs.Prelude.{ℕ, ◌+◌, ◌*◌, ◌≤◌, ◌≡◌, refl, true, Ok, Err, List, length, take, drop}
use Rattle.std.proofs.Common.{arith, sym, ap, ◌∙◌, take_at}
use Rattle.std.specs.Fn.{Once, FnOnceTakesAtMut}
use denote.Ref.{MutBor}
use Rattle.lists.specs.Bools.{test-case, cond-true, cond-false}
use Rattle.lists.specs.Rows.{length-flat}
use Rattle.lists.specs.Lists.{put, flat}
use Rattle.definition.specs.State.{State, Out}
use Rattle.definition.specs.Step.{roomy}
use Rattle.definition.specs.Reference.Addresses.{Outcome, goes, refused, out_of}
use Rattle.definition.specs.Preservation.Refused.{Leaves}
use Rattle.refusal.specs.declared.Refusal.{Refusal}
use Rattle.refusal.specs.declared.Refusal.TheVariants.{Full}
use Rattle.state.specs.Represents.{Represents}
use Rattle.step_events.specs.Tells.{SamePlaces}
use Rattle.step_events.specs.Emits.{Emits, does-none}
use Rattle.step_events.specs.Comes.{Answer, Comes, ComesWhole, made, comes-ok, whole-made, whole-full}
use Rattle.step_events.specs.declared.change.Change.{Change}

-- b holds what t holds, and tells behind what a tells what t tells
pub record CopiedBack (t a b : Change) : Type 0 where
  pub state : b.state.words.now ≡ t.state.words.now
  pub told : b.told ≡ a.told + t.told
  pub words : b.events.now ≡ put (34 * a.told) (take (34 * t.told) t.events.now) a.events.now
  pub long : length b.events.now ≡ length a.events.now
  pub places : SamePlaces a b

-- the rows at the start of a buffer
front : (v z : List ℕ) (n : ℕ) → length v ≡ n → take n (put 0 v z) ≡ v
unfolding put
front v z n e = take_at v (drop (0 + length v) z) n e

-- ---- copied back
module _ {t₀ t a b : Change} (none : t₀.told ≡ 0) (k : CopiedBack t a b) where
  does-back : (o : Out) → Emits o t₀ t → Emits o a b
  does-back o d =
      let told : t.told ≡ length o.emitted = omega (arith, d.tells.told) in
      let wide : length (flat o.emitted) ≡ 34 * t.told = length-flat 34 o.emitted d.wide ∙ ap (λ (n : ℕ). 34 * n) (sym told) in
      let rows : t.events.now ≡ put 0 (flat o.emitted) t₀.events.now = rw none at d.tells.words in
      record {
        holds = rw k.state d.holds;
        wide = d.wide;
        tells = record {
          told = k.told ∙ ap (λ (n : ℕ). a.told + n) told;
          words = k.words
              ∙ ap (λ (y : List ℕ). put (34 * a.told) (take (34 * t.told) y) a.events.now) rows
              ∙ ap (λ (y : List ℕ). put (34 * a.told) y a.events.now) (front (flat o.emitted) t₀.events.now (34 * t.told) wide);
          long = k.long;
          places = k.places;
        };
      }

  pub whole_back : {r : Answer} → r ≡ Ok tt → (st : State) (u : Outcome) → Comes u t₀ t r → ComesWhole st u a b (Ok tt)
  whole_back e st u c =
      let d = comes-ok (rw e at c) in
      whole-made st d.0 (record { answer = sym e ∙ c.answer; does = λ _. does-back (out_of u) d.1 })

-- ---- left as they were
pub whole-left : {t₀ t a : Change} {r : Answer} {e : Refusal} → r ≡ Err e → (st : State) (u : Outcome) → Represents a.state.words.now st → Leaves st u → Comes u t₀ t r → ComesWhole st u a a r
whole-left {t₀} {t} {a} {r} f st u h l c =
    test-case (roomy u)
    (λ e. fits u l c e (c.answer ∙ cond-true (roomy u) (made u) (Err Full) e))
    (λ e. rw (c.answer ∙ cond-false (roomy u) (made u) (Err Full) e) (whole-full e h))
  where
    fits : (u : Outcome) → Leaves st u → Comes u t₀ t r → roomy u ≡ true → r ≡ made u → ComesWhole st u a a r
    fits (goes o) l c e m = let z = sym f ∙ m in cc
    fits (refused n later) l c e m = whole-made st e (record { answer = c.answer; does = λ _. does-none later a (rw l h) })

-- ---- a step that was tried
-- the predicates of a step
abbrev pub Step : Type 0 → Type 1
Step F = Once F (MutBor Change × Unit {0}) (Answer × (MutBor Change × Unit {0}))

-- a change of the state in w, with n words for events, of which nothing is told
pub record Begins (w : List ℕ) (n : ℕ) (a : Change) : Type 0 where
  pub words : a.state.words.now ≡ w
  pub room : length a.events.now ≡ n
  pub none : a.told ≡ 0

-- what a step that isn't refused leaves is taken over, and nothing else
abbrev pub Left : Answer → Change → Change → Change → Type 0
Left (Ok u) t a b = CopiedBack t a b
Left (Err e) t a b = b ≡ a

module _ {F : Type 0} (g : Step F) (f : F) where
  -- it may be tried
  abbrev pub Takes : List ℕ → ℕ → Type 0
  Takes w n = (a : Change) → Begins w n a → FnOnceTakesAtMut g f a

  -- and what it tells has room, unless it is refused
  abbrev pub Keeps : List ℕ → ℕ → Type 0
  Keeps w n = (a b : MutBor Change) → Begins w n a.now → g.post f (a, tt) (Ok tt, (b, tt)) → 34 * b.now.told ≤ n

  -- it was tried on a: b is what is left
  pub record Tried (n : ℕ) (a b : Change) (r : Answer) : Type 0 where
    pub from : MutBor Change
    pub to : MutBor Change
    pub begins : Begins a.state.words.now n from.now
    pub ran : g.post f (from, tt) (r, (to, tt))
    pub left : Left r to.now a b

module _ {F : Type 0} {g : Step F} {f : F} {n : ℕ} {a b : Change} where
  pub was_tried : (x y : MutBor Change) {d : Answer} (r : Answer) → g.post f (x, tt) (d, (y, tt)) → d ≡ r → Begins a.state.words.now n x.now → Left r y.now a b → Tried g f n a b r
  was_tried x y r m e h k = record { from = x; to = y; begins = h; ran = rw e at m; left = k }

  pub tried_whole : {r : Answer} → Tried g f n a b r → (st : State) (u : Outcome) → Represents a.state.words.now st → Leaves st u
      → ((x y : MutBor Change) (d : Answer) → Begins a.state.words.now n x.now → g.post f (x, tt) (d, (y, tt)) → Comes u x.now y.now d)
      → ComesWhole st u a b r
  tried_whole {r} t st u h l comes = go r (comes t.from t.to r t.begins t.ran) t.left
    where
      go : (r : Answer) → Comes u t.from.now t.to.now r → Left r t.to.now a b → ComesWhole st u a b r
      go (Ok q) c k = whole_back t.begins.none k refl st u c
      go (Err e) c k = rw k (whole-left refl st u h l c)
