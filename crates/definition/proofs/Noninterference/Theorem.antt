-- Two runs side by side: the proof. Both runs answer as the calls that aren't struck do without limits on the empty state.
use Rattle.std.specs.Prelude.{ℕ, ◌≡◌, Bool, true}
use Rattle.std.proofs.Math.Path.{refl, sym, ap}
use Rattle.std.proofs.Common.{◌∙◌, ap₂}
use mathlib.Core.List.{List, [], ◌∷◌}
use Rattle.lists.specs.Bools.{and_left, and_right, test-case}
use Rattle.definition.specs.State.{State}
use Rattle.definition.specs.Words.{state_of}
use Rattle.definition.specs.Call.{Call, Reply}
use Rattle.definition.specs.Step.{semantics, step}
use Rattle.definition.specs.Preservation.Fit.{fit-state}
use Rattle.definition.proofs.Preservation.Step.{Held, held-empty, good-held}
use Rattle.definition.specs.Noninterference.Statement.{Choice, struck, unstruck, empty_words, after, spacious, compared, observed, View, TwoRuns}
use Rattle.definition.specs.Noninterference.Projection.{without}
use Rattle.definition.proofs.Noninterference.Calls.{freely, spaced, step_follows, bounded-freely}
use Rattle.definition.proofs.Noninterference.Unwinding.{step-consistent, locally_respects}

-- ---- a run without limits, on states
ideal : (ℕ → Bool) → List Call → State → List Reply
ideal chosen [] st = []
ideal chosen (c ∷ cs) st =
    compared chosen c (freely (semantics c) st).reply ∷ ideal chosen cs (freely (semantics c) st).state

last : List Call → State → State
last [] st = st
last (c ∷ cs) st = last cs (freely (semantics c) st).state

-- what is compared afterwards of the state without the chosen tables
seen : State → View
seen st = record { addresses = st.addresses; routes = st.routes }

module _ (chosen : ℕ → Bool) (choice : Choice chosen) where
  -- the run on words answers, and ends, as what isn't struck does without the chosen tables
  record Projects (cs : List Call) (w : List ℕ) : Type 0 where
    answers : observed chosen cs w ≡ ideal chosen (unstruck chosen cs) (without chosen (state_of w))
    ends : without chosen (state_of (after cs w)) ≡ last (unstruck chosen cs) (without chosen (state_of w))

  projects : (cs : List Call) (w : List ℕ) → Held w → spacious cs w ≡ true → Projects cs w
  unfolding observed after spacious ideal last
  projects [] w s h = record { answers = refl; ends = refl }
  projects (c ∷ cs) w s h =
      let w' = (step c w).words in
      let spare = and_left (spaced (step c w).reply) (spacious cs w') h in
      let f = step_follows c w s in
      let free = bounded-freely (semantics c) (state_of w) (rw f.reply at spare) in
      let reply : (step c w).reply ≡ (freely (semantics c) (state_of w)).reply = f.reply ∙ ap (λ d. d.reply) free in
      let state : state_of w' ≡ (freely (semantics c) (state_of w)).state = f.state ∙ ap (λ d. d.state) free in
      let later = projects cs w' f.held (and_right (spaced (step c w).reply) (spacious cs w') h) in
      let in_order = (fit-state (state_of w) (good-held w s).fits).of_routes.in_order in
      test-case (struck chosen c)
      (λ e.
      let unseen : without chosen (state_of w') ≡ without chosen (state_of w) =
      ap (without chosen) state ∙ locally_respects chosen choice c e (state_of w) in_order
      in
      record { answers = rw e (later.answers ∙ ap (ideal chosen (unstruck chosen cs)) unseen); ends = rw e (later.ends ∙ ap (last (unstruck chosen cs)) unseen) })
      (λ e.
      let m = step-consistent chosen choice c e (state_of w) in
      let moved : without chosen (state_of w') ≡ (freely (semantics c) (without chosen (state_of w))).state =
      ap (without chosen) state ∙ sym m.state
      in
      record {
        answers = rw e (ap₂ ◌∷◌ (ap (compared chosen c) reply ∙ sym m.reply) (later.answers ∙ ap (ideal chosen (unstruck chosen cs)) moved));
        ends = rw e (later.ends ∙ ap (last (unstruck chosen cs)) moved);
      })

-- ---- the claim
pub two_runs : TwoRuns
unfolding seen
two_runs chosen choice cs ds agree h k =
    let p = projects chosen choice cs empty_words held-empty h in
    let q = projects chosen choice ds empty_words held-empty k in
    record {
      answers = p.answers ∙ ap (λ l. ideal chosen l (without chosen (state_of empty_words))) agree ∙ sym q.answers;
      afterwards = ap seen (p.ends ∙ ap (λ l. last l (without chosen (state_of empty_words))) agree ∙ sym q.ends);
    }
