-- A run on words is a run on states, so what is computed on states holds of the words.
use Rattle.std.specs.Prelude.{ℕ, ◌≡◌, refl, Bool, true, cond, ◌&&◌, List, [], ◌∷◌}
use Rattle.std.proofs.Common.{◌∙◌, ap, ap₂}
use Rattle.definition.specs.State.{State, empty}
use Rattle.definition.specs.Words.{state_of}
use Rattle.definition.specs.Call.{Call, Reply}
use Rattle.definition.specs.Step.{semantics, step}
use Rattle.definition.proofs.Preservation.Step.{Held, held-empty, decode-empty}
use Rattle.definition.specs.Noninterference.Statement.{struck, empty_words, after, spacious, compared, observed}
use Rattle.definition.proofs.Noninterference.Calls.{bounded, spaced, step_follows}

unfoldable pub ending : List Call → State → State
ending [] st = st
ending (c ∷ cs) st = ending cs (bounded (semantics c) st).state

unfoldable pub ample : List Call → State → Bool
ample [] st = true
ample (c ∷ cs) st = spaced (bounded (semantics c) st).reply && ample cs (bounded (semantics c) st).state

unfoldable pub answers : (ℕ → Bool) → List Call → State → List Reply
answers chosen [] st = []
answers chosen (c ∷ cs) st =
    let rest = answers chosen cs (bounded (semantics c) st).state in
    cond (struck chosen c) rest (compared chosen c (bounded (semantics c) st).reply ∷ rest)

after-ending : (cs : List Call) (w : List ℕ) → Held w → state_of (after cs w) ≡ ending cs (state_of w)
unfolding after ending
after-ending [] w h = refl
after-ending (c ∷ cs) w h =
    let f = step_follows c w h in
    after-ending cs (step c w).words f.held ∙ ap (ending cs) f.state

spacious-ample : (cs : List Call) (w : List ℕ) → Held w → spacious cs w ≡ ample cs (state_of w)
unfolding spacious ample
spacious-ample [] w h = refl
spacious-ample (c ∷ cs) w h =
    let f = step_follows c w h in
    ap₂ ◌&&◌ (ap spaced f.reply) (spacious-ample cs (step c w).words f.held ∙ ap (ample cs) f.state)

observed-answers : (chosen : ℕ → Bool) (cs : List Call) (w : List ℕ) → Held w → observed chosen cs w ≡ answers chosen cs (state_of w)
unfolding observed answers
observed-answers chosen [] w h = refl
observed-answers chosen (c ∷ cs) w h =
    let f = step_follows c w h in
    rw (f.reply, observed-answers chosen cs (step c w).words f.held, f.state)

-- ---- from the empty words
module _ (cs : List Call) where
  pub run-ending : state_of (after cs empty_words) ≡ ending cs empty
  run-ending = after-ending cs empty_words held-empty ∙ ap (ending cs) decode-empty

  pub run-ample : spacious cs empty_words ≡ ample cs empty
  run-ample = spacious-ample cs empty_words held-empty ∙ ap (ample cs) decode-empty

  pub run-answers : (chosen : ℕ → Bool) → observed chosen cs empty_words ≡ answers chosen cs empty
  run-answers chosen = observed-answers chosen cs empty_words held-empty ∙ ap (answers chosen cs) decode-empty
