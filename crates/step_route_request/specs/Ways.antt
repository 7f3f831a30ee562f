-- The ways out of a request: a refusal, a row, nothing.
-- Assumes nothing.
use Rattle.std.specs.Prelude.{ℕ, ◌≡◌, refl, false, [], ◌∷◌, Ok, Err, length}
use Rattle.lists.specs.Lists.{Row}
use Rattle.refusal.specs.declared.Refusal.TheVariants.{Errno, Full}
use Rattle.definition.specs.State.{State, becomes, stays}
use Rattle.definition.specs.Step.{roomy}
use Rattle.definition.specs.Reference.Addresses.{Outcome, goes, refused}
use Rattle.state.specs.Represents.{Represents, holds-within}
use Rattle.step_events.specs.Tells.{Tells}
use Rattle.step_events.specs.Emits.{does-quiet, does-one}
use Rattle.step_events.specs.Comes.{ComesWhole, goes-made, comes-made, comes-full, adds-quiet, whole-made}
use Rattle.step_events.specs.declared.change.Change.{Change}

module _ (st : State) {a b : Change} (later : State) (h : Represents b.state.words.now later) where
  pub request-refused : Tells [] a b → (n : ℕ) → ComesWhole st (refused n later) a b (Err (Errno n))
  request-refused t n = whole-made st (holds-within h) (comes-made (holds-within h) refl (does-quiet later h t))

  pub request-none : Tells [] a b → ComesWhole st (goes (stays later)) a b (Ok tt)
  request-none t = whole-made st (holds-within h) (adds-quiet later h t)

  pub request-emitted : (row : Row) → length row ≡ 34 → Tells (row ∷ []) a b → ComesWhole st (goes (becomes later (row ∷ []))) a b (Ok tt)
  request-emitted row e t = whole-made st (holds-within h) (goes-made (holds-within h) (does-one later row h e t))

-- a list without room: all is as it was
pub request-full : (u : Outcome) {st : State} {a b : Change} → roomy u ≡ false → Represents b.state.words.now st → Tells [] a b → ComesWhole st u a b (Err Full)
request-full u {st} e h t = record { comes = comes-full e; kept = λ _. does-quiet st h t }
