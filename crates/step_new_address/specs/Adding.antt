-- Adding steps from whatever fit state the words hold.
-- Assumes nothing.
use Rattle.std.specs.Prelude.{◌≡◌, refl, true, List, [], ◌∷◌, Ok}
use Rattle.std.proofs.Common.{◌∙◌}
use Rattle.lists.specs.Lists.{Row}
use Rattle.layout.specs.Route.{table}
use Rattle.definition.specs.State.{State, Out, stays, also, through}
use Rattle.definition.specs.Words.{fit_state}
use Rattle.definition.specs.Reference.Insert as Insert
use Rattle.definition.specs.Reference.Insert.{create4, insert4, inserted, kernel_add4}
use Rattle.definition.specs.Reference.Addresses.{goes}
use Rattle.state.specs.Represents.{Represents}
use Rattle.step_events.specs.Comes.{Answer, Comes, comes-ok}
use Rattle.step_events.specs.declared.change.Change.{Change}

abbrev pub AddsFrom : (State → Out) → Change → Change → Answer → Type 0
AddsFrom f a b r = (st : State) → Represents a.state.words.now st → fit_state st ≡ true → Comes (goes (f st)) a b r

module _ (f : State → Out) {a b : Change} (t : AddsFrom f a b (Ok tt)) where
  -- a step that had room leaves words that hold a fit state
  pub adds-holds : (st : State) → Represents a.state.words.now st → fit_state st ≡ true → Represents b.state.words.now (f st).state
  adds-holds st h g = (comes-ok (t st h g)).1.holds

-- ---- steps that leave the addresses
pub record Leaves (f : State → Out) : Type 0 where
  pub same : (st : State) → (f st).state.addresses ≡ st.addresses

pub stays-leaves : Leaves stays
stays-leaves = record { same = λ st. refl }

pub also-leaves : (f g : State → Out) → Leaves f → Leaves g → Leaves (λ st. also (f st) g)
unfolding also
also-leaves f g h k = record { same = λ st. k.same (f st).state ∙ h.same st }

pub through-leaves : {A : Type 0} (f : A → State → Out) (l : List A) → ((x : A) → Leaves (f x)) → Leaves (through f l)
unfolding through
through-leaves f [] g = stays-leaves
through-leaves f (x ∷ l) g = also-leaves (f x) (through f l) (g x) (through-leaves f l g)

pub kernel_add4-leaves : (new : Row) → Leaves (kernel_add4 new)
unfolding kernel_add4 create4
kernel_add4-leaves new =
    record { same = λ st. go new (insert4 new 0xc00 st.routes) (create4 (table new) st) }
  where
    go : (new : Row) (i : Insert.Inserted) (made : State) → (inserted new i made).state.addresses ≡ made.addresses
    go new (Insert.placed rows emitted) made = refl
    go new Insert.nothing made = refl
    go new (Insert.unplaced n) made = refl
