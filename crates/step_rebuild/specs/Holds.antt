-- Words that hold the rows rebuilt so far: those of a state that has these routes alone.
-- Assumes nothing.
use Rattle.std.specs.Prelude.{ℕ, ◌≡◌, ◌≢◌, refl, true, List, [], Result, MatchResult}
use Rattle.std.proofs.Common.{sym, ◌∙◌, arith}
use Rattle.lists.specs.Lists.{Row, zeros}
use Rattle.refusal.specs.declared.Refusal.{Refusal}
use Rattle.refusal.specs.Refusal.{number_of}
use Rattle.definition.specs.State.{State, empty, with_routes}
use Rattle.definition.specs.Words.{base_size, fit_state, ordered, distinct, none_twice}
use Rattle.definition.specs.Preservation.Fit.{FitRoutes, state-fit}
use Rattle.definition.specs.Preservation.Encode.{encode-empty}
use Rattle.state.specs.Represents.{Represents}
use Rattle.definition_recording.specs.Recording.{Rebuilt, rows, refused}

abbrev pub table_of : List Row → State
table_of l = with_routes l empty

pub record HoldsRows (w : List ℕ) (l : List Row) : Type 0 where
  pub represents : Represents w (table_of l)
  pub fit : FitRoutes l

pub holds-fit : (l : List Row) → FitRoutes l → fit_state (table_of l) ≡ true
unfolding none_twice
holds-fit l f = state-fit (table_of l) (record { of_addresses = refl; of_routes = f; of_tables = refl })

-- words that are all zero hold no row
pub holds-none : (w : List ℕ) → w ≡ zeros base_size → HoldsRows w []
unfolding ordered distinct
holds-none w e =
    record {
      represents =
          record {
            words = e ∙ sym encode-empty;
            addresses_within = omega arith;
            routes_within = omega arith;
            tables_within = omega arith;
            addresses_fit = refl;
            routes_fit = refl;
          };
      fit = record { each = refl; in_order = refl; apart = refl };
    }

-- ---- what an answer says of what a rebuilding comes to: where it is none but that it is done, the words hold the rows, and else it
-- is the refusal
pub record Accepted (x : Rebuilt) (w : List ℕ) : Type 0 where
  pub list : List Row
  pub is : x ≡ rows list
  pub holds : HoldsRows w list

abbrev pub Denies : Rebuilt → Refusal → Type 0
Denies x e = (x ≡ refused (number_of e)) × (number_of e ≢ 0)

abbrev pub Came : Rebuilt → List ℕ → Result (Unit {0}) Refusal → Type 0
Came x w r = MatchResult r (λ u. Accepted x w) (Denies x)
