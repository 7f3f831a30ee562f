-- The source for a destination, by the rows and whether 253 is listed.
use Rattle.std.specs.Prelude.{ℕ, ◌≡◌, Bool, List, Option, Some, None, Result, Ok, Err}
use Rattle.std.proofs.Common.{ap, ◌∙◌, refl}
use Rattle.std.proofs.Math.Option as Own
use Rattle.std.specs.Option.{unwrap_or}
use denote.Ref.{Bor}
use Rattle.lists.specs.Lists.{Row}
use Rattle.lists.specs.Library.{own, lent_ok}
use Rattle.refusal.specs.declared.Refusal.{Refusal}
use Rattle.definition.specs.State.{State}
use Rattle.definition.specs.Reference.Lookup.{Found, route, no_route, flow_to, listed, default_table, lookup4}
use Rattle.definition.specs.Reference.Source.{or_value, source_for, source4, source}
use Rattle.rows_lookup.specs.Answer.{answered, lookup_rows, lookup-rows}

abbrev pub source_rows : Bool → List Row → List Row → ℕ → ℕ
source_rows b addresses routes ip = or_value (source_for addresses ip (lookup_rows b routes (flow_to ip))) 0x7f000001

pub source-rows : (st : State) (ip : ℕ) → source st ip ≡ source_rows (listed default_table st) st.addresses st.routes ip
unfolding source lookup4
source-rows st ip = rw (lookup-rows st (flow_to ip))

-- a value or another, as the library has it
pub value-or : (o : Option ℕ) (d : ℕ) → unwrap_or o d ≡ or_value (own o) d
value-or None d = refl
value-or (Some v) d = refl

-- by what a lookup found: a row, or none
module _ (l : List Row) (ip d : ℕ) (x : Found) {r : Result (Bor Row) Refusal} (e : lent_ok r ≡ answered x) where
  pub found_source : {row : Bor Row} → r ≡ Ok row → (s : Option ℕ) → own s ≡ source4 l row.now ip → unwrap_or s d ≡ or_value (source_for l ip x) d
  found_source {row} f s h = value-or s d ∙ ap (λ (o : Own.Option ℕ). or_value o d) (h ∙ is x (rw f at e))
    where
      is : (y : Found) → ◌≡◌ {A = Result Row Refusal} (Ok row.now) (answered y) → source4 l row.now ip ≡ source_for l ip y
      is (route a) g = let same : row.now ≡ a = cc in ap (λ (b : Row). source4 l b ip) same
      is (no_route n) g = cc

  pub no_source : {m : Refusal} → r ≡ Err m → d ≡ or_value (source_for l ip x) d
  no_source {m} f = is x (rw f at e)
    where
      is : (y : Found) → ◌≡◌ {A = Result Row Refusal} (Err m) (answered y) → d ≡ or_value (source_for l ip y) d
      is (route a) g = cc
      is (no_route n) g = refl
