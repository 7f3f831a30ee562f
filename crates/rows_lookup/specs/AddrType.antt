-- What an address is to a table, by the rows and whether the table is listed.
use Rattle.std.specs.Prelude.{ℕ, ◌≡◌, refl, Bool, true, cond, ◌&&◌, ◌||◌, List, eqb}
use Rattle.std.specs.Result.{result_unwrap_or}
use Rattle.std.proofs.Common.{subst}
use Rattle.std.proofs.Math.Option.{some}
use Rattle.lists.specs.Lists.{Row, all}
use Rattle.lists.specs.Bools.{and_iff}
use Rattle.kind.specs.declared.Kind.{Kind}
use Rattle.kind.specs.Kind.{code_of, kind_of, is_kind}
use Rattle.kind.specs.Laws.{code-again}
use Rattle.layout.specs.Route.{kind, fit_route}
use Rattle.definition.specs.State.{State}
use Rattle.definition.proofs.Preservation.Reading.{Passing, answer-passes}
use Rattle.definition.specs.Reference.Lookup.{Flow, answer, flow_to, type_set, kind_found, addr_type4, local4, listed, local_table, local_kind, broadcast_kind}

abbrev pub type_rows : Bool → (ℕ → Bool) → List Row → ℕ → ℕ
type_rows b set l ip = cond b (kind_found (answer set (flow_to ip) l)) broadcast_kind

abbrev pub local_rows : Bool → List Row → ℕ → Bool
local_rows b l ip = b && eqb (type_rows b (λ u. eqb u 255 || eqb u 254) l ip) local_kind

pub local-rows : (st : State) (ip : ℕ) → local4 st ip ≡ local_rows (listed local_table st) st.routes ip
unfolding local4 addr_type4 type_set
local-rows st ip = refl

-- a fit row's kind is one of the seven
fit-kind : (r : Row) → fit_route r ≡ true → is_kind (kind r) ≡ true
unfolding fit_route
fit-kind r h = (simp and_iff at h).0.0.0.0.0.0.0.1

-- so a row that answers has the code of the kind that is read of it
pub kind-answered : (set : ℕ → Bool) (f : Flow) (l : List Row) (r : Row) (d : Kind) → all fit_route l ≡ true → answer set f l ≡ some r → code_of (result_unwrap_or (kind_of (kind r)) d) ≡ kind r
kind-answered set f l r d h e = code-again (kind r) d (fit-kind r (subst (Passing fit_route) e (answer-passes fit_route set f l h)))
