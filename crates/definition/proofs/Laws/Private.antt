-- Of the tables other than 0, 253, 254 and 255 a request reads and writes only the one that it names. This is of the reference,
-- whose lists have no limits: whether a request is refused with 203 depends on the rows and the tables of all.
-- Assumes nothing.
use Rattle.std.specs.Prelude.{ℕ, ◌≡◌, refl, Bool, true, false, not, ◌||◌, List, [], eqb}
use Rattle.std.proofs.Common.{sym, ap, ◌∙◌, eq-eqb}
use Rattle.std.proofs.Math.Bool.{or-true}
use Rattle.lists.specs.Lists.{Row}
use Rattle.lists.specs.Bools.{test-case}
use Rattle.layout.specs.Route.{table}
use Rattle.definition.specs.State.{State}
use Rattle.definition.specs.Words.{ordered}
use Rattle.definition.specs.Reference.Addresses.{Outcome, goes, refused}
use Rattle.definition.specs.Reference.Routes.{table_named, add_route4, del_route4_request}
use Rattle.definition.specs.Noninterference.Statement.{Choice}
use Rattle.definition.specs.Noninterference.Projection.{without, result, Tandem, both_go, both-refuse}
use Rattle.definition.proofs.Noninterference.Tables.{insert4-consistent}
use Rattle.definition.specs.Reference.Insert.{insert4}
use Rattle.definition.proofs.Noninterference.Routes.{del_route4_request-consistent, added-consistent}
use Rattle.definition.proofs.Noninterference.Struck.{del_route4_request-respects, insert4-unseen, added-respects}

-- the tables that a request may use: the reference's own, and the one that it names
abbrev pub used : Row → ℕ → Bool
used q t = eqb t (table q) || (eqb t 0 || (eqb t 253 || (eqb t 254 || eqb t 255)))

-- every other one
abbrev pub others : Row → ℕ → Bool
others q t = not (used q t)

others-choice : (q : Row) → Choice (others q)
others-choice q =
    record {
      not_0 = ap not (or-true (eqb 0 (table q)));
      not_253 = ap not (or-true (eqb 253 (table q)));
      not_254 = ap not (or-true (eqb 254 (table q)));
      not_255 = ap not (or-true (eqb 255 (table q)));
    }

named-used : (q : Row) → others q (table q) ≡ false
named-used q = rw (eq-eqb (table q) (table q) refl)

-- ---- what a request says: its number, 0 if it isn't refused, and the rows emitted
abbrev pub number : Outcome → ℕ
number (goes o) = 0
number (refused n st) = n

abbrev pub rows_emitted : Outcome → List Row
rows_emitted (goes o) = o.emitted
rows_emitted (refused n st) = []

-- two outcomes say the same and leave the same in the tables that q may use
pub record SameFor (q : Row) (o p : Outcome) : Type 0 where
  pub numbers : number o ≡ number p
  pub emitted : rows_emitted o ≡ rows_emitted p
  pub states : without (others q) (result o) ≡ without (others q) (result p)

-- what a tandem shows of its second outcome, and so of two that share it
pub record Said (q : Row) (o p : Outcome) : Type 0 where
  pub numbers : number p ≡ number o
  pub emitted : rows_emitted p ≡ rows_emitted o
  pub states : result p ≡ without (others q) (result o)

tandem_said : (q : Row) {o p : Outcome} → Tandem (others q) o p → Said q o p
tandem_said q (both_go m) = record { numbers = refl; emitted = m.emitted; states = m.state }
tandem_said q (both-refuse n st) = record { numbers = refl; emitted = refl; states = refl }

same_across : (q : Row) {o o' p : Outcome} → Said q o p → Said q o' p → SameFor q o o'
same_across q a b =
    record { numbers = sym a.numbers ∙ b.numbers; emitted = sym a.emitted ∙ b.emitted; states = sym a.states ∙ b.states }

module _ (q : Row) (st later : State) (agree : without (others q) st ≡ without (others q) later) where
  -- states that agree but for other tables, and their rows, get the same answer
  pub add_route4-reads : SameFor q (add_route4 q st) (add_route4 q later)
  add_route4-reads =
      same_across q (tandem_said q (added-consistent (others q) (others-choice q) q (named-used q) insert4 (insert4-consistent (others q) (others-choice q)) st))
      (rw agree (tandem_said q (added-consistent (others q) (others-choice q) q (named-used q) insert4 (insert4-consistent (others q) (others-choice q)) later)))

  pub del_route4_request-reads : SameFor q (del_route4_request q st) (del_route4_request q later)
  del_route4_request-reads =
      same_across q (tandem_said q (del_route4_request-consistent (others q) (others-choice q) q (named-used q) st))
      (rw agree (tandem_said q (del_route4_request-consistent (others q) (others-choice q) q (named-used q) later)))

-- ---- the other tables, and their rows, stay as they were
module _ (q : Row) where
  named_of : not (used q (table_named q)) ≡ false
  named_of =
      test-case (eqb (table q) 0)
      (λ e. rw e (ap not (or-true (eqb 254 (table q)))))
      (λ e. rw (e, eq-eqb (table q) (table q) refl))

  main_of : not (used q 254) ≡ false
  main_of = ap not (or-true (eqb 254 (table q)))

  -- `without (used q)` leaves the addresses, the other tables and their rows
  pub add_route4_writes : (st : State) → ordered st.routes ≡ true → without (used q) (result (add_route4 q st)) ≡ without (used q) st
  add_route4_writes st o = (added-respects (used q) q named_of (λ e. main_of) insert4 (insert4-unseen (used q)) st o).unchanged

  pub del_route4_request_writes : (st : State) → without (used q) (result (del_route4_request q st)) ≡ without (used q) st
  del_route4_request_writes st = (del_route4_request-respects (used q) q named_of (λ e. main_of) st).unchanged
