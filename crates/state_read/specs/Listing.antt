-- The listing of words that hold a state, as the function over rows has it.
-- Assumes nothing.
use Rattle.std.specs.Prelude.{ℕ, ◌≤◌, ◌≡◌, true, List, length}
use Rattle.std.proofs.Common.{sym, ap, ap₂, ◌∙◌}
use Rattle.lists.specs.Lists.{Row}
use Rattle.definition.specs.State.{State}
use Rattle.definition.specs.Words.{none_twice}
use Rattle.definition.specs.Reference.Source.{dump4}
use Rattle.state.specs.Represents.{Represents}
use Rattle.state.specs.Change.{tables-at}
use Rattle.state_tables.specs.Listed.{tables_of}
use Rattle.rows_dump.specs.Pass.{dump_rows, dump-rows}

module _ {w : List ℕ} {st : State} (h : Represents w st) where
  pub tables-few : (ts : List ℕ) → ts ≡ tables_of w → length ts ≤ 32
  tables-few ts e = rw (e, tables-at h) h.tables_within

  pub tables-once : (ts : List ℕ) → none_twice st.tables ≡ true → ts ≡ tables_of w → none_twice ts ≡ true
  tables-once ts k e = ap none_twice (e ∙ tables-at h) ∙ k

  pub dumped : {ts : List ℕ} {rows : List Row} → ts ≡ tables_of w → rows ≡ st.routes → dump_rows ts rows ≡ dump4 st
  dumped e f = ap₂ dump_rows (e ∙ tables-at h) f ∙ sym (dump-rows st)
