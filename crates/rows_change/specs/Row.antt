-- Whether a request makes another row, by the place of the address that it asks for.
-- Assumes nothing.
use Rattle.std.specs.Prelude.{ℕ, ◌≡◌, Bool, true, not, List, [], Some, None, get_or, position}
use Rattle.std.proofs.Common.{sym, ap, ◌∙◌}
use Rattle.lists.specs.Lists.{Row, eq_row, first}
use Rattle.lists.specs.Library.{found-first, missing-first}
use Rattle.definition.specs.Reference.Addresses.{same_address, changed_to}
use Rattle.definition_parts.specs.Rule.{row_changes}

module _ (q : Row) (clock : ℕ) (l : List Row) where
  pub row-new : position (same_address q) l ≡ None → true ≡ row_changes q clock (first (same_address q) l)
  row-new missing =
      ap (row_changes q clock)
      (sym (missing-first (same_address q) l missing))

  pub row-there : (i : ℕ) → position (same_address q) l ≡ Some i → {r : Bool} → r ≡ not (eq_row (changed_to q (get_or l i []) clock) (get_or l i []))
      → r ≡ row_changes q clock (first (same_address q) l)
  row-there i found e =
      e ∙ ap (row_changes q clock) (sym (found-first (same_address q) l i [] found))
