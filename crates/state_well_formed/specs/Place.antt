-- Each row in its place: in order with the next one, and none of those behind it, as a row before the next one is.
-- Assumes nothing.
use Rattle.std.specs.Prelude.{ℕ, ◌+◌, ◌≤◌, ◌<◌, ◌≡◌, refl, Bool, true, false, not, ◌&&◌, List, [], length, get_or, drop}
use Rattle.std.proofs.Common.{sym, ◌∙◌, arith}
use Rattle.std.proofs.Math.Bool.{and_assoc, and-false}
use Rattle.lists.specs.Lists.{Row, all, eq_row}
use Rattle.lists.specs.Bools.{fails, test-case}
use Rattle.layout.specs.Route.{fit_route, before}
use Rattle.definition.specs.Words.{ordered, distinct}
use Rattle.definition.specs.Preservation.Order.{before-never}
use Rattle.state_well_formed.specs.Order.{order-next, order-broken, order-end, past-run, ordered-later, distinct-iteration, distinct-end}

-- the rows are in order, and no two are the same
unfoldable pub in_place : List Row → Bool
in_place l = ordered l && distinct l

module _ (rows : List Row) (i : ℕ) (h : i + 1 < length rows) where
  pub place-broken : before (get_or rows (i + 1) []) (get_or rows i []) ≡ true → in_place (drop i rows) ≡ false
  unfolding in_place
  place-broken e = rw (order-broken rows i h e)

  pub place-iteration : {b : Bool} → before (get_or rows (i + 1) []) (get_or rows i []) ≡ false
      → (ordered (drop i rows) ≡ true → b ≡ all (λ (x : Row). not (eq_row (get_or rows i []) x)) (drop (i + 1) rows))
      → in_place (drop i rows) ≡ b && in_place (drop (i + 1) rows)
  unfolding in_place
  place-iteration {b} e f =
      let on : ordered (drop i rows) ≡ ordered (drop (i + 1) rows) = order-next rows i h e in
      test-case (ordered (drop (i + 1) rows))
      (λ o. rw (on, o) (distinct-iteration rows i b (omega arith) (f (on ∙ o)) refl))
      (λ o. rw (on, o) (sym (and-false b)))

  pub place_rise : before (get_or rows i []) (get_or rows (i + 1) []) ≡ true → in_place (drop i rows) ≡ in_place (drop (i + 1) rows)
  place_rise first =
      place-iteration (fails (before (get_or rows (i + 1) []) (get_or rows i [])) (λ g. before-never (get_or rows i []) (get_or rows (i + 1) []) first g))
      (λ o. sym (past-run rows (get_or rows i []) (i + 1) (ordered-later rows i (i + 1) (omega arith) o) h first))

-- at most one row is left
pub place_end : (rows : List Row) (i : ℕ) → length rows ≤ i + 1 → in_place (drop i rows) ≡ true
unfolding in_place
place_end rows i h = rw (order-end rows i h) (distinct-end rows i h)

-- the routes' three tests
pub routes-tests : {f o : Bool} (rows : List Row) → f ≡ all fit_route rows → o ≡ in_place rows → (f && o) ≡ all fit_route rows && ordered rows && distinct rows
unfolding in_place
routes-tests rows ef eo = rw (ef, eo) (sym (and_assoc (all fit_route rows) (ordered rows) (distinct rows)))
