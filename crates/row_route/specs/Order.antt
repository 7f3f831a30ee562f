-- The order of routes, the destinations asked first.
-- Assumes nothing.
use Rattle.std.specs.Prelude.{◌≡◌, ◌&&◌, ◌||◌, eqb, ltb}
use Rattle.std.proofs.Math.Path.{sym}
use Rattle.std.proofs.Math.Bool.{or-false}
use Rattle.std.proofs.Common.{arith}
use borrow.Author.Tests.{eq-eqb, ne_eqb, le-ltb}
use Rattle.lists.specs.Lists.{Row}
use Rattle.layout.specs.Route.{before, dst, len, table, tos, priority}

module _ (a b : Row) where
  pub before-other : (dst a ≡ dst b → ⊥) → ltb (dst a) (dst b) ≡ before a b
  unfolding before
  before-other h = rw (ne_eqb (dst a) (dst b) h) (sym (or-false (ltb (dst a) (dst b))))

  pub before_same : dst a ≡ dst b
      → (ltb (len b) (len a)
      || (eqb (len a) (len b)
      && (ltb (table b) (table a)
      || (eqb (table a) (table b)
      && (ltb (tos b) (tos a) || (eqb (tos a) (tos b) && ltb (priority a) (priority b)))))))
      ≡ before a b
  unfolding before
  before_same e = sym (rw (le-ltb (dst a) (dst b) (omega arith), eq-eqb (dst a) (dst b) e))
