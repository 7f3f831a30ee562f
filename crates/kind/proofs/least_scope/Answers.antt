-- `kind::least_scope` meets its contract: one test computes that each entry is the definition's, and no code above has one.
-- Assumes nothing.
use mathlib.Core.List.{List, [], ◌∷◌}
use Prim.Native.Nat.{ℕ}
use borrow.Author.Rules.{rules}
use borrow.Author.Tests.{ne_eqb}
use native.Mathlib.Omega.{arith}
use Rattle.kind.specs.Kind.{least_scope}
use Rattle.kind.proofs.Table.{at}
use Rattle.kind.proofs.least_scope.Goals as goal

entries : List ℕ
entries = 255 ∷ 0 ∷ 254 ∷ 253 ∷ 253 ∷ 0 ∷ 0 ∷ 0 ∷ 0 ∷ 0 ∷ 255 ∷ 255 ∷ []

pub returns-then-code-ge12 : goal.returns-then-code-ge12
unfolding least_scope
returns-then-code-ge12 c =
    simp (ne_eqb c.args.code 0 (λ q. omega arith), ne_eqb c.args.code 10 (λ q. omega arith), ne_eqb c.args.code 11 (λ q. omega arith), ne_eqb c.args.code 2 (λ q. omega arith), ne_eqb c.args.code 3 (λ q. omega arith), ne_eqb c.args.code 4 (λ q. omega arith))

pub returns : goal.returns
unfolding entries least_scope
returns c = at least_scope entries tt c.args.code (search rules)
