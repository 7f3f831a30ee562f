-- What a route is: the seven kinds, their codes and errors (document 01, port order 3), and the least scopes (port order 7).
-- Assumes nothing.
use Rattle.std.specs.Prelude.{ℕ, Bool, cond, ◌||◌, eqb, Option, Some, None, Result, Ok, Err}
use Rattle.kind.specs.declared.Kind.{Kind}
use Rattle.kind.specs.declared.Kind.TheVariants.{Unicast, Local, Broadcast, Blackhole, Unreachable, Prohibit, Throw}
use Rattle.kind.specs.declared.UnknownKind.{UnknownKind}

abbrev pub code_of : Kind → ℕ
code_of Unicast = 1
code_of Local = 2
code_of Broadcast = 3
code_of Blackhole = 6
code_of Unreachable = 7
code_of Prohibit = 8
code_of Throw = 9

unfoldable pub kind_of : ℕ → Result Kind UnknownKind
kind_of c =
    cond (eqb c 1) (Ok Unicast) (cond (eqb c 2) (Ok Local) (cond (eqb c 3) (Ok Broadcast)
    (cond (eqb c 6) (Ok Blackhole) (cond (eqb c 7) (Ok Unreachable) (cond (eqb c 8) (Ok Prohibit)
    (cond (eqb c 9) (Ok Throw) (Err (record { 0 = c }))))))))

-- the code of one of the seven
unfoldable pub is_kind : ℕ → Bool
is_kind c = eqb c 1 || eqb c 2 || eqb c 3 || eqb c 6 || eqb c 7 || eqb c 8 || eqb c 9

-- what a lookup that ends at a route of this code gives, 0 for none
unfoldable pub error_of : ℕ → ℕ
error_of c = cond (eqb c 6) 22 (cond (eqb c 7) 113 (cond (eqb c 8) 13 (cond (eqb c 9) 11 0)))

-- what is said of an error by its number, 0 for none
abbrev pub rejection : ℕ → Option ℕ
rejection n = cond (eqb n 0) None (Some n)

-- the least scope that a request for a route of this code may have, as the reference matches on it
unfoldable pub least_scope : ℕ → ℕ
least_scope c = cond (eqb c 0 || eqb c 10 || eqb c 11) 255 (cond (eqb c 2) 254 (cond (eqb c 3 || eqb c 4) 253 0))
