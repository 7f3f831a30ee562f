-- The code's flows and sets of tables, as the definitions have them.
use Rattle.std.specs.Prelude.{ℕ, Bool, ◌||◌, eqb}
use Rattle.definition.specs.Reference.Lookup as Lookup
use Rattle.rows_lookup.specs.declared.Flow.{Flow}
use Rattle.rows_lookup.specs.declared.Tables.{Tables}

abbrev pub flow_of : Flow → Lookup.Flow
flow_of f = record { ip = f.ip; tos = f.tos; scope = f.scope; oif = f.oif }

abbrev pub set_of : Tables → ℕ → Bool
set_of t u = eqb u t.one || eqb u t.other
