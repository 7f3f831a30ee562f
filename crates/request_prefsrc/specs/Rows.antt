-- A preferred source's check, by the rows and whether the two tables are listed.
use Rattle.std.specs.Prelude.{ℕ, ◌≡◌, refl, Bool, cond, not, ◌&&◌, ◌||◌, List, eqb}
use Rattle.lists.specs.Lists.{Row}
use Rattle.layout.specs.Route.{dst, kind, prefsrc}
use Rattle.definition.specs.State.{State}
use Rattle.definition.specs.Reference.Lookup.{listed, type_set, addr_type4, main_table, local_table, local_kind}
use Rattle.definition.specs.Reference.Routes.{table_named, valid_prefsrc4}
use Rattle.rows_lookup.specs.AddrType.{type_rows}

abbrev pub prefsrc_table : ℕ → ℕ
prefsrc_table t = cond (eqb t main_table) local_table t

unfoldable pub prefsrc_rows : Row → Bool → Bool → List Row → Bool
prefsrc_rows q ownListed localListed l =
    (eqb (kind q) local_kind && not (eqb (dst q) 0) && eqb (prefsrc q) (dst q))
    || eqb (type_rows ownListed (type_set (prefsrc_table (table_named q))) l (prefsrc q)) local_kind
    || eqb (type_rows localListed (type_set local_table) l (prefsrc q)) local_kind

pub prefsrc-rows : (q : Row) (st : State) → valid_prefsrc4 q st ≡ prefsrc_rows q (listed (prefsrc_table (table_named q)) st) (listed local_table st) st.routes
unfolding valid_prefsrc4 prefsrc_rows addr_type4
prefsrc-rows q st = refl
