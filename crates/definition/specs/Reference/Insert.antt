-- A route put into its table or taken out (document 01, port order 4; rtnetlink(7) and netlink(7) for the flags of a request).
use Rattle.std.specs.Prelude.{ℕ, ◌+◌, Bool, cond, not, ◌&&◌, ◌||◌, List, [], ◌∷◌, ◌++◌, eqb}
use Rattle.std.proofs.Math.Option.{Option, none, some}
use Rattle.lists.specs.Lists.{Row, any, keep, first, remove_first, replace_first, eq_row, among}
use Rattle.layout.specs.Flags.{has_bit, flag, replace_bit, excl_bit, create_bit, append_bit}
use Rattle.layout.specs.Route.{before, alike, table, dst, len, tos, priority, kind, proto, scope, prefsrc_present, prefsrc, device}
use Rattle.layout.specs.Event.{new_route4, del_route4}
use Rattle.definition.specs.State.{State, Out, becomes, stays, with_routes, with_tables}
use Rattle.definition.specs.Reference.Lookup.{main_table, local_table}

-- ---- tables
abbrev pub add_table : ℕ → List ℕ → List ℕ
add_table t l = cond (among t l) l (l ++ (t ∷ []))

-- a table is listed; 255 brings 254 along if that is unlisted [create4; fib_new_table]
unfoldable pub list_table : ℕ → List ℕ → List ℕ
list_table t l = add_table t (cond (eqb t local_table) (add_table main_table l) l)

unfoldable pub create4 : ℕ → State → State
create4 t st = with_tables (list_table t st.tables) st

-- ---- insertion
-- what a request's flags ask for [F_REPLACE, F_EXCL, F_CREATE, F_APPEND; NLM_F_*]
abbrev pub replace_flag : ℕ → Bool
replace_flag f = has_bit replace_bit f

abbrev pub excl_flag : ℕ → Bool
excl_flag f = has_bit excl_bit f

abbrev pub create_flag : ℕ → Bool
create_flag f = has_bit create_bit f

abbrev pub append_flag : ℕ → Bool
append_flag f = has_bit append_bit f

-- what comes of an insertion: the rows afterwards with the flags emitted, nothing to do, or a refusal [insert4's Result]
pub data Inserted : Type 0 where
  placed : List Row → ℕ → Inserted
  nothing : Inserted
  unplaced : ℕ → Inserted

-- in its place in the order, before the alike rows [partition_point and `first` in insert4]
unfoldable pub ahead : Row → List Row → List Row
ahead new rows =
    keep (λ r. before r new) rows ++ (new ∷ keep (λ r. not (before r new)) rows)

-- in its place in the order, after the alike rows [`run` in insert4]
unfoldable pub behind : Row → List Row → List Row
behind new rows =
    keep (λ r. not (before new r)) rows ++ (new ∷ keep (λ r. before new r) rows)

-- that row is it
abbrev pub is_row : Row → Option Row → Bool
is_row new none = Bool.false
is_row new (some r) = eq_row new r

-- a way to put a row in, by the flags of a request
abbrev pub Insertion : Type 0
Insertion = Row → ℕ → List Row → Inserted

-- Among the rows alike in table, dst, len, tos and priority: EXCL refuses; with REPLACE it takes the first one's place, unless
-- it is there already; else the same row again is refused, and it goes before them, or after them with APPEND.
-- Without CREATE a row more is refused. [insert4; fib_table_insert]
unfoldable pub insert4 : Row → ℕ → List Row → Inserted
insert4 new flags rows =
    cond (any (alike new) rows)
    (cond (excl_flag flags) (unplaced 17)
    (cond (replace_flag flags)
    (cond (is_row new (first (alike new) rows)) nothing
    (cond (any (eq_row new) rows) (unplaced 17) (placed (replace_first (alike new) new rows) (flag replace_bit))))
    (cond (any (eq_row new) rows) (unplaced 17)
    (cond (create_flag flags)
    (cond (append_flag flags) (placed (behind new rows) (flag create_bit + flag append_bit)) (placed (ahead new rows) (flag create_bit)))
    (unplaced 2)))))
    (cond (create_flag flags) (placed (ahead new rows) (flag create_bit + flag excl_bit)) (unplaced 2))

-- ---- the kernel's own routes
-- an insertion whose refusal nobody hears of
abbrev pub inserted : Row → Inserted → State → Out
inserted new (placed rows flags) st = becomes (with_routes rows st) (new_route4 new flags ∷ [])
inserted new nothing st = stays st
inserted new (unplaced n) st = stays st

-- the flags of the kernel's own requests [F_CREATE | F_APPEND]
abbrev pub kernel_flags : ℕ
kernel_flags = flag create_bit + flag append_bit

-- one of the kernel's routes: its table listed, emitted unless the same is there [kernel_add4; fib_magic]
unfoldable pub kernel_add4 : Row → State → Out
kernel_add4 new st =
    let made = create4 (table new) st in
    inserted new (insert4 new kernel_flags made.routes) made

-- a row that the kernel's deletion of a route names: any priority where that names none, whatever metrics and gateway
-- [`same` in kernel_del4; fib_table_delete, fib_nh_match]
unfoldable pub matches : Row → Row → Bool
matches p r =
    eqb (table r) (table p)
    && eqb (dst r) (dst p)
    && eqb (len r) (len p)
    && eqb (tos r) (tos p)
    && eqb (kind r) (kind p)
    && eqb (scope r) (scope p)
    && eqb (prefsrc_present r) (prefsrc_present p)
    && eqb (prefsrc r) (prefsrc p)
    && eqb (proto r) (proto p)
    && eqb (device r) (device p)
    && (eqb (priority p) 0 || eqb (priority r) (priority p))

-- the first row that passes goes, and is emitted
abbrev pub removed : (Row → Bool) → Option Row → State → Out
removed p none st = stays st
removed p (some r) st = becomes (with_routes (remove_first p st.routes) st) (del_route4 r ∷ [])

-- one of the kernel's routes goes [kernel_del4; fib_magic]
unfoldable pub kernel_del4 : Row → State → Out
kernel_del4 p st = removed (matches p) (first (matches p) st.routes) st
