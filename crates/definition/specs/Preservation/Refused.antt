-- What a refusal by the reference leaves: the state as it was, but for add_route4, whose table is listed by then.
-- Assumes nothing.
use Rattle.std.specs.Prelude.{ℕ, ◌≡◌, refl, Bool, true, false, cond, not, ◌&&◌, eqb}
use Rattle.std.proofs.Math.Option.{Option, none, some}
use Rattle.lists.specs.Lists.{Row, first}
use Rattle.layout.specs.Route.{prefsrc_present}
use Rattle.layout.specs.Request.{replace_asked, nlm_flags}
use Rattle.definition.specs.State.{State}
use Rattle.definition.specs.Reference.Lookup.{listed}
use Rattle.definition.specs.Reference.Insert.{create4, Insertion, Inserted}
use Rattle.definition.specs.Reference.Addresses.{Outcome, goes, refused, add_v4, added_over, change_v4, same_address}
use Rattle.definition.specs.Reference.Removal.{del_v4, deleted_at, deletes}
use Rattle.definition.specs.Reference.Routes.{Reached, added_by, routed, reach_check, form_check, inserted_as, asked_route, valid_prefsrc4, table_named, del_route4_request, deleted_route, bad_prefix, selects}

-- where an outcome is a refusal, it leaves that state
abbrev pub Leaves : State → Outcome → Type 0
Leaves st (goes o) = Unit {0}
Leaves st (refused n later) = later ≡ st

leaves_either : (st : State) (b : Bool) (x y : Outcome) → Leaves st x → Leaves st y → Leaves st (cond b x y)
leaves_either st true x y h k = h
leaves_either st false x y h k = k

over-leaves : (q : Row) (now : ℕ) (o : Option Row) (st : State) → Leaves st (added_over q now o st)
over-leaves q now none st = tt
over-leaves q now (some old) st = leaves_either st (eqb (replace_asked q) 1) (goes (change_v4 q old now st)) (refused 17 st) tt refl

pub add_v4-leaves : (q : Row) (now : ℕ) (st : State) → Leaves st (add_v4 q now st)
unfolding add_v4
add_v4-leaves q now st = over-leaves q now (first (same_address q) st.addresses) st

at-leaves : (o : Option Row) (st : State) → Leaves st (deleted_at o st)
at-leaves none st = refl
at-leaves (some a) st = tt

pub del_v4-leaves : (q : Row) (st : State) → Leaves st (del_v4 q st)
unfolding del_v4
del_v4-leaves q st = at-leaves (first (deletes q) st.addresses) st

route-leaves : (q : Row) (o : Option Row) (st : State) → Leaves st (deleted_route q o st)
route-leaves q none st = refl
route-leaves q (some r) st = tt

pub del_route4-leaves : (q : Row) (st : State) → Leaves st (del_route4_request q st)
unfolding del_route4_request
del_route4-leaves q st =
    leaves_either st (listed (table_named q) st) (cond (bad_prefix q) (refused 22 st) (deleted_route q (first (selects q) st.routes) st)) (refused 3 st)
    (leaves_either st (bad_prefix q) (refused 22 st) (deleted_route q (first (selects q) st.routes) st) refl (route-leaves q (first (selects q) st.routes) st))
    refl

inserted-leaves : (new : Row) (i : Inserted) (st : State) → Leaves st (inserted_as new i st)
inserted-leaves new (Inserted.placed rows flags) st = tt
inserted-leaves new Inserted.nothing st = tt
inserted-leaves new (Inserted.unplaced n) st = refl

routed-leaves : (insert : Insertion) (q : Row) (r : Reached) (st : State) → Leaves st (routed insert q r st)
routed-leaves insert q (Reached.unreached n) st = refl
routed-leaves insert q (Reached.by linked) st =
    leaves_either st (eqb (prefsrc_present q) 1 && not (valid_prefsrc4 q st)) (refused 22 st) (inserted_as (asked_route q linked) (insert (asked_route q linked) (nlm_flags q) st.routes) st) refl
    (inserted-leaves (asked_route q linked) (insert (asked_route q linked) (nlm_flags q) st.routes) st)

pub added-leaves : (insert : Insertion) (q : Row) (st : State) → Leaves (create4 (table_named q) st) (added_by insert q st)
unfolding added_by
added-leaves insert q st =
    let made = create4 (table_named q) st in
    leaves_either made (eqb (form_check q) 0) (routed insert q (reach_check q made) made) (refused (form_check q) made) (routed-leaves insert q (reach_check q made) made) refl
