-- Whether `add_route4` changes the state, from its event and from the tables.
-- Assumes nothing.
use Rattle.std.specs.Prelude.{ℕ, ◌≡◌, Bool, true, false, not, ◌&&◌, List, [], ◌∷◌, ◌++◌, eqb, ltb, length}
use Rattle.std.proofs.Common.{ap, ◌∙◌, arith, ltb-false}
use Rattle.lists.specs.Lists.{Row, any, keep, first, replace_first, eq_row}
use Rattle.lists.specs.Bools.{test-case, cond-case, true-false, or_left, or_right}
use Rattle.lists.specs.All.{eq_row-refl}
use Rattle.lists.specs.Split.{any-joined}
use Rattle.layout.specs.Route.{alike, before}
use Rattle.layout.specs.Request.{nlm_flags}
use Rattle.definition.specs.State.{State}
use Rattle.definition.specs.Reference.Insert.{ahead, behind, create4, insert4, Inserted, placed, nothing, is_row, excl_flag, replace_flag, create_flag, append_flag}
use Rattle.definition.specs.Reference.Addresses.{Outcome}
use Rattle.definition.specs.Reference.Routes.{Reached, add_route4, added_by, routed, inserted_as, asked_route, reach_check, valid_prefsrc4, form_check, table_named}
use Rattle.definition.specs.Step.{result}
use Rattle.definition.specs.Preservation.Routes.{none_equal}
use Rattle.definition_parts.proofs.Altered.Says.{Says, create-same, create-longer, events_or_tables, grown}
use Rattle.layout.specs.Route as Route

-- ---- add_route4: an event or more tables
abbrev Fresh : Row → List Row → Inserted → Type 0
Fresh new l (placed m f) = (any (eq_row new) m ≡ true) × (any (eq_row new) l ≡ false)
Fresh new l nothing = Unit
Fresh new l (Inserted.unplaced n) = Unit

in-middle : (new : Row) (l m : List Row) → any (eq_row new) (l ++ (new ∷ m)) ≡ true
in-middle new l m =
    any-joined (eq_row new) l (new ∷ m) ∙ or_right (any (eq_row new) l) (any (eq_row new) (new ∷ m)) (or_left (eq_row new new) (any (eq_row new) m) (eq_row-refl new))

in-place : (p : Row → Bool) (new : Row) (l : List Row) → any p l ≡ true → any (eq_row new) (replace_first p new l) ≡ true
in-place p new [] h = h
in-place p new (x ∷ l) h =
    test-case (p x) (λ e. rw e (or_left (eq_row new new) (any (eq_row new) l) (eq_row-refl new)))
    (λ e. rw e (or_right (eq_row new x) (any (eq_row new) (replace_first p new l)) (in-place p new l (rw e at h))))

in-ahead : (new : Row) (l : List Row) → any (eq_row new) (ahead new l) ≡ true
unfolding ahead
in-ahead new l = in-middle new (keep (λ r. before r new) l) (keep (λ r. not (before r new)) l)

in-behind : (new : Row) (l : List Row) → any (eq_row new) (behind new l) ≡ true
unfolding behind
in-behind new l = in-middle new (keep (λ r. not (before new r)) l) (keep (λ r. before new r) l)

insert-fresh : (new : Row) (flags : ℕ) (l : List Row) → Fresh new l (insert4 new flags l)
unfolding insert4
insert-fresh new flags l =
    cond-case (Fresh new l) (any (alike new) l)
    (λ a. cond-case (Fresh new l) (excl_flag flags) (λ b. tt)
    (λ b. cond-case (Fresh new l) (replace_flag flags)
    (λ c. cond-case (Fresh new l) (is_row new (first (alike new) l)) (λ d. tt)
    (λ d. cond-case (Fresh new l) (any (eq_row new) l) (λ e. tt) (λ e. (in-place (alike new) new l a, e))))
    (λ c. cond-case (Fresh new l) (any (eq_row new) l) (λ e. tt)
    (λ e. cond-case (Fresh new l) (create_flag flags)
    (λ g. cond-case (Fresh new l) (append_flag flags) (λ h. (in-behind new l, e)) (λ h. (in-ahead new l, e)))
    (λ g. tt)))))
    (λ a. cond-case (Fresh new l) (create_flag flags) (λ g. (in-ahead new l, none_equal new l a)) (λ g. tt))

made-says : (t : ℕ) (st : State) → Says st (create4 t st) (ltb (length st.tables) (length (create4 t st).tables))
made-says t st =
    test-case (ltb (length st.tables) (length (create4 t st).tables)) (λ h. rw h (grown st (create4 t st) h))
    (λ h. rw h (create-same t st (omega (arith, create-longer t st, ltb-false (length st.tables) (length (create4 t st).tables) h))))

inserted_as-says : (new : Row) (i : Inserted) (t : ℕ) (st : State) → Fresh new st.routes i
    → Says st (result (inserted_as new i (create4 t st))) (events_or_tables st (inserted_as new i (create4 t st)))
inserted_as-says new (placed m f) t st h =
    λ e. true-false (any (eq_row new) m) h.0 (ap (λ (s : State). any (eq_row new) s.routes) e ∙ h.1)
inserted_as-says new nothing t st h = made-says t st
inserted_as-says new (Inserted.unplaced n) t st h = made-says t st

routed-says : (q : Row) (r : Reached) (t : ℕ) (st : State)
    → Says st (result (routed insert4 q r (create4 t st))) (events_or_tables st (routed insert4 q r (create4 t st)))
unfolding create4
routed-says q (Reached.unreached n) t st = made-says t st
routed-says q (Reached.by linked) t st =
    let new = asked_route q linked in
    cond-case (λ (o : Outcome). Says st (result o) (events_or_tables st o)) (eqb (Route.prefsrc_present q) 1 && not (valid_prefsrc4 q (create4 t st)))
    (λ e. made-says t st)
    (λ e. inserted_as-says new (insert4 new (nlm_flags q) st.routes) t st (insert-fresh new (nlm_flags q) st.routes))

pub add_route4-says : (q : Row) (st : State) → Says st (result (add_route4 q st)) (events_or_tables st (add_route4 q st))
unfolding added_by
add_route4-says q st =
    cond-case (λ (o : Outcome). Says st (result o) (events_or_tables st o)) (eqb (form_check q) 0)
    (λ e. routed-says q (reach_check q (create4 (table_named q) st)) (table_named q) st) (λ e. made-says (table_named q) st)
