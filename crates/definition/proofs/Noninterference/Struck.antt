-- Requests that name a chosen table change nothing outside the chosen tables. Here the order of the routes counts: a row put in
-- its place leaves the others where they were.
use Rattle.std.specs.Prelude.{ℕ, ◌≡◌, Bool, true, false, cond, ◌&&◌, List, [], ◌∷◌, ◌++◌, eqb}
use Rattle.std.proofs.Math.Path.{refl, ap}
use Rattle.std.proofs.Common.{sym, ◌∙◌, true≢false, append-nil, eqb-true}
use Rattle.std.proofs.Math.Bool.{not, not-not}
use Rattle.std.proofs.lemmas.Bool.{false≢true, not-true}
use Rattle.std.proofs.Math.Option.{Option, none, some}
use Rattle.lists.specs.Lists.{Row, keep, any, first, eq_row, among}
use Rattle.lists.specs.Bools.{test-case, contrary}
use Rattle.lists.specs.Keep.{keep-false, keep_append, keep-split, remove_first-without, replace_first-without}
use Rattle.layout.specs.Route.{table, before, alike, prefsrc_present}
use Rattle.layout.specs.Request.{nlm_flags}
use Rattle.definition.specs.State.{State, with_routes}
use Rattle.definition.specs.Words.{ordered}
use Rattle.definition.specs.Reference.Lookup.{local_table, main_table, listed}
use Rattle.definition.specs.Reference.Insert.{Insertion, Inserted, placed, nothing, add_table, list_table, create4, ahead, behind, insert4, is_row, excl_flag, replace_flag, create_flag, append_flag}
use Rattle.definition.specs.Reference.Addresses.{Outcome}
use Rattle.definition.specs.Reference.Routes.{Reached, by, unreached, table_named, bad_prefix, form_check, reach_check, valid_prefsrc4, asked_route, inserted_as, routed, added_by, selects, deleted_route, del_route4_request}
use Rattle.definition.specs.Preservation.Order.{before-after, alike-before, alike-sym, level-alike}
use Rattle.definition.specs.Noninterference.Statement.{Choice, outside}
use Rattle.definition.specs.Noninterference.Projection.{unchosen, without, result}

-- ---- the order of routes: a row that isn't before another comes behind whatever is before that
pub before-between : (a b c : Row) → before a c ≡ true → before a b ≡ false → before b c ≡ true
before-between a b c h k =
    test-case (before b a) (λ e. before-after b a c e h)
    (λ e. alike-before b a c (alike-sym a b (level-alike a b k e)) h)

module _ (new : Row) (rows : List Row) (o : ordered rows ≡ true) where
  pub split-ahead : keep (λ r. before r new) rows ++ keep (λ r. not (before r new)) rows ≡ rows
  unfolding ordered
  split-ahead =
      keep-split (λ a b. not (before b a)) (λ r. before r new)
      (λ a b h k. before-between b a new k (not-true (before b a) h)) rows o

  pub split-behind : keep (λ r. not (before new r)) rows ++ keep (λ r. not (not (before new r))) rows ≡ rows
  unfolding ordered
  split-behind =
      keep-split (λ a b. not (before b a)) (λ r. not (before new r))
      (λ a b h k. ap not (contrary (before new a) (before b a) (λ e. before-between new b a e (not-true (before new b) k)) (not-true (before b a) h))) rows o

create4-routes : (t : ℕ) (st : State) → (create4 t st).routes ≡ st.routes
unfolding create4
create4-routes t st = refl

module _ (chosen : ℕ → Bool) where
  -- a row of a chosen table between others isn't seen
  between-unseen : (new : Row) → outside chosen new ≡ false → (l m : List Row) → keep (outside chosen) (l ++ (new ∷ m)) ≡ keep (outside chosen) (l ++ m)
  between-unseen new c l m =
      keep_append (outside chosen) l (new ∷ m) ∙ ap (λ k. keep (outside chosen) l ++ k) (keep-false (outside chosen) new m c) ∙ sym (keep_append (outside chosen) l m)

  -- what comes of an insertion, where nothing of it is seen
  pub data Unseen (rows : List Row) : Inserted → Type 0 where
    unseen : {after : List Row} {flags : ℕ} → keep (outside chosen) after ≡ keep (outside chosen) rows → Unseen rows (placed after flags)
    idle : Unseen rows nothing
    denied : (n : ℕ) → Unseen rows (Inserted.unplaced n)

  unseen-cond : {rows : List Row} (b : Bool) (i j : Inserted) → Unseen rows i → Unseen rows j → Unseen rows (cond b i j)
  unseen-cond true i j u v = u
  unseen-cond false i j u v = v

  chosen_as : (t u : ℕ) → unchosen chosen t ≡ false → eqb u t ≡ true → unchosen chosen u ≡ false
  chosen_as t u c e = rw (eqb-true u t e) c

  module _ (new : Row) (c : outside chosen new ≡ false) (rows : List Row) (o : ordered rows ≡ true) where
    alike-chosen : (r : Row) → alike new r ≡ true → outside chosen r ≡ false
    unfolding alike
    alike-chosen r h =
        let e = test-case (eqb (table new) (table r)) (λ e. e) (λ e. absurd (false≢true (rw e at h))) in
        rw (sym (eqb-true (table new) (table r) e)) c

    ahead-unseen : keep (outside chosen) (ahead new rows) ≡ keep (outside chosen) rows
    unfolding ahead
    ahead-unseen =
        between-unseen new c (keep (λ r. before r new) rows) (keep (λ r. not (before r new)) rows) ∙ ap (keep (outside chosen)) (split-ahead new rows o)

    behind-unseen : keep (outside chosen) (behind new rows) ≡ keep (outside chosen) rows
    unfolding behind
    behind-unseen =
        between-unseen new c (keep (λ r. not (before new r)) rows) (keep (λ r. before new r) rows)
        ∙ ap (keep (outside chosen)) (simp not-not at (split-behind new rows o))

    pub insert4-unseen : (flags : ℕ) → Unseen rows (insert4 new flags rows)
    unfolding insert4
    insert4-unseen flags =
        unseen-cond (any (alike new) rows) _ _
        (unseen-cond (excl_flag flags) _ _ (denied 17)
        (unseen-cond (replace_flag flags) _ _
        (unseen-cond (is_row new (first (alike new) rows)) _ _ idle
        (unseen-cond (any (eq_row new) rows) _ _ (denied 17) (unseen (replace_first-without (alike new) (outside chosen) alike-chosen new c rows))))
        (unseen-cond (any (eq_row new) rows) _ _ (denied 17)
        (unseen-cond (create_flag flags) _ _ (unseen-cond (append_flag flags) _ _ (unseen behind-unseen) (unseen ahead-unseen))
        (denied 2)))))
        (unseen-cond (create_flag flags) _ _ (unseen ahead-unseen) (denied 2))

  -- an insertion of a row of a chosen table of which nothing is seen
  abbrev pub InsertsUnseen : Insertion → Type 0
  InsertsUnseen insert =
      (new : Row) → outside chosen new ≡ false → (rows : List Row) → ordered rows ≡ true → (flags : ℕ) → Unseen rows (insert new flags rows)

  -- local respect: what a call comes to changes nothing outside the chosen tables
  pub record LocallyRespects (st : State) (o : Outcome) : Type 0 where
    pub unchanged : without chosen (result o) ≡ without chosen st

  respects-cond : (b : Bool) (st : State) (o p : Outcome) → LocallyRespects st o → LocallyRespects st p → LocallyRespects st (cond b o p)
  respects-cond true st o p h k = h
  respects-cond false st o p h k = k

  -- a request for a chosen table; 255 brings 254 along, so that is chosen too where it names 255
  module _ (q : Row) (named-chosen : unchosen chosen (table_named q) ≡ false) (along : eqb (table_named q) local_table ≡ true → unchosen chosen main_table ≡ false) where
    add_table-unseen : (t : ℕ) → unchosen chosen t ≡ false → (l : List ℕ) → keep (unchosen chosen) (add_table t l) ≡ keep (unchosen chosen) l
    add_table-unseen t c l =
        test-case (among t l) (λ e. rw e)
        (λ e. rw (e, keep_append (unchosen chosen) l (t ∷ []), c) (append-nil (keep (unchosen chosen) l)))

    create4-unseen : (st : State) → without chosen (create4 (table_named q) st) ≡ without chosen st
    unfolding create4 list_table
    create4-unseen st =
        test-case (eqb (table_named q) local_table)
        (λ e. rw (e, add_table-unseen (table_named q) named-chosen (add_table main_table st.tables), add_table-unseen main_table (along e) st.tables))
        (λ e. rw (e, add_table-unseen (table_named q) named-chosen st.tables))

    inserted_as-unseen : (new : Row) (i : Inserted) (st : State) → Unseen st.routes i → LocallyRespects st (inserted_as new i st)
    inserted_as-unseen new i st (unseen e) = record { unchanged = ap (λ l. with_routes l (without chosen st)) e }
    inserted_as-unseen new i st idle = record { unchanged = refl }
    inserted_as-unseen new i st (denied n) = record { unchanged = refl }

    routed-unseen : (insert : Insertion) → InsertsUnseen insert → (reached : Reached) (st : State) → ordered st.routes ≡ true → LocallyRespects st (routed insert q reached st)
    unfolding asked_route
    routed-unseen insert i (unreached n) st o = record { unchanged = refl }
    routed-unseen insert i (by linked) st o =
        let new = asked_route q linked in
        respects-cond (eqb (prefsrc_present q) 1 && not (valid_prefsrc4 q st)) _ _ _ (record { unchanged = refl })
        (inserted_as-unseen new (insert new (nlm_flags q) st.routes) st (i new named-chosen st.routes o (nlm_flags q)))

    pub added-respects : (insert : Insertion) → InsertsUnseen insert → (st : State) → ordered st.routes ≡ true → LocallyRespects st (added_by insert q st)
    unfolding added_by
    added-respects insert i st o =
        let made = create4 (table_named q) st in
        respects-cond (eqb (form_check q) 0) _ _ _
        (record { unchanged = (routed-unseen insert i (reach_check q made) made (rw (create4-routes (table_named q) st) o)).unchanged ∙ create4-unseen st })
        (record { unchanged = create4-unseen st })

    deleted_route-unseen : (found : Option Row) (st : State) → LocallyRespects st (deleted_route q found st)
    deleted_route-unseen none st = record { unchanged = refl }
    deleted_route-unseen (some r) st =
        record { unchanged = ap (λ l. with_routes l (without chosen st)) (remove_first-without (selects q) (outside chosen) selects-chosen st.routes) }
      where
        selects-chosen : (r : Row) → selects q r ≡ true → outside chosen r ≡ false
        selects-chosen r h =
            chosen_as (table_named q) (table r) named-chosen
            (test-case (eqb (table r) (table_named q)) (λ e. e) (λ e. absurd (false≢true (unfold selects in rw e at h))))

    pub del_route4_request-respects : (st : State) → LocallyRespects st (del_route4_request q st)
    unfolding del_route4_request
    del_route4_request-respects st =
        respects-cond (listed (table_named q) st) _ _ _
        (respects-cond (bad_prefix q) _ _ _ (record { unchanged = refl }) (deleted_route-unseen (first (selects q) st.routes) st))
        (record { unchanged = refl })

-- ---- the tables of a choice: a request names one as it is, and never 255
module _ (chosen : ℕ → Bool) (choice : Choice chosen) (q : Row) (c : chosen (table q) ≡ true) where
  named-itself : table_named q ≡ table q
  named-itself =
      test-case (eqb (table q) 0)
      (λ e. absurd (true≢false (sym c ∙ ap chosen (eqb-true (table q) 0 e) ∙ choice.not_0))) (λ e. rw e)

  choice-named : unchosen chosen (table_named q) ≡ false
  choice-named = rw (named-itself, c)

  never-local : eqb (table_named q) local_table ≡ true → unchosen chosen main_table ≡ false
  never-local e = absurd (true≢false (ap not (sym choice.not_255) ∙ ap (unchosen chosen) (sym (eqb-true (table_named q) local_table e)) ∙ choice-named))

  pub added-unseen : (insert : Insertion) → InsertsUnseen chosen insert → (st : State) → ordered st.routes ≡ true → LocallyRespects chosen st (added_by insert q st)
  added-unseen insert i st o = added-respects chosen q choice-named never-local insert i st o

  pub del_route4_request-unseen : (st : State) → LocallyRespects chosen st (del_route4_request q st)
  del_route4_request-unseen st = del_route4_request-respects chosen q choice-named never-local st
