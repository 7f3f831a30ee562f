-- The checks before an insertion, on the state with the table listed, by what is listed before that.
-- Assumes nothing.
use Rattle.std.specs.Prelude.{ℕ, ◌<◌, ◌≡◌, refl, Bool, true, false, cond, not, ◌&&◌, ◌||◌, List, Result, Ok, Err, eqb, Result}
use Rattle.std.proofs.Math.Path.{sym}
use Rattle.std.proofs.Common.{ap, ◌∙◌, eq-eqb, ne_eqb, eqb-true, ltb-true}
use Rattle.std.proofs.Math.Bool.{or-false, and-false}
use Rattle.lists.specs.Lists.{Row, among}
use Rattle.lists.specs.Bools.{test-case, and_iff}
use Rattle.lists.specs.Split.{among-more}
use Rattle.layout.specs.Route.{prefsrc_present, scope}
use Rattle.layout.specs.Request.{nlm_flags, fit_add_route4}
use Rattle.definition.specs.State.{State}
use Rattle.definition.specs.Reference.Lookup.{listed, local_table, main_table, default_table}
use Rattle.definition.specs.Reference.Insert.{add_table, list_table, create4, insert4}
use Rattle.definition.specs.Reference.Addresses.{Outcome}
use Rattle.definition.specs.Reference.Routes as Routes
use Rattle.definition.specs.Reference.Routes.{by, unreached, table_named, form_check, reach_check, valid_prefsrc4, routed, inserted_as, asked_route, add_route4, added_by}
use Rattle.state.specs.Represents.{Represents}
use Rattle.state_tables.specs.Listed.{tables_of}
use Rattle.state_read.specs.Parts.{listed-there}
use Rattle.request_prefsrc.specs.Rows.{prefsrc_table, prefsrc_rows, prefsrc-rows}
use Rattle.request_gateway.specs.Rows.{reached, reach_rows, reach-rows}
use Rattle.refusal.specs.Refusal.{unless}
use Rattle.refusal.specs.declared.Refusal.{Refusal}
use Rattle.refusal.specs.declared.Refusal.TheVariants.{Errno}

-- a preferred source behind the check of device and gateway
abbrev pub prefsrc_check : Row → Routes.Reached → State → Routes.Reached
prefsrc_check q (unreached n) st = unreached n
prefsrc_check q (by linked) st = cond (eqb (prefsrc_present q) 1 && not (valid_prefsrc4 q st)) (unreached 22) (by linked)

-- all checks
abbrev pub check_all : Row → State → Routes.Reached
check_all q st = cond (eqb (form_check q) 0) (prefsrc_check q (reach_check q st) st) (unreached (form_check q))

-- what comes after them
abbrev pub goes_on : Row → Routes.Reached → State → Outcome
goes_on q (unreached n) st = Outcome.refused n st
goes_on q (by linked) st = inserted_as (asked_route q linked) (insert4 (asked_route q linked) (nlm_flags q) st.routes) st

routed-goes : (q : Row) (r : Routes.Reached) (st : State) → routed insert4 q r st ≡ goes_on q (prefsrc_check q r st) st
routed-goes q (unreached n) st = refl
routed-goes q (by linked) st =
    test-case (eqb (prefsrc_present q) 1 && not (valid_prefsrc4 q st)) (λ e. rw e) (λ e. rw e)

pub add_goes : (q : Row) (st : State) → add_route4 q st ≡ goes_on q (check_all q (create4 (table_named q) st)) (create4 (table_named q) st)
unfolding added_by
add_goes q st =
    let made = create4 (table_named q) st in
    test-case (eqb (form_check q) 0) (λ e. rw e (routed-goes q (reach_check q made) made)) (λ e. rw e)

-- ---- what is listed once a table is
among_add : (u t : ℕ) (l : List ℕ) → among u (add_table t l) ≡ (among u l || eqb u t)
among_add u t l =
    test-case (among t l)
    (λ e. rw e (there e))
    (λ e. rw e (among-more u t l))
  where
    there : among t l ≡ true → among u l ≡ (among u l || eqb u t)
    there e =
        test-case (eqb u t)
        (λ f.
        let same : u ≡ t = eqb-true u t f in
        let on : among u l ≡ true = ap (λ (n : ℕ). among n l) same ∙ e in
        rw on)
        (λ f. rw f (sym (or-false (among u l))))

-- 254 comes along with 255, so it is another that is asked for
pub listed-made : (u t : ℕ) (st : State) → (eqb t local_table && eqb u main_table) ≡ false → listed u (create4 t st) ≡ (listed u st || eqb u t)
unfolding create4 list_table
listed-made u t st other =
    test-case (eqb t local_table)
    (λ e.
    let apart : eqb u main_table ≡ false = rw e at other in
    let same : (among u st.tables || eqb u main_table) ≡ among u st.tables = rw apart (or-false (among u st.tables)) in
    rw e (among_add u t (add_table main_table st.tables) ∙ ap (λ (b : Bool). b || eqb u t) (among_add u main_table st.tables ∙ same)))
    (λ e. rw e (among_add u t st.tables))

-- as the code asks for it
pub or_listed : {w : List ℕ} {st : State} → Represents w st → (u t : ℕ) (b : Bool) → b ≡ among u (tables_of w) → (b || eqb u t) ≡ (listed u st || eqb u t)
or_listed h u t b e = ap (λ (x : Bool). x || eqb u t) (e ∙ listed-there h u)

pub own-listed : {w : List ℕ} {st : State} → Represents w st → (u t : ℕ) (b : Bool) → u ≡ prefsrc_table t → b ≡ among u (tables_of w)
    → (b || eqb u t) ≡ (listed (prefsrc_table t) st || eqb (prefsrc_table t) t)
own-listed {w} {st} h u t b e f = or_listed h u t b f ∙ ap (λ (x : ℕ). listed x st || eqb x t) e

-- ---- the checks over the rows
-- the table that a preferred source may be local in is never 254
own-other : (t : ℕ) → (eqb t local_table && eqb (prefsrc_table t) main_table) ≡ false
own-other t =
    test-case (eqb t main_table)
    (λ e. rw e (and-false (eqb t local_table)))
    (λ e. rw (e, e) (and-false (eqb t local_table)))

module _ (q : Row) (st : State) (t : ℕ) (named : t ≡ table_named q) where
  made-reach : (a b : Bool) → a ≡ (listed local_table st || eqb local_table t) → b ≡ (listed default_table st || eqb default_table t)
      → reach_check q (create4 (table_named q) st) ≡ reach_rows q a b st.routes
  unfolding create4
  made-reach a b e f =
      let local : listed local_table (create4 t st) ≡ a = listed-made local_table t st (and-false (eqb t local_table)) ∙ sym e in
      let default : listed default_table (create4 t st) ≡ b = listed-made default_table t st (and-false (eqb t local_table)) ∙ sym f in
      rw (← named) (reach-rows q (create4 t st) ∙ rw (local, default))

  made-prefsrc : (o a : Bool) → o ≡ (listed (prefsrc_table t) st || eqb (prefsrc_table t) t) → a ≡ (listed local_table st || eqb local_table t)
      → valid_prefsrc4 q (create4 (table_named q) st) ≡ prefsrc_rows q o a st.routes
  unfolding create4
  made-prefsrc o a e f =
      let own : listed (prefsrc_table t) (create4 t st) ≡ o = listed-made (prefsrc_table t) t st (own-other t) ∙ sym e in
      let local : listed local_table (create4 t st) ≡ a = listed-made local_table t st (and-false (eqb t local_table)) ∙ sym f in
      rw (← named) (prefsrc-rows q (create4 t st) ∙ rw (← named, own, local))

  -- ---- a preferred source
  module _ (linked : Bool) where
    pub no-prefsrc : (prefsrc_present q ≡ 1 → ⊥) → Ok linked ≡ reached (prefsrc_check q (by linked) (create4 (table_named q) st))
    no-prefsrc h = rw (ne_eqb (prefsrc_present q) 1 h)

    module _ (h : prefsrc_present q ≡ 1) (v o a : Bool) (e : o ≡ (listed (prefsrc_table t) st || eqb (prefsrc_table t) t))
        (f : a ≡ (listed local_table st || eqb local_table t)) (g : v ≡ prefsrc_rows q o a st.routes) where
      valid-is : valid_prefsrc4 q (create4 (table_named q) st) ≡ v
      valid-is = made-prefsrc o a e f ∙ sym g

      pub good-prefsrc : v ≡ true → Ok linked ≡ reached (prefsrc_check q (by linked) (create4 (table_named q) st))
      good-prefsrc k = rw (eq-eqb (prefsrc_present q) 1 h, valid-is, k)

      pub bad_prefsrc : v ≡ false → Err (Errno 22) ≡ reached (prefsrc_check q (by linked) (create4 (table_named q) st))
      bad_prefsrc k = rw (eq-eqb (prefsrc_present q) 1 h, valid-is, k)

  -- ---- all of them
  module _ (y : Result Unit Refusal) (form : y ≡ unless (eqb (form_check q) 0) (Errno (form_check q))) where
    pub check_form : (m : Refusal) → y ≡ Err m → Err m ≡ reached (check_all q (create4 (table_named q) st))
    check_form m k =
        test-case (eqb (form_check q) 0)
        (λ e. let passes : ◌≡◌ {A = Result Unit Refusal} (Err m) (Ok tt) = rw (k, e) at form in cc)
        (λ e. let is : ◌≡◌ {A = Result Unit Refusal} (Err m) (Err (Errno (form_check q))) = rw (k, e) at form in let same : m ≡ Errno (form_check q) = cc in rw e (ap Err same))

    formed : (u : Unit) → y ≡ Ok u → eqb (form_check q) 0 ≡ true
    formed u z =
        test-case (eqb (form_check q) 0)
        (λ e. e)
        (λ e. let is : ◌≡◌ {A = Result Unit Refusal} (Ok u) (Err (Errno (form_check q))) = rw (z, e) at form in cc)

    module _ (u : Unit) (z : y ≡ Ok u) (a b : Bool) (e : a ≡ (listed local_table st || eqb local_table t)) (f : b ≡ (listed default_table st || eqb default_table t)) where
      check-goes : check_all q (create4 (table_named q) st) ≡ prefsrc_check q (reach_rows q a b st.routes) (create4 (table_named q) st)
      check-goes = rw (formed u z, made-reach a b e f)

      module _ (x : Result Bool Refusal) (g : x ≡ reached (reach_rows q a b st.routes)) where
        pub check-refused : (m : Refusal) → x ≡ Err m → x ≡ reached (check_all q (create4 (table_named q) st))
        check-refused m k = rw check-goes (go (reach_rows q a b st.routes) g)
          where
            go : (r : Routes.Reached) → x ≡ reached r → x ≡ reached (prefsrc_check q r (create4 (table_named q) st))
            go (by l) h = let bad : Ok l ≡ Err m = cc in cc
            go (unreached i) h = h

        pub check-on : (linked : Bool) → x ≡ Ok linked → check_all q (create4 (table_named q) st) ≡ prefsrc_check q (by linked) (create4 (table_named q) st)
        check-on linked k = check-goes ∙ ap (λ (r : Routes.Reached). prefsrc_check q r (create4 (table_named q) st)) (go (reach_rows q a b st.routes) g)
          where
            go : (r : Routes.Reached) → x ≡ reached r → r ≡ by linked
            go (by l) h = let same : l ≡ linked = cc in cc
            go (unreached i) h = cc
