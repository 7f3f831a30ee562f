-- The ways out of an addition.
-- Assumes nothing.
use Rattle.std.specs.Prelude.{ℕ, ◌≤◌, ◌<◌, ◌≡◌, Bool, true, false, ◌&&◌, List, [], ◌∷◌, eqb, leb, length, Some, None, Result, Ok, Err}
use Rattle.std.proofs.Common.{arith, sym, ap, ◌∙◌, eqb-true}
use Rattle.std.proofs.Math.Bool.{and-false}
use Rattle.std.proofs.lemmas.Bool.{lt-leb}
use Rattle.lists.specs.Lists.{Row}
use Rattle.lists.specs.Bools.{test-case}
use Rattle.refusal.specs.declared.Refusal.{Refusal}
use Rattle.refusal.specs.declared.Refusal.TheVariants.{Full, Errno}
use Rattle.layout.specs.Route.{fit_route}
use Rattle.layout.specs.Request.{nlm_flags, fit_add_route4}
use Rattle.layout.specs.Event.{new_route4}
use Rattle.definition.specs.State.{State, sizes, with_routes}
use Rattle.definition.specs.Words.{decode, within}
use Rattle.definition.specs.Step.{roomy}
use Rattle.definition.specs.Preservation.Rows.{asked_route-fit}
use Rattle.definition.specs.Reference.Insert as Insert
use Rattle.definition.specs.Reference.Insert.{list_table, create4, insert4}
use Rattle.definition.specs.Reference.Routes as Routes
use Rattle.definition.specs.Reference.Routes.{by, table_named, form_check, inserted_as, asked_route, add_route4}
use Rattle.state.specs.Represents.{Represents}
use Rattle.state.specs.Change.{tables-at}
use Rattle.state.specs.Stored.{represented}
use Rattle.state.specs.declared.stored.StoredMut.{StoredMut}
use Rattle.state_tables.specs.Listed.{tables_of}
use Rattle.step_insert.specs.Plan.{Inserted, answer_of, rows_after}
use Rattle.request_gateway.specs.Rows.{reached}
use Rattle.step_events.specs.Row.{new_route-long}
use Rattle.step_events.specs.Tells.{Tells}
use Rattle.step_events.specs.Emits.{tells-none}
use Rattle.step_events.specs.Comes.{Answer, ComesWhole}
use Rattle.step_events.specs.declared.change.Change.{Change}
use Rattle.step_route_request.specs.Ways.{request-refused, request-none, request-emitted, request-full}
use Rattle.step_route_request.specs.Check.{check_all, goes_on, add_goes}

-- ---- an insertion, then its table listed: by what came of it
module _ (new : Row) (t : ℕ) (st : State) (d : Insert.Inserted) {a b : Change} where
  pub added-put : (flags : ℕ) → ◌≡◌ {A = Inserted} (Ok (Some flags)) (answer_of d) → length new ≡ 32 → Represents b.state.words.now (create4 t (with_routes (rows_after d st.routes) st))
      → Tells (new_route4 new flags ∷ []) a b → ComesWhole st (inserted_as new d (create4 t st)) a b (Ok tt)
  unfolding create4
  added-put flags e wide h k = go d e h
    where
      go : (d : Insert.Inserted) → ◌≡◌ {A = Inserted} (Ok (Some flags)) (answer_of d) → Represents b.state.words.now (create4 t (with_routes (rows_after d st.routes) st)) → ComesWhole st (inserted_as new d (create4 t st)) a b (Ok tt)
      go (Insert.placed rows emitted) e h =
          test-case (leb (length rows) 256)
          (λ f.
          let same : ◌≡◌ {A = Inserted} (Ok (Some flags)) (Ok (Some emitted)) = rw f at e in
          let is : flags ≡ emitted = cc in
          request-emitted st (with_routes rows (create4 t st)) (rw f at h) (new_route4 new emitted) (new_route-long new emitted wide) (rw is at k))
          (λ f. let same : ◌≡◌ {A = Inserted} (Ok (Some flags)) (Err Full) = rw f at e in cc)
      go Insert.nothing e h = cc
      go (Insert.unplaced m) e h = cc

  pub added-none : ◌≡◌ {A = Inserted} (Ok None) (answer_of d) → Represents b.state.words.now (create4 t (with_routes (rows_after d st.routes) st)) → Tells [] a b → ComesWhole st (inserted_as new d (create4 t st)) a b (Ok tt)
  unfolding create4
  added-none e h k = go d e h
    where
      go : (d : Insert.Inserted) → ◌≡◌ {A = Inserted} (Ok None) (answer_of d) → Represents b.state.words.now (create4 t (with_routes (rows_after d st.routes) st)) → ComesWhole st (inserted_as new d (create4 t st)) a b (Ok tt)
      go (Insert.placed rows emitted) e h =
          test-case (leb (length rows) 256)
          (λ f. let same : ◌≡◌ {A = Inserted} (Ok None) (Ok (Some emitted)) = rw f at e in cc)
          (λ f. let same : ◌≡◌ {A = Inserted} (Ok None) (Err Full) = rw f at e in cc)
      go Insert.nothing e h = request-none st (create4 t st) h k
      go (Insert.unplaced m) e h = cc

  pub added-refused : (r : Refusal) → (r ≡ Full → ⊥) → ◌≡◌ {A = Inserted} (Err r) (answer_of d) → Represents b.state.words.now (create4 t (with_routes (rows_after d st.routes) st)) → Tells [] a b
      → ComesWhole st (inserted_as new d (create4 t st)) a b (Err r)
  unfolding create4
  added-refused r n e h k = go d e h
    where
      go : (d : Insert.Inserted) → ◌≡◌ {A = Inserted} (Err r) (answer_of d) → Represents b.state.words.now (create4 t (with_routes (rows_after d st.routes) st)) → ComesWhole st (inserted_as new d (create4 t st)) a b (Err r)
      go (Insert.placed rows emitted) e h =
          test-case (leb (length rows) 256)
          (λ f. let same : ◌≡◌ {A = Inserted} (Err r) (Ok (Some emitted)) = rw f at e in cc)
          (λ f. let same : ◌≡◌ {A = Inserted} (Err r) (Err Full) = rw f at e in absurd (n cc))
      go Insert.nothing e h = cc
      go (Insert.unplaced m) e h = let is : r ≡ Errno m = cc in rw is (request-refused st (create4 t st) h k m)

  -- no room for the row
  pub row-full : ◌≡◌ {A = Inserted} (Err Full) (answer_of d) → Represents b.state.words.now (with_routes (rows_after d st.routes) st) → Tells [] a b → ComesWhole st (inserted_as new d (create4 t st)) a b (Err Full)
  unfolding create4
  row-full e h k = go d e h
    where
      go : (d : Insert.Inserted) → ◌≡◌ {A = Inserted} (Err Full) (answer_of d) → Represents b.state.words.now (with_routes (rows_after d st.routes) st) → ComesWhole st (inserted_as new d (create4 t st)) a b (Err Full)
      go (Insert.placed rows emitted) e h =
          test-case (leb (length rows) 256)
          (λ f. let same : ◌≡◌ {A = Inserted} (Err Full) (Ok (Some emitted)) = rw f at e in cc)
          (λ f.
          let past : within (sizes (with_routes rows (create4 t st))) ≡ false = rw (f, and-false (leb (length st.addresses) 64)) in
          request-full _ past (rw f at h) k)
      go Insert.nothing e h = cc
      go (Insert.unplaced m) e h = cc

-- ---- no room for the table: whatever the request, even a bad one
module _ (q : Row) (t : ℕ) (st : State) (long : 32 < length (list_table t st.tables)) where
  over-tables : (l : List Row) → within (sizes (with_routes l (create4 t st))) ≡ false
  unfolding create4
  over-tables l = rw (lt-leb (length (list_table t st.tables)) 32 long) (and-false (leb (length st.addresses) 64 && leb (length l) 256))

  inserted-full : (new : Row) (i : Insert.Inserted) → roomy (inserted_as new i (create4 t st)) ≡ false
  unfolding create4
  inserted-full new (Insert.placed rows emitted) = over-tables rows
  inserted-full new Insert.nothing = over-tables st.routes
  inserted-full new (Insert.unplaced n) = over-tables st.routes

  goes-full : (r : Routes.Reached) → roomy (goes_on q r (create4 t st)) ≡ false
  unfolding create4
  goes-full (Routes.unreached n) = over-tables st.routes
  goes-full (by linked) = inserted-full (asked_route q linked) (insert4 (asked_route q linked) (nlm_flags q) st.routes)

pub table-full : (q : Row) (t : ℕ) {a : Change} {st : State} → t ≡ table_named q → Represents a.state.words.now st → 32 < length (list_table t (tables_of a.state.words.now))
    → ComesWhole st (add_route4 q st) a a (Err Full)
table-full q t {a} {st} e h long =
    let past : 32 < length (list_table (table_named q) st.tables) = rw (tables-at h, e) at long in
    request-full (add_route4 q st) (ap roomy (add_goes q st) ∙ goes-full q (table_named q) st past (check_all q (create4 (table_named q) st))) h (tells-none a)

-- ---- what the calls require
pub check-formed : (q : Row) (made : State) (linked : Bool) → by linked ≡ check_all q made → form_check q ≡ 0
check-formed q made linked e =
    test-case (eqb (form_check q) 0)
    (λ f. eqb-true (form_check q) 0 f)
    (λ f.
    let bad : by linked ≡ Routes.unreached (form_check q) = rw f at e in
    let z : ◌≡◌ {A = ℕ} 0 1 = cc in
    absurd (omega arith))

pub asked-fits : (q : Row) (made : State) (linked : Bool) → by linked ≡ check_all q made → length q ≡ 34 → fit_add_route4 q ≡ true → fit_route (asked_route q linked) ≡ true
asked-fits q made linked e long fit = asked_route-fit q linked long fit (check-formed q made linked e)

-- a state that differs in its routes alone lists the same tables
pub room-kept : (t : ℕ) (a b : StoredMut) → with_routes [] (decode b.words.now) ≡ with_routes [] (decode a.words.now) → length (list_table t (tables_of a.words.now)) ≤ 32
    → length (list_table t (tables_of b.words.now)) ≤ 32
room-kept t a b e room =
    let same : tables_of b.words.now ≡ tables_of a.words.now =
    tables-at (represented b.holds) ∙ ap (λ (s : State). s.tables) e ∙ sym (tables-at (represented a.holds))
    in
    rw same room

-- ---- the ways out, as the code has them
pub checked-linked : {x : Result Bool Refusal} (r : Routes.Reached) → x ≡ reached r → (linked : Bool) → x ≡ Ok linked → by linked ≡ r
checked-linked (by l) g linked f = let same : ◌≡◌ {A = Result Bool Refusal} (Ok linked) (Ok l) = sym f ∙ g in let is : linked ≡ l = cc in ap by is
checked-linked (Routes.unreached n) g linked f = let same : ◌≡◌ {A = Result Bool Refusal} (Ok linked) (Err (Errno n)) = sym f ∙ g in cc

module _ (q : Row) (t : ℕ) (st : State) (x : Result Bool Refusal) (named : t ≡ table_named q) (e : x ≡ reached (check_all q (create4 (table_named q) st))) {a b : Change} where
  pub way_refused : (r : Refusal) → x ≡ Err r → Represents b.state.words.now (create4 t st) → Tells [] a b → ComesWhole st (add_route4 q st) a b (Err r)
  way_refused r f h k = rw (add_goes q st) (go (check_all q (create4 (table_named q) st)) e)
    where
      go : (c : Routes.Reached) → x ≡ reached c → ComesWhole st (goes_on q c (create4 (table_named q) st)) a b (Err r)
      go (by l) g = let same : ◌≡◌ {A = Result Bool Refusal} (Err r) (Ok l) = sym f ∙ g in cc
      go (Routes.unreached n) g =
          let same : ◌≡◌ {A = Result Bool Refusal} (Err r) (Err (Errno n)) = sym f ∙ g in
          let is : r ≡ Errno n = cc in
          rw is (request-refused st (create4 (table_named q) st) (rw named at h) k n)

  pub way_added : {r : Answer} (linked : Bool) → x ≡ Ok linked
      → ComesWhole st (inserted_as (asked_route q linked) (insert4 (asked_route q linked) (nlm_flags q) st.routes) (create4 t st)) a b r
      → ComesWhole st (add_route4 q st) a b r
  unfolding create4
  way_added linked f h = rw (add_goes q st, ← (checked-linked (check_all q (create4 (table_named q) st)) e linked f)) (rw named at h)
