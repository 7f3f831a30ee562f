-- Lookups, insertions and deletions that name a table that isn't chosen: no row or number of a chosen one is looked at.
use Rattle.std.specs.Prelude.{ℕ, ◌≡◌, Bool, true, ◌&&◌, ◌||◌, List, [], ◌∷◌}
use Rattle.std.proofs.Math.Path.{refl, ap}
use Rattle.std.proofs.Common.{sym}
use Rattle.std.proofs.Math.Bool.{not}
use Rattle.std.proofs.lemmas.Bool.{false≢true}
use Rattle.std.proofs.Math.Option.{Option, none, some}
use Rattle.std.proofs.Math.Dec.{eqb}
use Rattle.lists.specs.Lists.{Row, keep, first, remove_first, eq_row, among}
use Rattle.lists.specs.Bools.{and_left, and_right, or_case, test-case, cond_map}
use Rattle.lists.specs.All.{eq_row-true}
use Rattle.lists.specs.Keep.{Implies, keep_append, keep-keep, keep-within, any-within, first-within, remove_first-within, replace_first-within}
use Rattle.layout.specs.Route.{table, before, alike}
use Rattle.definition.specs.State.{State, with_routes}
use Rattle.definition.specs.Reference.Lookup.{Flow, longest, fits, answer, together, lookup_in, type_set, addr_type4, local4, listed, flow_to, main_table, local_table, default_table}
use Rattle.definition.specs.Reference.Insert.{Inserted, placed, nothing, add_table, list_table, create4, ahead, behind, insert4, inserted, kernel_add4, matches, removed, kernel_del4, kernel_flags}
use Rattle.definition.specs.Noninterference.Statement.{Choice, outside}
use Rattle.definition.specs.Noninterference.Projection.{unchosen, without, unchosen_as, unchosen_like, Mirrors, StepConsistent}

module _ (chosen : ℕ → Bool) (choice : Choice chosen) where
  pub default_open : unchosen chosen default_table ≡ true
  default_open = ap not choice.not_253

  pub main_open : unchosen chosen main_table ≡ true
  main_open = ap not choice.not_254

  pub local_open : unchosen chosen local_table ≡ true
  local_open = ap not choice.not_255

  -- ---- lookups
  pub answer-consistent : (tables : ℕ → Bool) → Implies tables (unchosen chosen) → (f : Flow) (rows : List Row) → answer tables f (keep (outside chosen) rows) ≡ answer tables f rows
  unfolding answer
  answer-consistent tables i f rows =
      ap longest
      (keep-within (λ r. tables (table r) && fits f r) (outside chosen) (λ r h. i (table r) (and_left (tables (table r)) (fits f r) h)) rows)

  either_open : (u : ℕ) → (eqb u local_table || eqb u main_table) ≡ true → unchosen chosen u ≡ true
  either_open u h =
      or_case (eqb u local_table) (eqb u main_table) h (unchosen_as chosen local_table u local_open)
      (unchosen_as chosen main_table u main_open)

  -- the sets that lookups read hold no chosen table
  pub together_open : (t : ℕ) → Implies (together t) (unchosen chosen)
  unfolding together
  together_open t u h =
      test-case (eqb t local_table || eqb t main_table) (λ e. either_open u (rw e at h))
      (λ e. unchosen_as chosen default_table u default_open (and_right (eqb t default_table) (eqb u default_table) (rw e at h)))

  pub type_set_open : (t : ℕ) → unchosen chosen t ≡ true → Implies (type_set t) (unchosen chosen)
  unfolding type_set
  type_set_open t o u h =
      test-case (eqb t local_table || eqb t main_table) (λ e. either_open u (rw e at h))
      (λ e. unchosen_as chosen t u o (rw e at h))

  pub listed-consistent : (t : ℕ) → unchosen chosen t ≡ true → (st : State) → listed t (without chosen st) ≡ listed t st
  listed-consistent t o st = any-within (eqb t) (unchosen chosen) (λ u e. unchosen_like chosen t u o e) st.tables

  pub lookup_in-consistent : (st : State) (f : Flow) → lookup_in (without chosen st) f ≡ lookup_in st f
  unfolding lookup_in
  lookup_in-consistent st f =
      rw (
        answer-consistent (together main_table) (together_open main_table) f st.routes,
        answer-consistent (together default_table) (together_open default_table) f st.routes,
        listed-consistent default_table default_open st,
      )

  pub addr_type4-consistent : (st : State) (ip t : ℕ) → unchosen chosen t ≡ true → addr_type4 (without chosen st) ip t ≡ addr_type4 st ip t
  unfolding addr_type4
  addr_type4-consistent st ip t o =
      rw (answer-consistent (type_set t) (type_set_open t o) (flow_to ip) st.routes, listed-consistent t o st)

  pub local4-consistent : (st : State) (ip : ℕ) → local4 (without chosen st) ip ≡ local4 st ip
  unfolding local4
  local4-consistent st ip = rw (listed-consistent local_table local_open st, addr_type4-consistent st ip local_table local_open)

  -- ---- tables listed
  pub add_table-consistent : (t : ℕ) → unchosen chosen t ≡ true → (l : List ℕ) → add_table t (keep (unchosen chosen) l) ≡ keep (unchosen chosen) (add_table t l)
  add_table-consistent t o l =
      rw (any-within (eqb t) (unchosen chosen) (λ u e. unchosen_like chosen t u o e) l)
      (test-case (among t l) (λ e. rw e)
      (λ e. rw (e, keep_append (unchosen chosen) l (t ∷ []), o)))

  pub create4-consistent : (t : ℕ) → unchosen chosen t ≡ true → (st : State) → create4 t (without chosen st) ≡ without chosen (create4 t st)
  unfolding create4 list_table
  create4-consistent t o st =
      test-case (eqb t local_table)
      (λ e. rw (e, add_table-consistent main_table main_open st.tables, add_table-consistent t o (add_table main_table st.tables)))
      (λ e. rw (e, add_table-consistent t o st.tables))

  -- ---- insertion
  unfoldable pub kept_in : Inserted → Inserted
  kept_in (placed rows flags) = placed (keep (outside chosen) rows) flags
  kept_in nothing = nothing
  kept_in (Inserted.unplaced n) = Inserted.unplaced n

  module _ (new : Row) (o : outside chosen new ≡ true) where
    alike-outside : Implies (alike new) (outside chosen)
    unfolding alike
    alike-outside r h =
        unchosen_like chosen (table new) (table r) o
        (test-case (eqb (table new) (table r)) (λ e. e) (λ e. absurd (false≢true (rw e at h))))

    equal_outside : Implies (eq_row new) (outside chosen)
    equal_outside r h = rw (sym (eq_row-true new r h)) o

    ahead-consistent : (rows : List Row) → ahead new (keep (outside chosen) rows) ≡ keep (outside chosen) (ahead new rows)
    unfolding ahead
    ahead-consistent rows =
        rw (
          keep_append (outside chosen) (keep (λ r. before r new) rows) (new ∷ keep (λ r. not (before r new)) rows),
          o,
          keep-keep (outside chosen) (λ r. before r new) rows,
          keep-keep (outside chosen) (λ r. not (before r new)) rows,
        )

    behind-consistent : (rows : List Row) → behind new (keep (outside chosen) rows) ≡ keep (outside chosen) (behind new rows)
    unfolding behind
    behind-consistent rows =
        rw (
          keep_append (outside chosen) (keep (λ r. not (before new r)) rows) (new ∷ keep (λ r. before new r) rows),
          o,
          keep-keep (outside chosen) (λ r. not (before new r)) rows,
          keep-keep (outside chosen) (λ r. before new r) rows,
        )

    pub insert4-consistent : (flags : ℕ) (rows : List Row) → insert4 new flags (keep (outside chosen) rows) ≡ kept_in (insert4 new flags rows)
    unfolding insert4
    insert4-consistent flags rows =
        rw (
          any-within (alike new) (outside chosen) alike-outside rows,
          first-within (alike new) (outside chosen) alike-outside rows,
          any-within (eq_row new) (outside chosen) equal_outside rows,
          replace_first-within (alike new) (outside chosen) alike-outside new o rows,
          ahead-consistent rows,
          behind-consistent rows,
        )
        (simp (cond_map kept_in) (unfold kept_in in refl))

    inserted-consistent : (i : Inserted) (st : State) → Mirrors chosen (inserted new i st) (inserted new (kept_in i) (without chosen st))
    unfolding kept_in
    inserted-consistent (placed rows flags) st = record { state = refl; emitted = refl }
    inserted-consistent nothing st = record { state = refl; emitted = refl }
    inserted-consistent (Inserted.unplaced n) st = record { state = refl; emitted = refl }

    pub kernel_add4-consistent : StepConsistent chosen (kernel_add4 new)
    unfolding kernel_add4
    kernel_add4-consistent st =
        let made = create4 (table new) st in
        rw (create4-consistent (table new) o st, insert4-consistent kernel_flags made.routes)
        (inserted-consistent (insert4 new kernel_flags made.routes) made)

  -- ---- deletion
  -- the first row that passes goes, where only rows outside pass
  module _ (p : Row → Bool) (i : Implies p (outside chosen)) where
    pub removal_consistent : (st : State) → without chosen (with_routes (remove_first p st.routes) st) ≡ with_routes (remove_first p (without chosen st).routes) (without chosen st)
    removal_consistent st = rw (remove_first-within p (outside chosen) i st.routes)

    removed-consistent : (r : Option Row) (st : State) → Mirrors chosen (removed p r st) (removed p r (without chosen st))
    removed-consistent none st = record { state = refl; emitted = refl }
    removed-consistent (some r) st = record { state = sym (removal_consistent st); emitted = refl }

  pub kernel_del4-consistent : (p : Row) → outside chosen p ≡ true → StepConsistent chosen (kernel_del4 p)
  unfolding kernel_del4
  kernel_del4-consistent p o st =
      let i = matches-outside in
      rw (first-within (matches p) (outside chosen) i st.routes)
      (removed-consistent (matches p) i (first (matches p) st.routes) st)
    where
      matches-outside : Implies (matches p) (outside chosen)
      matches-outside r h =
          unchosen_as chosen (table p) (table r) o
          (test-case (eqb (table r) (table p)) (λ e. e) (λ e. absurd (false≢true (unfold matches in rw e at h))))
