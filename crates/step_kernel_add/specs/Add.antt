-- One of the kernel's routes added: what comes of it, by what came of the insertion.
-- Assumes nothing.
use Rattle.std.specs.Prelude.{ℕ, ◌<◌, ◌≡◌, refl, Bool, true, false, ◌&&◌, List, [], ◌∷◌, leb, length, Some, Ok, Err}
use Rattle.std.proofs.Common.{sym, ◌∙◌}
use Rattle.std.proofs.lemmas.Bool.{lt-leb}
use Rattle.lists.specs.Lists.{Row, put}
use Rattle.lists.specs.Bools.{test-case}
use Rattle.layout.specs.Route.{table}
use Rattle.layout.specs.Event.{new_route4}
use Rattle.definition.specs.State.{State, sizes, with_routes}
use Rattle.definition.specs.Words.{decode, within, fit_state, address_count}
use Rattle.definition.specs.Reference.Insert as Insert
use Rattle.definition.specs.Reference.Insert.{list_table, create4, insert4, inserted, kernel_add4}
use Rattle.definition.specs.Reference.Addresses.{goes}
use Rattle.definition.specs.Preservation.Fit.{fit-state, state-fit}
use Rattle.definition.specs.Preservation.Addresses.{create4-fit}
use Rattle.state.specs.Represents.{Represents, count-addresses, holds-within}
use Rattle.state.specs.Change.{tables-at}
use Rattle.state.specs.Stored.{Becomes, represented}
use Rattle.state.specs.declared.stored.StoredMut.{StoredMut}
use Rattle.state_tables.specs.Listed.{tables_of}
use Rattle.refusal.specs.declared.Refusal.TheVariants.{Full}
use Rattle.step_insert.specs.Plan.{Inserted, answer_of, rows_after, InsertedInto}
use Rattle.step_events.specs.Row.{new_route-long}
use Rattle.step_events.specs.Tells.{Tells}
use Rattle.step_events.specs.Emits.{does-one}
use Rattle.step_events.specs.Comes.{Comes, goes-made, comes-full, adds-quiet}
use Rattle.step_events.specs.Through.{Covered}
use Rattle.step_events.specs.declared.change.Change.{Change}

-- a list past its limit
tables-pass : (a b c : Bool) → c ≡ false → (a && b && c) ≡ false
tables-pass true true c h = h
tables-pass true false c h = refl
tables-pass false b c h = refl

routes-pass : (a b c : Bool) → b ≡ false → (a && b && c) ≡ false
routes-pass true b c h = rw h
routes-pass false b c h = refl

pub created-fit : (t : ℕ) (st : State) → fit_state st ≡ true → fit_state (create4 t st) ≡ true
created-fit t st h = state-fit (create4 t st) (create4-fit t st (fit-state st h))

-- a table listed leaves the addresses
pub created-count : (t : ℕ) {a b : StoredMut} → Becomes (create4 t) a b → address_count b.words.now ≡ address_count a.words.now
unfolding create4
created-count t {a} k = let h = represented a.holds in count-addresses (k.holds (decode a.words.now) h) ∙ sym (count-addresses h)

-- ---- by what came of the insertion into the state with the table listed
module _ (new : Row) (made : State) where
  after-put : (i : Insert.Inserted) (flags : ℕ) {a b : Change} → Ok (Some flags) ≡ answer_of i → Represents b.state.words.now (with_routes (rows_after i made.routes) made)
      → length new ≡ 32 → Tells (new_route4 new flags ∷ []) a b → Comes (goes (inserted new i made)) a b (Ok tt)
  after-put (Insert.placed rows emitted) flags {a} {b} e h n t =
      test-case (leb (length rows) 256)
      (λ f.
      let same : ◌≡◌ {A = Inserted} (Ok (Some flags)) (Ok (Some emitted)) = rw f at e in
      let is : flags ≡ emitted = cc in
      let k : Represents b.state.words.now (with_routes rows made) = rw f at h in
      goes-made (holds-within k) (does-one (with_routes rows made) (new_route4 new emitted) k (new_route-long new emitted n) (rw is at t)))
      (λ f. let same : ◌≡◌ {A = Inserted} (Ok (Some flags)) (Err Full) = rw f at e in cc)
  after-put Insert.nothing flags e h n t = cc
  after-put (Insert.unplaced k) flags e h n t = cc

  -- nothing was put in, and no list was full
  after_none : (i : Insert.Inserted) (r : Inserted) {a b : Change} → r ≡ answer_of i → ((flags : ℕ) → r ≡ Ok (Some flags) → ⊥) → (r ≡ Err Full → ⊥)
      → Represents b.state.words.now (with_routes (rows_after i made.routes) made) → Tells [] a b → Comes (goes (inserted new i made)) a b (Ok tt)
  after_none (Insert.placed rows emitted) r e put full h t =
      test-case (leb (length rows) 256)
      (λ f. absurd (put emitted (rw f at e)))
      (λ f. absurd (full (rw f at e)))
  after_none Insert.nothing r e put full h t = adds-quiet made h t
  after_none (Insert.unplaced k) r e put full h t = adds-quiet made h t

  after-full : (i : Insert.Inserted) {a b : Change} → Err Full ≡ answer_of i → Comes (goes (inserted new i made)) a b (Err Full)
  after-full (Insert.placed rows emitted) e =
      test-case (leb (length rows) 256)
      (λ f. let same : ◌≡◌ {A = Inserted} (Err Full) (Ok (Some emitted)) = rw f at e in cc)
      (λ f. comes-full (routes-pass (leb (length made.addresses) 64) (leb (length rows) 256) (leb (length made.tables) 32) f))
  after-full Insert.nothing e = cc
  after-full (Insert.unplaced k) e = cc

  tables-full : (i : Insert.Inserted) {a b : Change} → 32 < length made.tables → Comes (goes (inserted new i made)) a b (Err Full)
  tables-full (Insert.placed rows emitted) h =
      comes-full (tables-pass (leb (length made.addresses) 64) (leb (length rows) 256) (leb (length made.tables) 32) (lt-leb (length made.tables) 32 h))
  tables-full Insert.nothing h =
      comes-full (tables-pass (leb (length made.addresses) 64) (leb (length made.routes) 256) (leb (length made.tables) 32) (lt-leb (length made.tables) 32 h))
  tables-full (Insert.unplaced n) h =
      comes-full (tables-pass (leb (length made.addresses) 64) (leb (length made.routes) 256) (leb (length made.tables) 32) (lt-leb (length made.tables) 32 h))

-- ---- the whole
module _ (new : Row) (st : State) {a b : Change} where
  pub add_full_tables : {w : List ℕ} → Represents w st → 32 < length (list_table (table new) (tables_of w)) → Comes (goes (kernel_add4 new st)) a b (Err Full)
  unfolding kernel_add4 create4
  add_full_tables {w} h n =
      tables-full new (create4 (table new) st) (insert4 new 0xc00 st.routes) (rw (tables-at h) at n)

  module _ {w : List ℕ} {r : Inserted} (i : InsertedInto new 0xc00 (create4 (table new) st) w r) where
    pub add_put : (flags : ℕ) → r ≡ Ok (Some flags) → w ≡ b.state.words.now → length new ≡ 32 → Tells (new_route4 new flags ∷ []) a b → Comes (goes (kernel_add4 new st)) a b (Ok tt)
    unfolding kernel_add4
    add_put flags e f n t =
        after-put new (create4 (table new) st) (insert4 new 0xc00 (create4 (table new) st).routes) flags (sym e ∙ i.answer) (rw f at i.holds) n t

    pub add_full : r ≡ Err Full → Comes (goes (kernel_add4 new st)) a b (Err Full)
    unfolding kernel_add4
    add_full e = after-full new (create4 (table new) st) (insert4 new 0xc00 (create4 (table new) st).routes) (sym e ∙ i.answer)

    pub add_none : ((flags : ℕ) → r ≡ Ok (Some flags) → ⊥) → (r ≡ Err Full → ⊥) → w ≡ b.state.words.now → Tells [] a b → Comes (goes (kernel_add4 new st)) a b (Ok tt)
    unfolding kernel_add4
    add_none put full f t =
        after_none new (create4 (table new) st) (insert4 new 0xc00 (create4 (table new) st).routes) r i.answer put full (rw f at i.holds) t

-- what it leaves is what it counts
pub kernel_add4-covered : Covered kernel_add4
unfolding kernel_add4
kernel_add4-covered =
    record { covers = λ new st h. go new (insert4 new 0xc00 (create4 (table new) st).routes) (create4 (table new) st) h }
  where
    go : (new : Row) (i : Insert.Inserted) (made : State) → within (inserted new i made).peak ≡ true → within (sizes (inserted new i made).state) ≡ true
    go new (Insert.placed rows emitted) made h = h
    go new Insert.nothing made h = h
    go new (Insert.unplaced n) made h = h
