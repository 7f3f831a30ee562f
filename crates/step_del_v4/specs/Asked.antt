-- The first address that meets a request's conditions goes.
-- Assumes nothing.
use Rattle.std.specs.Prelude.{◌≡◌, Bool, true, false, cond, ◌||◌, Ok, Err, Some, None, List, [], ◌∷◌}
use Rattle.std.specs.List.{find}
use Rattle.lists.specs.Lists.{Row, any, eq_row}
use Rattle.lists.specs.Bools.{or_right}
use Rattle.lists.specs.All.{eq_row-refl}
use Rattle.lists.specs.Library.{first_find}
use Rattle.definition.specs.State.{State, sizes}
use Rattle.definition.specs.Reference.Removal.{deletes, del_v4, remove_v4}
use Rattle.definition.specs.Preservation.Shrinking.{potential}
use Rattle.definition.proofs.Preservation.Peaks.{remove_v4-under}
use Rattle.definition.proofs.Preservation.Step.{covered}
use Rattle.step_events.specs.EmitsWithin.{RoomFor, EmitsWithin}
use Rattle.state.specs.Represents.{holds-within}
use Rattle.step_events.specs.Comes.{ComesWhole, goes-made, refused-made, whole-made}
use Rattle.step_events.specs.declared.change.Change.{Change}
use Rattle.refusal.specs.declared.Refusal.TheVariants.{Errno}

-- the first that passes is one of them
found-there : (p : Row → Bool) (l : List Row) (r : Row) → find p l ≡ Some r → any (eq_row r) l ≡ true
found-there p [] r h = cc
found-there p (x ∷ l) r h = go (p x) (found-there p l r) h
  where
    go : (b : Bool) → (find p l ≡ Some r → any (eq_row r) l ≡ true) → cond b (Some x) (find p l) ≡ Some r → (eq_row r x || any (eq_row r) l) ≡ true
    go true t e = let same : x ≡ r = cc in rw (same, eq_row-refl r)
    go false t e = or_right (eq_row r x) (any (eq_row r) l) (t e)

module _ (q : Row) {st : State} {a : Change} (f : RoomFor potential st a) where
  pub deleted_none : find (deletes q) st.addresses ≡ None → ComesWhole st (del_v4 q st) a a (Err (Errno 99))
  unfolding del_v4
  deleted_none e =
      rw (first_find (deletes q) st.addresses, e) (whole-made st (holds-within f.holds) (refused-made 99 f.holds))

  pub deleted_there : (r : Row) → find (deletes q) st.addresses ≡ Some r → any (eq_row r) st.addresses ≡ true
  deleted_there r e = found-there (deletes q) st.addresses r e

  pub deleted_rows : (r : Row) → find (deletes q) st.addresses ≡ Some r → {b : Change} → EmitsWithin potential st (remove_v4 r st) a b → ComesWhole st (del_v4 q st) a b (Ok tt)
  unfolding del_v4
  deleted_rows r e t =
      let room = covered (remove_v4 r st).peak (sizes st) (remove_v4-under r st).ever (holds-within f.holds) in
      rw (first_find (deletes q) st.addresses, e) (whole-made st room (goes-made room t.emits))
