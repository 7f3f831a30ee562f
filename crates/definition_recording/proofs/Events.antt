-- Each event that a step emits does again what the step did to the routes; steps one after the other.
-- Assumes nothing.
use Rattle.std.specs.Prelude.{ℕ, ◌≡◌, Bool, true, false, List, [], ◌∷◌, ◌++◌, leb, length, take, drop}
use Rattle.std.proofs.Math.Path.{refl}
use Rattle.std.proofs.Common.{ap, ◌∙◌, arith, take_at, drop_at}
use Rattle.std.proofs.Math.Option.{Option, some}
use Rattle.lists.specs.Lists.{Row, all, any, first, remove_first, eq_row, all_zero, zeros}
use Rattle.lists.specs.Bools.{or_left, or_right, cond-case, true-false, fails}
use Rattle.lists.specs.All.{all_head, all_tail, eq_row-true, eq_row-refl}
use Rattle.lists.specs.Rows.{all_zero-zeros}
use Rattle.layout.specs.Flags.{has_bit}
use Rattle.layout.specs.Address.{fit_address}
use Rattle.layout.specs.Route.{fit_route, alike}
use Rattle.layout.specs.Event.{new_addr4, del_addr4, new_route4, del_route4, bare, link_down, ip_disabled}
use Rattle.definition.specs.State.{State, Sizes, Out, most, stays, also, through}
use Rattle.definition.specs.Words.{within}
use Rattle.definition.specs.Reference.Insert.{insert4, Inserted, placed, nothing, unplaced, is_row, excl_flag, replace_flag, create_flag, append_flag}
use Rattle.definition.specs.Preservation.Fit.{Invariant, length-address}
use Rattle.definition.specs.Preservation.Routes.{none_equal}
use Rattle.definition.proofs.Preservation.Step.{covered}
use Rattle.definition_recording.specs.Recording.{Rebuilt, rows, refused, added_row, deleted_row, after_down, after_last, event, next, rebuild_from}

-- ---- a recording in two parts
pub rebuild_append : (a b l : List Row) → rebuild_from (a ++ b) l ≡ next (rebuild_from a l) (rebuild_from b)
unfolding rebuild_from
rebuild_append [] b l = refl
rebuild_append (e ∷ a) b l = go (event e l) (rebuild_append a b)
  where
    go : (r : Rebuilt) → ((m : List Row) → rebuild_from (a ++ b) m ≡ next (rebuild_from a m) (rebuild_from b))
        → next r (rebuild_from (a ++ b)) ≡ next (next r (rebuild_from a)) (rebuild_from b)
    go (rows m) h = h m
    go (refused n) h = refl

pub one-event : (e : Row) (l : List Row) → rebuild_from (e ∷ []) l ≡ event e l
unfolding rebuild_from
one-event e l = go (event e l)
  where
    go : (r : Rebuilt) → next r (rebuild_from []) ≡ r
    go (rows m) = refl
    go (refused n) = refl

-- ---- what a step leaves is fit, and what it emits rebuilds its routes, if it keeps to the limits
pub record Rebuilds (st : State) (o : Out) : Type 0 where
  pub fit : Invariant o.state
  pub again : within o.peak ≡ true → rebuild_from o.emitted st.routes ≡ rows o.state.routes

pub record Rebuilding (f : State → Out) : Type 0 where
  pub rebuilds : (st : State) → Invariant st → Rebuilds st (f st)

pub stays-rebuilds : (st : State) → Invariant st → Rebuilds st (stays st)
unfolding rebuild_from
stays-rebuilds st f = record { fit = f; again = λ w. refl }

within_first : (a b : Sizes) → within (most a b) ≡ true → within a ≡ true
within_first a b h = covered a (most a b) (record { of_addresses = omega arith; of_routes = omega arith; of_tables = omega arith }) h

within-second : (a b : Sizes) → within (most a b) ≡ true → within b ≡ true
within-second a b h = covered b (most a b) (record { of_addresses = omega arith; of_routes = omega arith; of_tables = omega arith }) h

pub also-rebuilds : (st : State) (o : Out) (g : State → Out) → Rebuilds st o → Rebuilding g → Rebuilds st (also o g)
unfolding also
also-rebuilds st o g h t =
    let p : Out = g o.state in
    let later = t.rebuilds o.state h.fit in
    record {
      fit = later.fit;
      again = λ w.
          rebuild_append o.emitted p.emitted st.routes
          ∙ ap (λ (r : Rebuilt). next r (rebuild_from p.emitted)) (h.again (within_first o.peak p.peak w))
          ∙ later.again (within-second o.peak p.peak w);
    }

pub through_rebuilding : {A : Type 0} (f : A → State → Out) (p : A → Bool) (l : List A) → ((x : A) → p x ≡ true → Rebuilding (f x)) → all p l ≡ true
    → Rebuilding (through f l)
unfolding through
through_rebuilding f p [] g h = record { rebuilds = stays-rebuilds }
through_rebuilding f p (x ∷ l) g h =
    record { rebuilds = λ st s. also-rebuilds st (f x st) (through f l) ((g x (all_head p x l h)).rebuilds st s) (through_rebuilding f p l g (all_tail p x l h)) }

-- ---- the event of an address, and those of many rows at once
module _ (a : Row) (fit : fit_address a ≡ true) (l : List Row) where
  front : take 20 (a ++ zeros 12) ≡ a
  front = take_at a (zeros 12) 20 (length-address a fit)

  behind-zero : all_zero (drop 20 (a ++ zeros 12)) ≡ true
  behind-zero = ap all_zero (drop_at a (zeros 12) 20 (length-address a fit)) ∙ all_zero-zeros 12

  pub new_addr4-event : event (new_addr4 a) l ≡ rows l
  unfolding event new_addr4
  new_addr4-event = rw (front, fit, behind-zero)

  pub del_addr4-event : event (del_addr4 a) l ≡ rows l
  unfolding event del_addr4
  del_addr4-event = rw (front, fit, behind-zero)

pub link_down-event : (l : List Row) → event link_down l ≡ rows (after_down l)
unfolding event bare
link_down-event l = rw (all_zero-zeros 33)

pub ip_disabled-event : (l : List Row) → event ip_disabled l ≡ rows (after_last l)
unfolding event bare
ip_disabled-event l = rw (all_zero-zeros 33)

-- ---- a route put in
module _ (new : Row) (fit : fit_route new ≡ true) (l : List Row) where
  new-event : (f : ℕ) → leb f 65535 ≡ true → event (new_route4 new f) l ≡ added_row new f l
  unfolding event new_route4
  new-event f h = rw (h, fit)

  -- the event of an insertion does it again
  abbrev pub Replays : Inserted → Type 0
  Replays (placed m f) = leb (length m) 256 ≡ true → event (new_route4 new f) l ≡ rows m
  Replays nothing = Unit
  Replays (unplaced n) = Unit

  pub insert_replays : (flags : ℕ) → Replays (insert4 new flags l)
  unfolding insert4 added_row has_bit
  insert_replays flags =
      cond-case Replays (any (alike new) l)
      (λ a. cond-case Replays (excl_flag flags) (λ b. tt)
      (λ b. cond-case Replays (replace_flag flags)
      (λ c. cond-case Replays (is_row new (first (alike new) l)) (λ d. tt)
      (λ d. cond-case Replays (any (eq_row new) l) (λ e. tt) (λ e n. new-event 0x100 refl ∙ rw (e, a))))
      (λ c. cond-case Replays (any (eq_row new) l) (λ e. tt)
      (λ e. cond-case Replays (create_flag flags)
      (λ g. cond-case Replays (append_flag flags) (λ h n. new-event 0xc00 refl ∙ rw (e, n)) (λ h n. new-event 0x400 refl ∙ rw (e, n)))
      (λ g. tt)))))
      (λ a. cond-case Replays (create_flag flags) (λ g n. new-event 0x600 refl ∙ rw (none_equal new l a, n)) (λ g. tt))

-- ---- a route taken out
first_passes : (p : Row → Bool) (l : List Row) (r : Row) → first p l ≡ some r → p r ≡ true
first_passes p [] r e = cc
first_passes p (x ∷ l) r e =
    cond-case (λ (o : Option Row). o ≡ some r → p r ≡ true) (p x) (λ h k. let s : x ≡ r = cc in rw s at h) (λ h k. first_passes p l r k) e

-- the first row that passes is the first that is equal to it
pub removes_it : (p : Row → Bool) (l : List Row) (r : Row) → first p l ≡ some r → (any (eq_row r) l ≡ true) × (remove_first p l ≡ remove_first (eq_row r) l)
removes_it p [] r e = absurd (let z : ◌≡◌ {A = ℕ} 0 1 = cc in omega arith)
removes_it p (x ∷ l) r e =
    cond-case (λ (o : Option Row). o ≡ some r → (any (eq_row r) (x ∷ l) ≡ true) × (remove_first p (x ∷ l) ≡ remove_first (eq_row r) (x ∷ l))) (p x)
    (λ h k.
    let s : eq_row r x ≡ true = let t : r ≡ x = cc in rw t (eq_row-refl x) in
    (or_left (eq_row r x) (any (eq_row r) l) s, (rw (h, s))))
    (λ h k.
    let later = removes_it p l r k in
    let s : eq_row r x ≡ false = fails (eq_row r x) (λ d. true-false (p x) (rw (eq_row-true r x d) at (first_passes p l r k)) h) in
    (or_right (eq_row r x) (any (eq_row r) l) later.0, (rw (h, s, later.1))))
    e

pub del_event : (r : Row) (l : List Row) → fit_route r ≡ true → any (eq_row r) l ≡ true → event (del_route4 r) l ≡ rows (remove_first (eq_row r) l)
unfolding event del_route4 deleted_row
del_event r l fit there = rw (fit, there)
