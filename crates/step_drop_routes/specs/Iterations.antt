-- The steps of what goes with an address, as the code makes them.
-- Assumes nothing.
use Rattle.std.specs.Prelude.{ℕ, ◌+◌, ◌*◌, ◌≤◌, ◌<◌, ◌≡◌, refl, Bool, true, false, cond, not, ◌&&◌, List, [], ◌∷◌, length, get_or}
use Rattle.std.proofs.Common.{ap, subst, arith, ◌∙◌, eq-eqb, ne_eqb}
use Rattle.lists.specs.Lists.{Row, any, keep}
use Rattle.lists.specs.Bools.{cond-true, cond-false, cond-case, test-case}
use Rattle.lists.specs.Keep.{keep-nothing}
use Rattle.lists.specs.Count.{count}
use Rattle.layout.specs.Event.{link_down, ip_disabled}
use Rattle.definition.specs.State.{State, Out, stays, also, through}
use Rattle.definition.specs.Reference.Lookup.{main_table, listed, local4}
use Rattle.definition.specs.Reference.Insert.{kernel_del4}
use Rattle.definition.specs.Reference.Addresses.{down}
use Rattle.definition.specs.Reference.Removal.{wanted, dependent_on, deviceless, disable}
use Rattle.definition.specs.Preservation.Shrinking.{potential, live, kernel_del4_away, through_away, also_away, stays_away, Away}
use Rattle.state.specs.Represents.{Represents}
use Rattle.step_events.specs.Tells.{Tells}
use Rattle.step_events.specs.Row.{bare-long}
use Rattle.step_events.specs.Emits.{Emits, does-one, does-none, does-also}
use Rattle.step_events.specs.EmitsWithin.{RoomFor, SomeRoom, EmitsWithin, step-none}
use Rattle.step_events.specs.Iterations.{Going, like_eq, going_start, going-iteration, going_end}
use Rattle.step_events.specs.declared.change.Change.{Change}
use Rattle.step_drop_prefsrc.specs.Dependents.{dependents_go}
use Rattle.step_drop_prefsrc.specs.Delete.{step_eq}
use Rattle.step_drop_routes.specs.One.{closing, unless_wanted, from, from_start, from-iteration, from_end, loses, fall_from}

-- ---- one route
pub wanted-stays : {st : State} {a : Change} (r : Row) → RoomFor potential st a → wanted st.addresses r ≡ true → EmitsWithin potential st (unless_wanted r st) a a
unfolding unless_wanted
wanted-stays {st} r f e = step_eq (cond-true (wanted st.addresses r) (stays st) (kernel_del4 r st) e) (step-none potential f)

pub unwanted-goes : {st : State} {a b : Change} (r : Row) → wanted st.addresses r ≡ false → EmitsWithin potential st (kernel_del4 r st) a b
    → EmitsWithin potential st (unless_wanted r st) a b
unfolding unless_wanted
unwanted-goes {st} r e t = step_eq (cond-false (wanted st.addresses r) (stays st) (kernel_del4 r st) e) t

-- ---- the routes, one after the other
pub record Any (st : State) : Type 0 where

abbrev pub Leaving : State → List Row → ℕ → Change → Change → Type 0
Leaving st l j a b = Going potential st (through unless_wanted l st) (from l j) Any a b

pub leaving-start : {st : State} {a : Change} (l : List Row) → RoomFor potential st a → Leaving st l 0 a a
leaving-start {st} l f = going_start potential (from l 0) Any f (like_eq (from_start l st)) (record {})

module _ {st : State} (l : List Row) (j : ℕ) {a b : Change} (g : Leaving st l j a b) where
  pub leaving-next : j < length l → {c : Change}
      → ((m : State) → RoomFor potential m b → EmitsWithin potential m (unless_wanted (get_or l j []) m) b c) → Leaving st l (j + 1) a c
  leaving-next h t =
      going-iteration potential g (unless_wanted (get_or l j [])) (from l (j + 1)) Any (λ m h f. t m f) (λ m k w. (from-iteration l j h m, record {}))

  pub leaving-last : length l ≤ j → EmitsWithin potential st (through unless_wanted l st) a b
  leaving-last h = going_end potential g (λ m q z. from_end l j h m)

-- ---- what falls
-- where no row has the source nothing does, so that may be asked first
abbrev pub falls : ℕ → Bool → State → Bool
falls ip lost st = lost && any (dependent_on ip) st.routes && not (local4 st ip) && listed main_table st

pub fall-falls : (ip : ℕ) (lost : Bool) (st : State) → fall_from ip lost st ≡ cond (falls ip lost st) (dependents_go ip st) (stays st)
unfolding fall_from through
fall-falls ip false st = refl
fall-falls ip true st =
    test-case (any (dependent_on ip) st.routes)
    (λ e. rw e (by (local4 st ip) (listed main_table st)))
    (λ e. rw (e, keep-nothing (dependent_on ip) st.routes e) (none (local4 st ip) (listed main_table st)))
  where
    by : (b m : Bool) → cond (not b) (through kernel_del4 (cond m (keep (dependent_on ip) st.routes) []) st) (stays st) ≡ cond (not b && m) (dependents_go ip st) (stays st)
    by true m = refl
    by false true = refl
    by false false = refl

    none : (b m : Bool) → cond (not b) (through kernel_del4 (cond m [] []) st) (stays st) ≡ stays st
    none true m = refl
    none false true = refl
    none false false = refl

module _ {st : State} (ip : ℕ) (lost : Bool) {a : Change} where
  pub fall-none : falls ip lost st ≡ false → RoomFor potential st a → EmitsWithin potential st (fall_from ip lost st) a a
  fall-none e f = step_eq (fall-falls ip lost st ∙ cond-false (falls ip lost st) (dependents_go ip st) (stays st) e) (step-none potential f)

  pub fall-goes : falls ip lost st ≡ true → {b : Change} → EmitsWithin potential st (dependents_go ip st) a b → EmitsWithin potential st (fall_from ip lost st) a b
  fall-goes e t = step_eq (fall-falls ip lost st ∙ cond-true (falls ip lost st) (dependents_go ip st) (stays st) e) t

-- ---- what goes with the last address
pub room_left : {st : State} {a : Change} → RoomFor closing st a → RoomFor potential st a
room_left f = record { holds = f.holds; room = omega (arith, f.room) }

module _ (st : State) {a : Change} where
  pub last-goes : length st.addresses ≡ 0 → {b : Change} → Represents b.state.words.now (deviceless st) → Tells (ip_disabled ∷ []) a b → Emits (disable st) a b
  unfolding disable
  last-goes e h t = rw (eq-eqb (length st.addresses) 0 e) (does-one (deviceless st) ip_disabled h (bare-long 6) t)

  pub others-stay : (length st.addresses ≡ 0 → ⊥) → Represents a.state.words.now st → Emits (disable st) a a
  unfolding disable
  others-stay e h = rw (ne_eqb (length st.addresses) 0 e) (does-none st a h)

pub row-left : {a : Change} → SomeRoom closing a → 34 * (a.told + 1) ≤ length a.events.now
row-left y = omega (arith, y.fits.room)

-- ---- what goes with the device
pub down-goes : (st : State) {a b : Change} → Represents b.state.words.now (down st).state → Tells (link_down ∷ []) a b → Emits (down st) a b
unfolding down
down-goes st h t = does-one _ link_down h (bare-long 5) t

-- ---- all of it
abbrev pub routes_go : ℕ → List Row → State → Out
routes_go ip l st = also (also (through unless_wanted l st) (fall_from ip (any (loses st.addresses) l))) disable

unless_away : (r : Row) (st : State) → Away st (unless_wanted r st)
unfolding unless_wanted
unless_away r st = cond-case (Away st) (wanted st.addresses r) (λ e. stays_away st) (λ e. kernel_del4_away r st)

fall_from_away : (ip : ℕ) (lost : Bool) (st : State) → Away st (fall_from ip lost st)
unfolding fall_from
fall_from_away ip lost st =
    cond-case (Away st) (lost && not (local4 st ip))
    (λ e. through_away kernel_del4 (cond (listed main_table st) (keep (dependent_on ip) st.routes) []) kernel_del4_away st) (λ e. stays_away st)

-- the addresses are the same when it is asked what is lost
pub lost_later : (l : List Row) (st : State) → any (loses (through unless_wanted l st).state.addresses) l ≡ any (loses st.addresses) l
lost_later l st = ap (λ (m : List Row). any (loses m) l) (through_away unless_wanted l unless_away st).same_addresses

-- what is left of the room when they are gone
pub gone_room : (ip : ℕ) (l : List Row) (lost : Bool) {st : State} {a b : Change} → RoomFor closing st a
    → EmitsWithin potential st (also (through unless_wanted l st) (fall_from ip lost)) a b
    → RoomFor closing (also (through unless_wanted l st) (fall_from ip lost)).state b
gone_room ip l lost {st} f t =
    let away = also_away st (through unless_wanted l st) (fall_from ip lost) (through_away unless_wanted l unless_away st) (fall_from_away ip lost) in
    record {
      holds = t.emits.holds;
      room = omega (arith, f.room, t.emits.tells.told, t.emits.tells.long, away.shrunk, ap length away.same_addresses, ap (count live) away.same_addresses);
    }

pub routes-gone : {st : State} {a b c : Change} (ip : ℕ) (l : List Row) (lost : Bool)
    → lost ≡ any (loses (through unless_wanted l st).state.addresses) l
    → EmitsWithin potential st (also (through unless_wanted l st) (fall_from ip lost)) a b
    → Emits (disable (also (through unless_wanted l st) (fall_from ip lost)).state) b c
    → Emits (routes_go ip l st) a c
routes-gone {st} {a} {b} {c} ip l lost e t u =
    subst (λ (x : Bool). Emits (also (also (through unless_wanted l st) (fall_from ip x)) disable) a c) (e ∙ lost_later l st) (does-also t.emits disable u)
