-- Whether `up` changes the state, from its events and from the tables; and `down`, from the routes.
-- Assumes nothing.
use Rattle.std.specs.Prelude.{ℕ, suc, ◌≤◌, ◌≡◌, refl, Bool, true, false, not, ◌&&◌, ◌||◌, List, [], ◌∷◌, eqb, ltb, length}
use Rattle.std.proofs.Common.{ap, ◌∙◌, arith, length-append, ltb-true, ltb-false}
use Rattle.std.proofs.Math.Option.{Option, none, some}
use Rattle.lists.specs.Lists.{Row, keep, first}
use Rattle.lists.specs.Bools.{test-case, cond-case}
use Rattle.lists.specs.Count.{length-keep, count_most}
use Rattle.layout.specs.Route.{before, table}
use Rattle.layout.specs.Event.{new_addr4}
use Rattle.definition.specs.State.{State, Out, becomes, stays, also, through, with_addresses}
use Rattle.definition.specs.Reference.Insert.{create4, insert4, Inserted, placed, nothing, inserted, kernel_add4}
use Rattle.definition.specs.Reference.Addresses.{goes, candidates, install, place4, new_address, added_over, add_v4, same_address, loopback, out_of, up, down, host_scope}
use Rattle.definition.specs.Preservation.Growing.{up-adds}
use Rattle.definition_parts.proofs.Altered.Says.{Says, create-same, create-longer, events_or_tables, nothing-emitted, grown}
use Rattle.layout.specs.Route as Route

-- ---- steps that list tables without a word, and emit events of all else
pub record Quiet (st : State) (o : Out) : Type 0 where
  pub longer : length st.tables ≤ length o.state.tables
  pub still : length o.emitted ≡ 0 → length o.state.tables ≡ length st.tables → o.state ≡ st

stays-quiet : (st : State) → Quiet st (stays st)
stays-quiet st = record { longer = omega arith; still = λ t n. refl }

also-quiet : (st : State) (o : Out) (g : State → Out) → Quiet st o → ((s : State) → Quiet s (g s)) → Quiet st (also o g)
unfolding also
also-quiet st o g h k =
    let later = k o.state in
    record {
      longer = omega (arith, h.longer, later.longer);
      still = λ t n.
          let a = length-append o.emitted (g o.state).emitted in
          let one = h.still (omega arith) (omega (arith, h.longer, later.longer)) in
          let m : length o.state.tables ≡ length st.tables = ap (λ (s : State). length s.tables) one in
          later.still (omega arith) (omega arith) ∙ one;
    }

through-quiet : {A : Type 0} (f : A → State → Out) (l : List A) → ((x : A) (s : State) → Quiet s (f x s)) → (st : State) → Quiet st (through f l st)
unfolding through
through-quiet f [] g st = stays-quiet st
through-quiet f (x ∷ l) g st = also-quiet st (f x st) (through f l) (g x st) (λ s. through-quiet f l g s)

inserted-quiet : (new : Row) (i : Inserted) (t : ℕ) (st : State) → Quiet st (inserted new i (create4 t st))
inserted-quiet new (placed m f) t st = record { longer = create-longer t st; still = λ z n. absurd (omega arith) }
inserted-quiet new nothing t st = record { longer = create-longer t st; still = λ z n. create-same t st n }
inserted-quiet new (Inserted.unplaced k) t st = record { longer = create-longer t st; still = λ z n. create-same t st n }

kernel_add4-quiet : (new : Row) (st : State) → Quiet st (kernel_add4 new st)
unfolding kernel_add4
kernel_add4-quiet new st = inserted-quiet new (insert4 new 0xc00 (create4 (table new) st).routes) (table new) st

install-quiet : (l : List Row) (st : State) → Quiet st (install l st)
unfolding install
install-quiet l st = through-quiet kernel_add4 l kernel_add4-quiet st

-- what emits something
pub loud : (st : State) (o : Out) → length st.tables ≤ length o.state.tables → 1 ≤ length o.emitted → Quiet st o
loud st o h k = record { longer = h; still = λ z n. absurd (omega arith) }

new_address-quiet : (new : Row) (up : Bool) (st : State) → Quiet st (new_address new up st)
unfolding new_address
new_address-quiet new up st =
    also-quiet st (becomes (with_addresses (place4 new st.addresses) st) (new_addr4 new ∷ [])) (install (candidates (place4 new st.addresses) up new))
    (loud st _ (omega arith) (omega arith))
    (install-quiet (candidates (place4 new st.addresses) up new))

added-quiet : (now : ℕ) (o : Option Row) (st : State) → Quiet st (out_of (added_over loopback now o st))
added-quiet now (some old) st = stays-quiet st
added-quiet now none st = new_address-quiet _ _ st

up-quiet : (now : ℕ) (st : State) → Quiet st (up now st)
unfolding up add_v4
up-quiet now st =
    also-quiet st (out_of (added_over loopback now (first (same_address loopback) st.addresses) st))
    (λ later. through (λ a. install (candidates later.addresses true a)) later.addresses later)
    (added-quiet now (first (same_address loopback) st.addresses) st)
    (λ s. through-quiet (λ a. install (candidates s.addresses true a)) s.addresses (λ a t. install-quiet (candidates s.addresses true a) t) s)

says-either : (before after : State) (a b : Bool) → (a ≡ true → after ≡ before → ⊥) → (b ≡ true → after ≡ before → ⊥)
    → (a ≡ false → b ≡ false → after ≡ before) → Says before after (a || b)
says-either before after true b f g h = f refl
says-either before after false true f g h = g refl
says-either before after false false f g h = h refl refl

pub up-says : (now : ℕ) (st : State) → Says st (up now st).state (events_or_tables st (goes (up now st)))
up-says now st =
    let o : Out = up now st in
    says-either st o.state (ltb 0 (length o.emitted)) (ltb (length st.tables) (length o.state.tables))
    (λ h e.
    let r : length o.state.routes ≡ length st.routes = ap (λ (s : State). length s.routes) e in
    let a : length o.state.addresses ≡ length st.addresses = ap (λ (s : State). length s.addresses) e in
    omega (arith, ltb-true 0 (length o.emitted) h, (up-adds now st).grown))
    (λ h. grown st o.state h)
    (λ h k.
    let q = up-quiet now st in
    q.still (nothing-emitted o.emitted h) (omega (arith, q.longer, ltb-false (length st.tables) (length o.state.tables) k)))

-- ---- down: fewer routes
keep-all : (p : Row → Bool) (l : List Row) → length l ≤ length (keep p l) → keep p l ≡ l
keep-all p [] h = refl
keep-all p (x ∷ l) h =
    cond-case (λ (m : List Row). suc (length l) ≤ length m → m ≡ x ∷ l) (p x)
    (λ e k. ap (λ (m : List Row). x ∷ m) (keep-all p l (omega arith)))
    (λ e k. absurd (omega (arith, length-keep p l, count_most p l)))
    h

pub down-says : (st : State) → Says st (down st).state (ltb (length (down st).state.routes) (length st.routes))
unfolding down
down-says st =
    let p : Row → Bool = λ r. not (eqb (Route.device r) 1 && not (eqb (Route.scope r) host_scope)) in
    test-case (ltb (length (keep p st.routes)) (length st.routes))
    (λ h. rw h (λ e. omega (arith, ltb-true (length (keep p st.routes)) (length st.routes) h, ap (λ (s : State). length s.routes) e)))
    (λ h.
    let same = keep-all p st.routes (omega (arith, ltb-false (length (keep p st.routes)) (length st.routes) h)) in
    rw h (λ i. record { addresses = st.addresses; routes = same i; tables = st.tables }))
