-- How many rows a removing step emits: no more than the routes and addresses shrink, an address counting twice until it is deprecated,
-- and the last one once more, for the event of what goes with it.
-- Assumes nothing.
use Rattle.std.specs.Prelude.{ℕ, zero, suc, min, ◌+◌, ◌-◌, ◌*◌, ◌/◌, ◌%◌, ◌^◌, ◌≤◌, ◌≡◌, refl, Bool, true, cond, not, ◌&&◌, List, [], ◌∷◌, ◌++◌, map, eqb, length}
use Rattle.std.proofs.Common.{sym, ap, ◌∙◌, arith, length-append, get_or-set_same, eqb-true, eq-eqb}
use Rattle.std.proofs.Math.Option.{Option, none, some}
use Rattle.std.proofs.lemmas.List.{length-map}
use Rattle.lists.specs.Lists.{Row, any, keep, first, until, onward, remove_first, eq_row}
use Rattle.lists.specs.Bools.{and_iff, cond-case, test-case}
use Rattle.lists.specs.All.{all_first, all-until}
use Rattle.lists.specs.Count.{any-back, onward-first, tick, tick-one, tick-none, tick-most, count, length-keep, count_most, count_append, count-remove_first, length-remove_first, first_any, until-onward, count_map, Within, within_first, within-rest, within-one, within-keep}
use Rattle.layout.specs.Flags.{has_bit, set_bit, clear_bit}
use Rattle.layout.specs.Address.{fit_address, deprecated, secondary, local, flags}
use Rattle.layout.specs.Route as Route
use Rattle.layout.specs.Event.{new_addr4, del_addr4}
use Rattle.definition.specs.State.{State, Out, becomes, stays, also, through, with_addresses}
use Rattle.definition.specs.Reference.Lookup.{main_table, local_kind, listed, local4}
use Rattle.definition.specs.Reference.Insert.{kernel_del4, matches, removed}
use Rattle.definition.specs.Reference.Addresses.{same_subnet}
use Rattle.definition.specs.Reference.Removal.{of_kind, unwanted, dependent_on, fall, disable, remove_one, gone_with, remove_v4, due, deprecates, deprecate, deprecate_due, passes, expire}
use Rattle.definition.specs.Preservation.Fit.{Invariant, length-address}
use Rattle.definition.specs.Preservation.Keeps.{also_kept}
use Rattle.definition.specs.Preservation.Removal.{option_case, deprecate_due_keeps, remove_v4_keeps}

-- ---- steps that only take routes away
pub record Away (st : State) (o : Out) : Type 0 where
  pub same_addresses : o.state.addresses ≡ st.addresses
  pub shrunk : length o.emitted + length o.state.routes ≤ length st.routes

pub stays_away : (st : State) → Away st (stays st)
stays_away st = record { same_addresses = refl; shrunk = omega arith }

pub also_away : (st : State) (o : Out) (g : State → Out) → Away st o → ((s : State) → Away s (g s)) → Away st (also o g)
unfolding also
also_away st o g h k =
    let later = k o.state in
    record {
      same_addresses = later.same_addresses ∙ h.same_addresses;
      shrunk = omega (arith, h.shrunk, later.shrunk, length-append o.emitted (g o.state).emitted);
    }

pub through_away : {A : Type 0} (f : A → State → Out) (l : List A) → ((x : A) (s : State) → Away s (f x s)) → (st : State) → Away st (through f l st)
unfolding through
through_away f [] g st = stays_away st
through_away f (x ∷ l) g st = also_away st (f x st) (through f l) (g x st) (λ s. through_away f l g s)

removed_away : (p : Row → Bool) (o : Option Row) (st : State) → ((r : Row) → o ≡ some r → any p st.routes ≡ true) → Away st (removed p o st)
removed_away p none st h = stays_away st
removed_away p (some r) st h =
    record { same_addresses = refl; shrunk = omega (arith, length-remove_first p st.routes (h r refl)) }

pub kernel_del4_away : (p : Row) (st : State) → Away st (kernel_del4 p st)
unfolding kernel_del4
kernel_del4_away p st = removed_away (matches p) (first (matches p) st.routes) st (λ r e. first_any (matches p) st.routes r e)

pub fall_away : (a : Row) (routes : List Row) (st : State) → Away st (fall a routes st)
unfolding fall
fall_away a routes st =
    cond-case (Away st) (any (λ r. of_kind local_kind r && eqb (Route.len r) 32) routes && not (local4 st (local a)))
    (λ e. through_away kernel_del4 (cond (listed main_table st) (keep (dependent_on (local a)) st.routes) []) kernel_del4_away st)
    (λ e. stays_away st)

-- the event of what goes with the last address is emitted only where none is left
pub record Disables (st : State) (o : Out) : Type 0 where
  pub same_addresses : o.state.addresses ≡ st.addresses
  pub shrunk : length o.emitted + length o.state.routes + min 1 (length st.addresses) ≤ suc (length st.routes)

pub disable_disables : (st : State) → Disables st (disable st)
unfolding disable
disable_disables st =
    let goes : Row → Bool = λ r. not (eqb (Route.device r) 1) in
    cond-case (Disables st) (eqb (length st.addresses) 0)
    (λ e. record { same_addresses = refl; shrunk = omega (arith, eqb-true (length st.addresses) 0 e, length-keep goes st.routes, count_most goes st.routes) })
    (λ e. record { same_addresses = refl; shrunk = omega arith })

-- ---- steps that take addresses away or mark them
-- not marked as deprecated
abbrev pub live : Row → Bool
live a = not (deprecated a)

abbrev pub potential : State → ℕ
potential st = length st.routes + (length st.addresses + count live st.addresses) + min 1 (length st.addresses)

pub record Drops (st : State) (o : Out) : Type 0 where
  pub lighter : length o.emitted + potential o.state ≤ potential st

pub also_drops : (st : State) (o : Out) (g : State → Out) → Drops st o → Drops o.state (g o.state) → Drops st (also o g)
unfolding also
also_drops st o g h k =
    record { lighter = omega (arith, h.lighter, k.lighter, length-append o.emitted (g o.state).emitted) }

-- what one removal leaves of the addresses, and that it drops as many as it emits
pub record RemovesOne (a : Row) (st : State) (o : Out) : Type 0 where
  pub rest : o.state.addresses ≡ remove_first (eq_row a) st.addresses
  pub shrunk : length o.emitted + length o.state.routes ≤ suc (length st.routes)

also_removes : (a : Row) (st : State) (o : Out) (g : State → Out) → RemovesOne a st o → ((s : State) → Away s (g s)) → RemovesOne a st (also o g)
unfolding also
also_removes a st o g h k =
    let later = k o.state in
    record {
      rest = later.same_addresses ∙ h.rest;
      shrunk = omega (arith, h.shrunk, later.shrunk, length-append o.emitted (g o.state).emitted);
    }

-- the whole removal, with what goes with the last address
pub record Removes (a : Row) (st : State) (o : Out) : Type 0 where
  pub rest : o.state.addresses ≡ remove_first (eq_row a) st.addresses
  pub shrunk : length o.emitted + length o.state.routes + min 1 (length o.state.addresses) ≤ suc (suc (length st.routes))

then_disabled : (a : Row) (st : State) (o : Out) → RemovesOne a st o → Removes a st (also o disable)
unfolding also
then_disabled a st o h =
    let later = disable_disables o.state in
    let n : length (disable o.state).state.addresses ≡ length o.state.addresses = ap length later.same_addresses in
    record {
      rest = later.same_addresses ∙ h.rest;
      shrunk = omega (arith, h.shrunk, later.shrunk, length-append o.emitted (disable o.state).emitted);
    }

pub remove_one_removes : (a : Row) (st : State) → Removes a st (remove_one a st)
unfolding remove_one
remove_one_removes a st =
    let remaining : List Row = remove_first (eq_row a) st.addresses in
    let routes : List Row = unwanted st.addresses remaining a in
    then_disabled a st _
    (also_removes a st _ (fall a routes)
    (also_removes a st (becomes (with_addresses remaining st) (del_addr4 a ∷ [])) (through kernel_del4 routes)
    (record { rest = refl; shrunk = omega arith }) (through_away kernel_del4 routes kernel_del4_away))
    (fall_away a routes))

-- an address that is there
pub removes_drops : (a : Row) (st : State) (o : Out) → any (eq_row a) st.addresses ≡ true → Removes a st o → Drops st o
removes_drops a st o h r =
    let n : length o.state.addresses ≡ length (remove_first (eq_row a) st.addresses) = ap length r.rest in
    let c : count live o.state.addresses ≡ count live (remove_first (eq_row a) st.addresses) = ap (count live) r.rest in
    record {
      lighter = omega (arith, r.shrunk, length-remove_first (eq_row a) st.addresses h, count-remove_first live (eq_row a) st.addresses);
    }

-- several that are there
pub through_drops : (gone : List Row) (st : State) → Within gone st.addresses → Drops st (through remove_one gone st)
unfolding through
through_drops [] st w = record { lighter = omega arith }
through_drops (a ∷ gone) st w =
    let r = remove_one_removes a st in
    also_drops st (remove_one a st) (through remove_one gone)
    (removes_drops a st (remove_one a st) (within_first a gone st.addresses w) r)
    (through_drops gone (remove_one a st).state (rw r.rest (within-rest a gone st.addresses w)))

pub gone_with-within : (l : List Row) (a : Row) → any (eq_row a) l ≡ true → Within (gone_with l a) l
unfolding gone_with
gone_with-within l a h =
    cond-case (λ (gone : List Row). Within gone l) (secondary a) (λ e. within-one a l h)
    (λ e. within-keep (λ b. secondary b && same_subnet a b) a l (ap (λ (x : Bool). x && same_subnet a a) e) h)

pub remove_v4_drops : (a : Row) (st : State) → any (eq_row a) st.addresses ≡ true → Drops st (remove_v4 a st)
unfolding remove_v4
remove_v4_drops a st h = through_drops (gone_with st.addresses a) st (gone_with-within st.addresses a h)

-- ---- expire
set-bit : (f : ℕ) → has_bit 5 (set_bit 5 f) ≡ true
unfolding has_bit set_bit clear_bit
set-bit f = eq-eqb ((f - f / 2 ^ 5 % 2 * 2 ^ 5 + 2 ^ 5) / 2 ^ 5 % 2) 1 (omega arith)

-- a row that is marked
pub deprecate-marked : (a : Row) → fit_address a ≡ true → deprecated (deprecate a) ≡ true
unfolding deprecate
deprecate-marked a h =
    ap (has_bit 5) (get_or-set_same a 6 _ 0 (omega (arith, length-address a h))) ∙ set-bit (flags a)

deprecates-live : (allowance now : ℕ) (a : Row) → deprecates allowance now a ≡ true → live a ≡ true
unfolding deprecates
deprecates-live allowance now a h = (simp and_iff at h).0.1

-- what is emitted is no longer live
mark-counts : (allowance now : ℕ) (a : Row) → fit_address a ≡ true
    → tick (live (cond (deprecates allowance now a) (deprecate a) a)) + tick (deprecates allowance now a) ≤ tick (live a)
mark-counts allowance now a h =
    test-case (deprecates allowance now a)
    (λ e.
    let marked : tick (live (cond (deprecates allowance now a) (deprecate a) a)) ≡ 0 =
    ap (λ (b : Bool). tick (live (cond b (deprecate a) a))) e ∙ tick-none (live (deprecate a)) (ap not (deprecate-marked a h))
    in
    omega (arith, tick-one (live a) (deprecates-live allowance now a e), tick-most (deprecates allowance now a)))
    (λ e.
    let left : tick (live (cond (deprecates allowance now a) (deprecate a) a)) ≡ tick (live a) =
    ap (λ (b : Bool). tick (live (cond b (deprecate a) a))) e
    in
    omega (arith, tick-none (deprecates allowance now a) e))

pub deprecate_due_drops : (allowance now : ℕ) (st : State) → Invariant st → Drops st (deprecate_due allowance now st)
unfolding deprecate_due
deprecate_due_drops allowance now st f =
    let spared : List Row = until (due allowance now) st.addresses in
    let behind : List Row = onward (due allowance now) st.addresses in
    let mark : Row → Row = λ a. cond (deprecates allowance now a) (deprecate a) a in
    let whole : spared ++ behind ≡ st.addresses = until-onward (due allowance now) st.addresses in
    let n : length spared + length behind ≡ length st.addresses = sym (length-append spared behind) ∙ ap length whole in
    let c : count live spared + count live behind ≡ count live st.addresses = sym (count_append live spared behind) ∙ ap (count live) whole in
    let marks : count live (map mark spared) + count (deprecates allowance now) spared ≤ count live spared =
    count_map fit_address (deprecates allowance now) live live mark spared (mark-counts allowance now) (all-until fit_address (due allowance now) st.addresses f.of_addresses)
    in
    let emitted : length (map (λ a. new_addr4 (deprecate a)) (keep (deprecates allowance now) spared)) ≡ count (deprecates allowance now) spared =
    length-map (keep (deprecates allowance now) spared) (λ a. new_addr4 (deprecate a)) ∙ length-keep (deprecates allowance now) spared
    in
    record { lighter = omega (arith, length-append (map mark spared) behind, length-map spared mark, count_append live (map mark spared) behind) }

-- the first address that is due is still there when those before it are marked
deprecate-there : (allowance now : ℕ) (a : Row) (st : State) → first (due allowance now) st.addresses ≡ some a
    → any (eq_row a) (deprecate_due allowance now st).state.addresses ≡ true
unfolding deprecate_due
deprecate-there allowance now a st e =
    any-back (eq_row a) (map (λ a. cond (deprecates allowance now a) (deprecate a) a) (until (due allowance now) st.addresses)) (onward (due allowance now) st.addresses)
    (onward-first (due allowance now) st.addresses a e)

pub passes_drops : (n allowance now : ℕ) (st : State) → Invariant st → Drops st (passes n allowance now st)
unfolding passes
passes_drops zero allowance now st f = deprecate_due_drops allowance now st f
passes_drops (suc n) allowance now st f =
    option_case (Drops st) (first (due allowance now) st.addresses) (deprecate_due allowance now st)
    (λ a. also (also (deprecate_due allowance now st) (remove_v4 a)) (passes n allowance now))
    (deprecate_due_drops allowance now st f)
    (λ a e.
    let fit : fit_address a ≡ true = all_first fit_address (due allowance now) st.addresses a f.of_addresses e in
    let marked = (deprecate_due_keeps allowance now).kept st f in
    let gone = also_kept (deprecate_due allowance now st) (remove_v4 a) marked (remove_v4_keeps a fit) in
    also_drops st (also (deprecate_due allowance now st) (remove_v4 a)) (passes n allowance now)
    (also_drops st (deprecate_due allowance now st) (remove_v4 a) (deprecate_due_drops allowance now st f)
    (remove_v4_drops a (deprecate_due allowance now st).state (deprecate-there allowance now a st e)))
    (passes_drops n allowance now (also (deprecate_due allowance now st) (remove_v4 a)).state gone.fit))

pub expire_drops : (allowance now : ℕ) (st : State) → Invariant st → Drops st (expire allowance now st)
unfolding expire
expire_drops allowance now st f = passes_drops (length st.addresses) allowance now st f
