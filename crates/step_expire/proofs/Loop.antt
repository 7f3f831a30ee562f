-- The turns of `expire`, as the code makes them.
-- Assumes nothing.
use Rattle.std.specs.Prelude.{ℕ, ◌+◌, ◌-◌, ◌*◌, ◌≤◌, ◌<◌, ◌≡◌, refl, false, ltb, length, get_or, set}
use Rattle.std.proofs.Common.{sym, ◌∙◌, arith, lt-ltb, le-ltb, ltb-true, ltb-false}
use Rattle.std.proofs.Math.Path.{ap}
use Rattle.std.proofs.Math.Bool.{true}
use mathlib.Core.List.{[], ◌∷◌}
use Rattle.std.proofs.Math.ListN.{length-append, length-set}
use Rattle.lists.specs.Lists.{Row, any, eq_row, zeros}
use Rattle.lists.specs.Bools.{cond-true, cond-false, test-case}
use Rattle.lists.specs.All.{eq_row-refl}
use Rattle.lists.specs.At.{all-at}
use Rattle.lists.specs.Rows.{length-zeros}
use Rattle.layout.specs.Address.{fit_address}
use Rattle.layout.specs.Event.{new_addr4}
use Rattle.definition.specs.State.{State, Out, stays, also, with_addresses}
use Rattle.definition.specs.Words.{address_count}
use Rattle.definition.specs.Reference.Removal.{remove_v4, due, deprecates, deprecate, expire}
use Rattle.definition.specs.Preservation.Fit.{length-address}
use Rattle.definition.specs.Preservation.Rows.{deprecate-fit}
use Rattle.definition.specs.Preservation.Shrinking.{potential}
use Rattle.state.specs.Represents.{Represents, count-addresses}
use Rattle.step_events.specs.Tells.{Tells}
use Rattle.step_events.specs.EmitsWithin.{RoomFor, SomeRoom, EmitsWithin, step-one, step-none, step-also}
use Rattle.step_events.specs.Iterations.{like_refl, like_sym, like_trans, also_like, also_assoc, Going, going_start, going_end, going-fits}
use Rattle.step_drop_prefsrc.specs.Delete.{step_eq}
use Rattle.step_events.specs.declared.change.Change.{Change}
use Rattle.lists.specs.Front.{any_here}
use Rattle.step_expire.specs.Iteration.{expire_turn, next_place}
use Rattle.step_expire.proofs.Iterations.{Quiet, expire-iteration, expire-none, live-lighter, iteration_fewer, removed_fewer}

-- ---- where to go on
pub next-again : (i was left : ℕ) → left < was → 0 ≡ next_place i was left
next-again i was left h = sym (rw (lt-ltb left was h))

pub next-on : (i was left : ℕ) → was ≤ left → i + 1 ≡ next_place i was left
next-on i was left h = sym (rw (le-ltb left was h))

pub next-less : (i n left j : ℕ) → i < n → n ≤ 64 → left ≤ n → j ≡ next_place i n left → 66 * left - j < 66 * n - i
next-less i n left j b m l q =
    test-case (ltb left n)
    (λ e. let z : j ≡ 0 = q ∙ rw e in let h : left < n = ltb-true left n e in omega arith)
    (λ e. let z : j ≡ i + 1 = q ∙ rw e in let h : n ≤ left = ltb-false left n e in omega arith)

-- ---- the three turns
pub some-room : {a : Change} → SomeRoom potential a → (i : ℕ) → i < address_count a.state.words.now → 34 * (a.told + 1) ≤ length a.events.now
some-room y i b = omega (arith, y.fits.room, count-addresses y.fits.holds)

module _ {st : State} {a : Change} {i : ℕ} (b : i < address_count a.state.words.now) (f : RoomFor potential st a) where
  abbrev row : Row
  row = get_or st.addresses i []

  in_use : i < length st.addresses
  in_use = omega (arith, count-addresses f.holds)

  pub iteration-there : any (eq_row row) st.addresses ≡ true
  iteration-there = any_here (eq_row row) st.addresses i [] in_use (eq_row-refl row)

  pub iteration-fits : fit_address row ≡ true
  iteration-fits = all-at fit_address i st.addresses [] in_use f.holds.addresses_fit

  -- a removal leaves fewer
  pub removal-fewer : {c : Change} → EmitsWithin potential st (remove_v4 row st) a c → address_count c.state.words.now < address_count a.state.words.now
  removal-fewer t = omega (arith, count-addresses f.holds, count-addresses t.emits.holds, removed_fewer row st iteration-there)

  -- a mark as many
  pub marked-same : (c : Change) → Represents c.state.words.now (with_addresses (set st.addresses i (deprecate row)) st) → address_count c.state.words.now ≡ address_count a.state.words.now
  marked-same c h = omega (arith, count-addresses f.holds, count-addresses h, length-set st.addresses i (deprecate row))

  module _ (allowance now : ℕ) where
    pub iteration-due : {c : Change} → due allowance now row ≡ true → EmitsWithin potential st (remove_v4 row st) a c → EmitsWithin potential st (expire_turn allowance now i st) a c
    unfolding expire_turn
    iteration-due d t = step_eq (cond-true (due allowance now row) (remove_v4 row st) _ d) t

    pub iteration-stays : due allowance now row ≡ false → deprecates allowance now row ≡ false → EmitsWithin potential st (expire_turn allowance now i st) a a
    unfolding expire_turn
    iteration-stays d e = step_eq (cond-false (due allowance now row) (remove_v4 row st) _ d ∙ cond-false (deprecates allowance now row) _ (stays st) e) (step-none potential f)

    pub iteration-deprecates : {c : Change} → due allowance now row ≡ false → deprecates allowance now row ≡ true
        → Represents c.state.words.now (with_addresses (set st.addresses i (deprecate row)) st) → Tells (new_addr4 (deprecate row) ∷ []) a c → EmitsWithin potential st (expire_turn allowance now i st) a c
    unfolding expire_turn new_addr4
    iteration-deprecates d e h w =
        step_eq (cond-false (due allowance now row) (remove_v4 row st) _ d ∙ cond-true (deprecates allowance now row) _ (stays st) e)
        (step-one potential (with_addresses (set st.addresses i (deprecate row)) st) (new_addr4 (deprecate row)) f h
        (omega (arith, length-append (deprecate row) (zeros 12), length-zeros 12, length-address (deprecate row) (deprecate-fit row iteration-fits)))
        (live-lighter allowance now st i in_use iteration-fits e) w)

-- ---- the pass so far
abbrev pub Expiring : ℕ → ℕ → State → ℕ → Change → Change → Type 0
Expiring allowance now st i a b = Going potential st (expire allowance now st) (expire allowance now) (Quiet allowance now i) a b

pub expiring_start : (allowance now : ℕ) {st : State} {a : Change} → RoomFor potential st a → Expiring allowance now st 0 a a
expiring_start allowance now {st} f =
    going_start potential (expire allowance now) (Quiet allowance now 0) f (like_refl (expire allowance now st)) (record { clean = refl; within = omega arith })

module _ (allowance now i : ℕ) {st : State} {a b : Change} (g : Expiring allowance now st i a b) where
  pub expiring_facts : (i ≤ address_count b.state.words.now) × (address_count b.state.words.now ≤ 64)
  expiring_facts =
      let h = g.step.emits.holds in
      (omega (arith, count-addresses h, g.holding.within), omega (arith, count-addresses h, h.addresses_within))

  module _ (h : i < address_count b.state.words.now) {c : Change} (t : (m : State) → RoomFor potential m b → EmitsWithin potential m (expire_turn allowance now i m) b c) where
    pub expiring_next : (j : ℕ) → j ≡ next_place i (address_count b.state.words.now) (address_count c.state.words.now) → Expiring allowance now st j a c
    unfolding also
    expiring_next j e =
        let o = g.sofar in
        let m = o.state in
        let k = g.step.emits.holds in
        let done = t m (going-fits potential g) in
        let turn : State → Out = expire_turn allowance now i in
        let place : j ≡ next_place i (length m.addresses) (length (turn m).state.addresses) =
        e ∙ ap (λ (x : ℕ). next_place i x (address_count c.state.words.now)) (count-addresses k) ∙ ap (next_place i (length m.addresses)) (count-addresses done.emits.holds)
        in
        let more = expire-iteration allowance now i m g.holding k.addresses_fit (omega (arith, count-addresses k)) j place in
        record {
          sofar = also o turn;
          step = step-also potential g.step turn done;
          goes =
              like_trans (also_assoc o turn (expire allowance now))
              (like_trans (like_sym (also_like (expire allowance now) (λ y. also (turn y) (expire allowance now)) (like_refl o) more.0)) g.goes);
          holding = more.1;
        }

    -- no address comes
    pub expiring_fewer : address_count c.state.words.now ≤ address_count b.state.words.now
    expiring_fewer =
        let m = g.sofar.state in
        let k = g.step.emits.holds in
        let done = t m (going-fits potential g) in
        omega (arith, count-addresses k, count-addresses done.emits.holds, iteration_fewer allowance now i m (omega (arith, count-addresses k)))

  pub expiring_end : address_count b.state.words.now ≤ i → EmitsWithin potential st (expire allowance now st) a b
  expiring_end h = going_end potential g (λ m q w. expire-none allowance now m i q.clean (omega (arith, count-addresses w)))
