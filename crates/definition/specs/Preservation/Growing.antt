-- How many rows an adding step emits: no more than the routes and addresses grow.
-- Assumes nothing.
use Rattle.std.specs.Prelude.{ℕ, suc, ◌+◌, ◌≤◌, ◌≡◌, refl, Bool, true, false, List, [], ◌∷◌, length}
use Rattle.std.proofs.Math.Option.{Option, none, some}
use Rattle.std.proofs.Common.{arith, length-append}
use Rattle.lists.specs.Lists.{Row, any, first, eq_row}
use Rattle.lists.specs.Bools.{cond-case, true-false}
use Rattle.lists.specs.Count.{length-behind_last, length_around, length_around_not}
use Rattle.layout.specs.Flags.{has_bit}
use Rattle.layout.specs.Address.{secondary}
use Rattle.layout.specs.Route.{alike, before, table}
use Rattle.layout.specs.Event.{new_addr4}
use Rattle.definition.specs.State.{State, Out, becomes, stays, also, through, with_addresses}
use Rattle.definition.specs.Reference.Insert.{create4, insert4, Inserted, placed, nothing, inserted, excl_flag, replace_flag, create_flag, append_flag, ahead, behind, kernel_add4, kernel_flags}
use Rattle.definition.specs.Reference.Addresses.{candidates, install, place4, yields, new_address, added_over, add_v4, same_address, loopback, out_of, up}

pub record Adds (st : State) (o : Out) : Type 0 where
  pub grown : length o.emitted + (length st.routes + length st.addresses) ≤ length o.state.routes + length o.state.addresses

pub stays-adds : (st : State) → Adds st (stays st)
stays-adds st = record { grown = omega arith }

pub also-adds : (st : State) (o : Out) (g : State → Out) → Adds st o → ((s : State) → Adds s (g s)) → Adds st (also o g)
unfolding also
also-adds st o g h k =
    record { grown = omega (arith, h.grown, (k o.state).grown, length-append o.emitted (g o.state).emitted) }

pub through-adds : {A : Type 0} (f : A → State → Out) (l : List A) → ((x : A) (s : State) → Adds s (f x s)) → (st : State) → Adds st (through f l st)
unfolding through
through-adds f [] g st = stays-adds st
through-adds f (x ∷ l) g st = also-adds st (f x st) (through f l) (g x st) (λ s. through-adds f l g s)

-- a row more, where nothing may be replaced
abbrev pub Grows : List Row → Inserted → Type 0
Grows l (placed rows flags) = length rows ≡ suc (length l)
Grows l nothing = Unit
Grows l (Inserted.unplaced n) = Unit

length-ahead : (new : Row) (l : List Row) → length (ahead new l) ≡ suc (length l)
unfolding ahead
length-ahead new l = length_around (λ r. before r new) new l

length-behind : (new : Row) (l : List Row) → length (behind new l) ≡ suc (length l)
unfolding behind
length-behind new l = length_around_not (λ r. before new r) new l

pub insert_grows : (new : Row) (flags : ℕ) (l : List Row) → replace_flag flags ≡ false → Grows l (insert4 new flags l)
unfolding insert4
insert_grows new flags l h =
    cond-case (Grows l) (any (alike new) l)
    (λ a. cond-case (Grows l) (excl_flag flags) (λ b. tt)
    (λ b. cond-case (Grows l) (replace_flag flags) (λ c. absurd (true-false (replace_flag flags) c h))
    (λ c. cond-case (Grows l) (any (eq_row new) l) (λ e. tt)
    (λ e. cond-case (Grows l) (create_flag flags)
    (λ g. cond-case (Grows l) (append_flag flags) (λ k. length-behind new l) (λ k. length-ahead new l))
    (λ g. tt)))))
    (λ a. cond-case (Grows l) (create_flag flags) (λ g. length-ahead new l) (λ g. tt))

inserted-adds : (new : Row) (i : Inserted) (st : State) → Grows st.routes i → Adds st (inserted new i st)
inserted-adds new (placed rows flags) st h = record { grown = omega arith }
inserted-adds new nothing st h = stays-adds st
inserted-adds new (Inserted.unplaced n) st h = stays-adds st

pub no-replacing : replace_flag kernel_flags ≡ false
unfolding has_bit
no-replacing = refl

pub kernel_add4-adds : (new : Row) (st : State) → Adds st (kernel_add4 new st)
unfolding kernel_add4 create4
kernel_add4-adds new st =
    let a = inserted-adds new (insert4 new kernel_flags st.routes) (create4 (table new) st) (insert_grows new kernel_flags st.routes no-replacing) in
    record { grown = a.grown }

pub install-adds : (routes : List Row) (st : State) → Adds st (install routes st)
unfolding install
install-adds routes st = through-adds kernel_add4 routes kernel_add4-adds st

pub length-place4 : (new : Row) (l : List Row) → length (place4 new l) ≡ suc (length l)
unfolding place4
length-place4 new l =
    cond-case (λ (m : List Row). length m ≡ suc (length l)) (secondary new) (λ e. omega (arith, length-append l (new ∷ []))) (λ e. length-behind_last (yields new) new l)

pub new_address-adds : (new : Row) (up : Bool) (st : State) → Adds st (new_address new up st)
unfolding new_address
new_address-adds new up st =
    also-adds st (becomes (with_addresses (place4 new st.addresses) st) (new_addr4 new ∷ [])) (install (candidates (place4 new st.addresses) up new))
    (record { grown = omega (arith, length-place4 new st.addresses) })
    (λ s. install-adds (candidates (place4 new st.addresses) up new) s)

-- an address that isn't replaced
added-adds : (now : ℕ) (o : Option Row) (st : State) → Adds st (out_of (added_over loopback now o st))
added-adds now (some old) st = stays-adds st
added-adds now none st = new_address-adds _ _ st

pub up-adds : (now : ℕ) (st : State) → Adds st (up now st)
unfolding up add_v4
up-adds now st =
    also-adds st (out_of (added_over loopback now (first (same_address loopback) st.addresses) st))
    (λ later. through (λ a. install (candidates later.addresses true a)) later.addresses later)
    (added-adds now (first (same_address loopback) st.addresses) st)
    (λ s. through-adds (λ a. install (candidates s.addresses true a)) s.addresses (λ a t. install-adds (candidates s.addresses true a) t) s)
