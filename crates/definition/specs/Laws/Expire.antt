-- `expire` without a count of passes: mark those before the first address that is due, remove that one, begin again.
use Prim.Native.Nat.{ℕ, zero, suc, ◌+◌, ◌≤◌, ◌<◌}
use Rattle.std.proofs.Common.{arith, ◌∙◌, length-append}
use Rattle.std.specs.Prelude.{◌≡◌, Bool, true, cond, ◌&&◌}
use Rattle.std.proofs.Math.Path.{refl, sym, ap}
use mathlib.Core.List.{List, [], ◌∷◌, ◌++◌, map}
use Rattle.std.proofs.Math.Option.{Option, none, some}
use Rattle.std.proofs.Math.ListN.{length}
use Rattle.std.proofs.lemmas.List.{length-map}
use Rattle.lists.specs.Lists.{Row, any, keep, first, until, onward, eq_row}
use Rattle.lists.specs.Bools.{test-case, cond-case}
use Rattle.lists.specs.Count.{Within, within_first, within-rest, length-remove_first, until-onward, onward-first, any-back, any-count, first_any, count_most}
use Rattle.layout.specs.Address.{secondary}
use Rattle.definition.specs.State.{State, Out, also, through, with_addresses}
use Rattle.definition.specs.Reference.Addresses.{same_subnet}
use Rattle.definition.specs.Reference.Removal.{remove_one, remove_v4, gone_with, due, deprecates, deprecate, marked, deprecate_due, passes, expire}
use Rattle.definition.specs.Preservation.Shrinking.{remove_one_removes, gone_with-within}

-- ---- what a removal does to the addresses
-- several go, of which each is there: as many addresses fewer
gone_fewer : (l : List Row) (st : State) → Within l st.addresses → length (through remove_one l st).state.addresses + length l ≡ length st.addresses
unfolding through also
gone_fewer [] st w = omega arith
gone_fewer (a ∷ l) st w =
    let r = remove_one_removes a st in
    let rest = gone_fewer l (remove_one a st).state (rw r.rest (within-rest a l st.addresses w)) in
    omega (arith, ap length r.rest, length-remove_first (eq_row a) st.addresses (within_first a l st.addresses w))

some-gone : (l : List Row) (a : Row) → 0 < length (gone_with l a)
unfolding gone_with
some-gone l a =
    cond-case (λ (gone : List Row). 0 < length gone) (secondary a) (λ e. omega arith)
    (λ e. omega (arith, length-append (keep (λ b. secondary b && same_subnet a b) l) (a ∷ [])))

remove_fewer : (a : Row) (st : State) → any (eq_row a) st.addresses ≡ true → length (remove_v4 a st).state.addresses < length st.addresses
unfolding remove_v4
remove_fewer a st e =
    let fewer = gone_fewer (gone_with st.addresses a) st (gone_with-within st.addresses a e) in
    omega (arith, some-gone st.addresses a)

-- a second step counts only on the state that the first one leaves
also-at : (o : Out) (f g : State → Out) → f o.state ≡ g o.state → also o f ≡ also o g
unfolding also
also-at o f g e = rw e

-- ---- a pass
module _ (allowance now : ℕ) where
  deprecate_due-length : (st : State) → length (deprecate_due allowance now st).state.addresses ≡ length st.addresses
  unfolding deprecate_due
  deprecate_due-length st =
      simp (length-append, length-map)
      (sym (length-append (until (due allowance now) st.addresses) (onward (due allowance now) st.addresses)) ∙ ap length (until-onward (due allowance now) st.addresses))

  deprecate_due-there : (st : State) (a : Row) → first (due allowance now) st.addresses ≡ some a → any (eq_row a) (deprecate_due allowance now st).state.addresses ≡ true
  unfolding deprecate_due
  deprecate_due-there st a e =
      any-back (eq_row a) (map (marked allowance now) (until (due allowance now) st.addresses)) (onward (due allowance now) st.addresses) (onward-first (due allowance now) st.addresses a e)

  -- each pass but the last removes an address
  pass_fewer : (st : State) (a : Row) → first (due allowance now) st.addresses ≡ some a → length (remove_v4 a (deprecate_due allowance now st).state).state.addresses < length st.addresses
  pass_fewer st a e =
      let fewer = remove_fewer a (deprecate_due allowance now st).state (deprecate_due-there st a e) in
      omega (arith, deprecate_due-length st)

  pass : (n : ℕ) (st : State) (a : Row) → first (due allowance now) st.addresses ≡ some a → passes (suc n) allowance now st ≡ also (also (deprecate_due allowance now st) (remove_v4 a)) (passes n allowance now)
  unfolding passes
  pass n st a e = rw (e, passes)

  last : (n : ℕ) (st : State) → first (due allowance now) st.addresses ≡ none → passes n allowance now st ≡ deprecate_due allowance now st
  unfolding passes
  last zero st e = refl
  last (suc n) st e = rw (e, passes)

  -- where there is room for no pass, none is due
  idle : (st : State) → length st.addresses ≤ 0 → (o : Option Row) → first (due allowance now) st.addresses ≡ o → first (due allowance now) st.addresses ≡ none
  idle st h none e = e
  idle st h (some a) e =
      let some-there = any-count (due allowance now) st.addresses (first_any (due allowance now) st.addresses a e) in
      absurd (omega (arith, count_most (due allowance now) st.addresses))

  -- more passes than addresses change nothing
  enough : (n m : ℕ) (st : State) → length st.addresses ≤ n → length st.addresses ≤ m → passes n allowance now st ≡ passes m allowance now st
  enough zero m st hn hm =
      let none-due = idle st hn (first (due allowance now) st.addresses) refl in
      last zero st none-due ∙ sym (last m st none-due)
  enough (suc n) zero st hn hm =
      let none-due = idle st hm (first (due allowance now) st.addresses) refl in
      last (suc n) st none-due ∙ sym (last zero st none-due)
  enough (suc n) (suc m) st hn hm = go (first (due allowance now) st.addresses) refl (enough n m)
    where
      go : (o : Option Row) → first (due allowance now) st.addresses ≡ o → ((s : State) → length s.addresses ≤ n → length s.addresses ≤ m → passes n allowance now s ≡ passes m allowance now s) → passes (suc n) allowance now st ≡ passes (suc m) allowance now st
      go none e ih = last (suc n) st e ∙ sym (last (suc m) st e)
      go (some a) e ih =
          let marked-and-gone = also (deprecate_due allowance now st) (remove_v4 a) in
          let fewer : length marked-and-gone.state.addresses < length st.addresses = unfold also in pass_fewer st a e in
          pass n st a e
          ∙ also-at marked-and-gone (passes n allowance now) (passes m allowance now) (ih marked-and-gone.state (omega arith) (omega arith))
          ∙ sym (pass m st a e)

  -- the equation of expire
  pub expire-last : (st : State) → first (due allowance now) st.addresses ≡ none → expire allowance now st ≡ deprecate_due allowance now st
  unfolding expire
  expire-last st e = last (length st.addresses) st e

  pub expire-again : (st : State) (a : Row) → first (due allowance now) st.addresses ≡ some a → expire allowance now st ≡ also (also (deprecate_due allowance now st) (remove_v4 a)) (expire allowance now)
  unfolding expire also
  expire-again st a e = go (length st.addresses) refl
    where
      go : (n : ℕ) → length st.addresses ≡ n → passes n allowance now st ≡ also (also (deprecate_due allowance now st) (remove_v4 a)) (λ s. passes (length s.addresses) allowance now s)
      go zero h =
          let some-there = any-count (due allowance now) st.addresses (first_any (due allowance now) st.addresses a e) in
          absurd (omega (arith, count_most (due allowance now) st.addresses))
      go (suc n) h =
          let marked-and-gone = also (deprecate_due allowance now st) (remove_v4 a) in
          let fewer = pass_fewer st a e in
          pass n st a e
          ∙ also-at marked-and-gone (passes n allowance now) (λ s. passes (length s.addresses) allowance now s)
          (enough n (length marked-and-gone.state.addresses) marked-and-gone.state (omega arith) (omega arith))

-- ---- where nothing is emitted, nothing changed
-- a removal emits
also-emitted : (o : Out) (f : State → Out) → length (also o f).emitted ≡ length o.emitted + length (f o.state).emitted
unfolding also
also-emitted o f = length-append o.emitted (f o.state).emitted

one-emitted : (a : Row) (st : State) → 0 < length (remove_one a st).emitted
unfolding remove_one also
one-emitted a st = omega arith

last-emitted : (l : List Row) (a : Row) (st : State) → 0 < length (through remove_one (l ++ (a ∷ [])) st).emitted
unfolding through
last-emitted [] a st = omega (arith, one-emitted a st, also-emitted (remove_one a st) (through remove_one []))
last-emitted (b ∷ l) a st = omega (arith, one-emitted b st, also-emitted (remove_one b st) (through remove_one (l ++ (a ∷ []))))

removal_emitted : (a : Row) (st : State) → 0 < length (remove_v4 a st).emitted
unfolding remove_v4 gone_with
removal_emitted a st =
    cond-case (λ (l : List Row). 0 < length (through remove_one l st).emitted) (secondary a) (λ e. last-emitted [] a st)
    (λ e. last-emitted (keep (λ b. secondary b && same_subnet a b) st.addresses) a st)

-- and so does a mark
unmarked : (p : Row → Bool) (g : Row → Row) (l : List Row) → length (keep p l) ≡ 0 → map (λ a. cond (p a) (g a) a) l ≡ l
unmarked p g [] h = refl
unmarked p g (a ∷ l) h = test-case (p a) (λ e. absurd (omega (arith, rw e at h))) (λ e. rw (e, unmarked p g l (rw e at h)))

module _ (allowance now : ℕ) where
  deprecate_due-quiet : (st : State) → length (deprecate_due allowance now st).emitted ≡ 0 → (deprecate_due allowance now st).state ≡ st
  unfolding deprecate_due
  deprecate_due-quiet st h =
      let spared = until (due allowance now) st.addresses in
      let behind = onward (due allowance now) st.addresses in
      ap (λ (l : List Row). with_addresses l st)
      (ap (λ (l : List Row). l ++ behind) (unmarked (deprecates allowance now) deprecate spared (sym (length-map (keep (deprecates allowance now) spared) _) ∙ h)) ∙ until-onward (due allowance now) st.addresses)

  pub expire-quiet : (st : State) → length (expire allowance now st).emitted ≡ 0 → (expire allowance now st).state ≡ st
  expire-quiet st h = go (first (due allowance now) st.addresses) refl
    where
      go : (o : Option Row) → first (due allowance now) st.addresses ≡ o → (expire allowance now st).state ≡ st
      go none e =
          let x = expire-last allowance now st e in
          ap (λ (o : Out). o.state) x ∙ deprecate_due-quiet st (ap (λ (o : Out). length o.emitted) (sym x) ∙ h)
      go (some a) e =
          let f = deprecate_due allowance now st in
          let x = ap (λ (o : Out). length o.emitted) (expire-again allowance now st a e) in
          absurd (omega (arith, h, x, also-emitted (also f (remove_v4 a)) (expire allowance now), also-emitted f (remove_v4 a), removal_emitted a f.state))
