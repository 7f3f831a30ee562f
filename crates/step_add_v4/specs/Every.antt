-- The routes that every address has, brought in the addresses' order.
-- Assumes nothing.
use Rattle.std.specs.Prelude.{ℕ, Ok, Err, ◌+◌, ◌≤◌, ◌<◌, ◌≡◌, true, List, [], length, get_or, take}
use Rattle.std.proofs.Common.{arith, subst}
use Rattle.lists.specs.Lists.{Row, all}
use Rattle.lists.specs.At.{all_take}
use Rattle.layout.specs.Address.{fit_address}
use Rattle.definition.specs.State.{State, Out, through}
use Rattle.definition.specs.Words.{fit_state, address_count}
use Rattle.definition.specs.Reference.Insert.{kernel_add4}
use Rattle.definition.specs.Reference.Addresses.{goes, candidates, install, add_v4, out_of, loopback, up}
use Rattle.definition.specs.Preservation.Keeps.{Keeps, through_keeps, keeps_fit}
use Rattle.step_new_address.specs.New.{routes-fit}
use Rattle.definition.specs.Preservation.Addresses.{install_keeps}
use Rattle.refusal.specs.declared.Refusal.{Refusal}
use Rattle.state.specs.Represents.{Represents, count-addresses, holds-within}
use Rattle.step_events.specs.Comes.{Answer, Comes, comes-ok, adds-also, adds-stop}
use Rattle.step_events.specs.Through.{Covered, covered-through, adds-start, adds-next, adds-other-end, adds-end}
use Rattle.step_events.specs.declared.change.Change.{Change}
use Rattle.step_kernel_add.specs.Add.{kernel_add4-covered}
use Rattle.step_new_address.specs.Adding.{AddsFrom, Leaves, through-leaves, kernel_add4-leaves}
use Rattle.step_add_v4.specs.Added.{loopback_keeps}

-- what one address brings, with the addresses that are there
abbrev pub iteration : List Row → Row → State → Out
iteration l a = install (candidates l true a)

abbrev pub every : State → Out
every st = through (iteration st.addresses) st.addresses st

abbrev pub turn_at : ℕ → State → Out
turn_at i st = iteration st.addresses (get_or st.addresses i []) st

iteration-covered : (l : List Row) → Covered (iteration l)
unfolding install
iteration-covered l = record { covers = λ a st h. covered-through kernel_add4 kernel_add4-covered (candidates l true a) st h }

iteration-leaves : (l : List Row) (a : Row) → Leaves (iteration l a)
unfolding install
iteration-leaves l a = through-leaves kernel_add4 (candidates l true a) kernel_add4-leaves

turns-keep : (l m : List Row) → all fit_address m ≡ true → Keeps (through (iteration l) m)
turns-keep l m h = through_keeps (iteration l) fit_address m (λ a f. install_keeps (candidates l true a) (routes-fit l true a f)) h

-- ---- the first i addresses' routes are brought
abbrev pub first_turns : ℕ → State → Out
first_turns i st = through (iteration st.addresses) (take i st.addresses) st

pub record Brought (i : ℕ) (a b : Change) : Type 0 where
  pub adds : AddsFrom (first_turns i) a b (Ok tt)

pub turns-start : (a : Change) → Brought 0 a a
turns-start a = record { adds = λ st h f. adds-start (iteration st.addresses) st.addresses st h }

module _ {i : ℕ} {a b : Change} (s : Brought i a b) where
  module _ (st : State) (h : Represents a.state.words.now st) (f : fit_state st ≡ true) where
    abbrev later : State
    later = (first_turns i st).state

    later-holds : Represents b.state.words.now later
    later-holds = (comes-ok (s.adds st h f)).1.holds

    later-fit : fit_state later ≡ true
    later-fit = keeps_fit (through (iteration st.addresses) (take i st.addresses)) (turns-keep st.addresses (take i st.addresses) (all_take fit_address i st.addresses h.addresses_fit)) st f

    later_same : later.addresses ≡ st.addresses
    later_same = (through-leaves (iteration st.addresses) (take i st.addresses) (iteration-leaves st.addresses)).same st

  pub turns-next : i < address_count a.state.words.now → {c : Change} {r : Answer} → AddsFrom (turn_at i) b c r → AddsFrom (first_turns (i + 1)) a c r
  turns-next n {c} {r} u st h f =
      let n' : i < length st.addresses = omega (arith, count-addresses h) in
      let here : Comes (goes (iteration st.addresses (get_or st.addresses i []) (later st h f))) b c r =
      subst (λ (l : List Row). Comes (goes (iteration l (get_or l i []) (later st h f))) b c r) (later_same st h f) (u (later st h f) (later-holds st h f) (later-fit st h f))
      in
      adds-next (iteration st.addresses) st.addresses st (iteration-covered st.addresses) (holds-within h) i [] n' (s.adds st h f) here

  pub turns-end : address_count a.state.words.now ≤ i → AddsFrom every a b (Ok tt)
  turns-end n st h f = adds-end (iteration st.addresses) st.addresses st i (omega (arith, count-addresses h)) (s.adds st h f)

-- a list had no room: none comes back
pub turns-other : (i : ℕ) {a c : Change} {r : Answer} {e : Refusal} → r ≡ Err e → AddsFrom (first_turns i) a c r → AddsFrom every a c r
turns-other i q s st h f =
    rw q (adds-other-end (iteration st.addresses) st.addresses st (iteration-covered st.addresses) (holds-within h) i (rw q at (s st h f)))

-- ---- up: the loopback's address, then every address's routes
module _ (clock : ℕ) {a b : Change} {r : Answer} (s : AddsFrom (λ st. out_of (add_v4 loopback clock st)) a b r) where
  pub up-other : {e : Refusal} → r ≡ Err e → {c : Change} → AddsFrom (up clock) a c r
  unfolding up
  up-other q st h f = rw q (adds-stop (rw q at (s st h f)) every)

  module _ (q : r ≡ Ok tt) where
    came : AddsFrom (λ st. out_of (add_v4 loopback clock st)) a b (Ok tt)
    came = rw q at s

    pub up_done : {c : Change} {t : Answer} → AddsFrom every b c t → AddsFrom (up clock) a c t
    unfolding up
    up_done u st h f =
        let later = (out_of (add_v4 loopback clock st)).state in
        adds-also (came st h f) every
        (u later (comes-ok (came st h f)).1.holds (keeps_fit (λ y. out_of (add_v4 loopback clock y)) (loopback_keeps clock) st f))
