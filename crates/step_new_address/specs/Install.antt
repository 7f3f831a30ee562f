-- Routes added one after the other.
-- Assumes nothing.
use Rattle.std.specs.Prelude.{ℕ, ◌+◌, ◌≤◌, ◌<◌, ◌≡◌, true, List, [], length, get_or, take, Ok, Err}
use Rattle.lists.specs.Lists.{Row, all}
use Rattle.lists.specs.At.{all_take}
use Rattle.refusal.specs.declared.Refusal.{Refusal}
use Rattle.layout.specs.Route.{fit_route}
use Rattle.definition.specs.State.{through}
use Rattle.definition.specs.Reference.Insert.{kernel_add4}
use Rattle.definition.specs.Reference.Addresses.{install}
use Rattle.definition.specs.Preservation.Keeps.{Keeps, through_keeps, keeps_fit}
use Rattle.definition.specs.Preservation.Addresses.{kernel_add4_keeps}
use Rattle.state.specs.Represents.{holds-within}
use Rattle.step_events.specs.Comes.{Answer}
use Rattle.step_events.specs.Through.{adds-start, adds-next, adds-other-end, adds-end}
use Rattle.step_events.specs.declared.change.Change.{Change}
use Rattle.step_kernel_add.specs.Add.{kernel_add4-covered}
use Rattle.step_new_address.specs.Adding.{AddsFrom, adds-holds}

-- the first i of them
first-keep : (rows : List Row) (i : ℕ) → all fit_route rows ≡ true → Keeps (through kernel_add4 (take i rows))
first-keep rows i f = through_keeps kernel_add4 fit_route (take i rows) kernel_add4_keeps (all_take fit_route i rows f)

pub sofar-start : (rows : List Row) (a : Change) → AddsFrom (through kernel_add4 (take 0 rows)) a a (Ok tt)
sofar-start rows a st h f = adds-start kernel_add4 rows st h

module _ (rows : List Row) (fit : all fit_route rows ≡ true) {a b : Change} (i : ℕ) (s : AddsFrom (through kernel_add4 (take i rows)) a b (Ok tt)) where
  pub sofar-next : i < length rows → {c : Change} {r : Answer} → AddsFrom (kernel_add4 (get_or rows i [])) b c r → AddsFrom (through kernel_add4 (take (i + 1) rows)) a c r
  sofar-next k u st h f =
      let first = through kernel_add4 (take i rows) in
      adds-next kernel_add4 rows st kernel_add4-covered (holds-within h) i [] k (s st h f)
      (u (first st).state (adds-holds first s st h f) (keeps_fit first (first-keep rows i fit) st f))

  pub sofar-end : length rows ≤ i → AddsFrom (install rows) a b (Ok tt)
  unfolding install
  sofar-end k st h f = adds-end kernel_add4 rows st i k (s st h f)

-- a list had no room: none comes back
pub sofar-other : (rows : List Row) (i : ℕ) {a b c : Change} {e : Refusal} → AddsFrom (through kernel_add4 (take i rows)) a b (Err e) → AddsFrom (install rows) a c (Err e)
unfolding install
sofar-other rows i s st h f = adds-other-end kernel_add4 rows st kernel_add4-covered (holds-within h) i (s st h f)
