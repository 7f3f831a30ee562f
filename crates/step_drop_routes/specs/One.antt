-- What goes with an address, step by step: those of its routes that none wants, what falls with it, the device's routes.
-- Assumes nothing.
use Rattle.std.specs.Prelude.{ℕ, suc, ◌+◌, ◌≤◌, ◌<◌, ◌≡◌, refl, Bool, cond, not, ◌&&◌, List, [], ◌∷◌, eqb, length, get_or, drop}
use Rattle.std.proofs.Common.{ap, ◌∙◌, add-one, drop_of_length-le, drop-cons}
use Rattle.lists.specs.Lists.{Row, any, keep}
use Rattle.lists.specs.Bools.{test-case}
use Rattle.lists.specs.Count.{count}
use Rattle.layout.specs.Address.{local}
use Rattle.layout.specs.Route as Route
use Rattle.definition.specs.State.{State, Out, stays, also, through}
use Rattle.definition.specs.Reference.Lookup.{main_table, local_kind, listed, local4}
use Rattle.definition.specs.Reference.Insert.{kernel_del4}
use Rattle.definition.specs.Reference.Removal.{wanted, of_kind, dependent_on, fall}
use Rattle.definition.specs.Preservation.Shrinking.{live, kernel_del4_away}
use Rattle.step_events.specs.Iterations.{Like, like_refl, like_sym, like_trans, stays-also, also_like}

-- the rows that may still be told while an address goes: as many as the potential says, and one whether or not it was the last
abbrev pub closing : State → ℕ
closing st = suc (length st.routes + (length st.addresses + count live st.addresses))

-- ---- routes that none wants
-- a route goes unless an address wants it
unfoldable pub unless_wanted : Row → State → Out
unless_wanted r st = cond (wanted st.addresses r) (stays st) (kernel_del4 r st)

-- the addresses stay, so each route may be looked at when its turn comes
pub unwanted-turns : (left l : List Row) (st : State) → st.addresses ≡ left
    → Like (through kernel_del4 (keep (λ r. not (wanted left r)) l) st) (through unless_wanted l st)
unfolding through unless_wanted
unwanted-turns left [] st e = like_refl (stays st)
unwanted-turns left (r ∷ l) st e =
    test-case (wanted left r)
    (λ f. rw (f, ap (λ (m : List Row). wanted m r) e ∙ f) (like_trans (unwanted-turns left l st e) (like_sym (stays-also st (through unless_wanted l)))))
    (λ f. rw (f, ap (λ (m : List Row). wanted m r) e ∙ f)
    (also_like (through kernel_del4 (keep (λ r. not (wanted left r)) l)) (through unless_wanted l) (like_refl (kernel_del4 r st))
    (unwanted-turns left l (kernel_del4 r st).state ((kernel_del4_away r st).same_addresses ∙ e))))

-- from route j on
unfoldable pub from : List Row → ℕ → State → Out
from l j st = through unless_wanted (drop j l) st

pub from_start : (l : List Row) (st : State) → from l 0 st ≡ through unless_wanted l st
unfolding from
from_start l st = refl

pub from-iteration : (l : List Row) (j : ℕ) → j < length l → (st : State) → Like (from l j st) (also (unless_wanted (get_or l j []) st) (from l (j + 1)))
unfolding from through
from-iteration l j b st = rw (add-one, drop-cons l j [] b) (like_refl (also (unless_wanted (get_or l j []) st) (through unless_wanted (drop (suc j) l))))

pub from_end : (l : List Row) (j : ℕ) → length l ≤ j → (st : State) → Like (from l j st) (stays st)
unfolding from through
from_end l j b st =
    let none : drop j l ≡ [] = drop_of_length-le l {i = j} b in
    rw none (like_refl (stays st))

-- ---- a /32 of a local route is among those that go
abbrev pub loses : List Row → Row → Bool
loses left r = not (wanted left r) && (of_kind local_kind r && eqb (Route.len r) 32)

pub loses-any : (left l : List Row) → any (λ r. of_kind local_kind r && eqb (Route.len r) 32) (keep (λ r. not (wanted left r)) l) ≡ any (loses left) l
loses-any left [] = refl
loses-any left (r ∷ l) =
    test-case (wanted left r) (λ e. rw (e, loses-any left l)) (λ e. rw (e, loses-any left l))

-- what falls, where that is so
unfoldable pub fall_from : ℕ → Bool → State → Out
fall_from ip lost st =
    cond (lost && not (local4 st ip)) (through kernel_del4 (cond (listed main_table st) (keep (dependent_on ip) st.routes) []) st) (stays st)

pub fall-from : (a : Row) (left l : List Row) (st : State) → fall a (keep (λ r. not (wanted left r)) l) st ≡ fall_from (local a) (any (loses left) l) st
unfolding fall fall_from
fall-from a left l st = rw (loses-any left l)
