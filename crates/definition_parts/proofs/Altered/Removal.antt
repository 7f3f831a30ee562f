-- Whether `del_route4`, `del_v4` and `expire` change the state, from their events.
-- Assumes nothing.
use Rattle.std.specs.Prelude.{ℕ, zero, suc, ◌≤◌, ◌≡◌, refl, Bool, true, cond, ◌&&◌, List, [], ◌∷◌, ◌++◌, map, ltb, length}
use Rattle.std.proofs.Common.{sym, ap, ◌∙◌, arith, length-append, ltb-true}
use Rattle.std.proofs.Math.Option.{Option, none, some}
use Rattle.std.proofs.lemmas.List.{length-map}
use Rattle.lists.specs.Lists.{Row, any, keep, first, until, onward, eq_row}
use Rattle.lists.specs.Bools.{test-case, cond-case, cond-true, cond-false}
use Rattle.lists.specs.Count.{length-remove_first, first_any, first-there, until-onward}
use Rattle.layout.specs.Event.{new_addr4}
use Rattle.definition.specs.State.{State, Out, also, through}
use Rattle.definition.specs.Reference.Lookup.{listed}
use Rattle.definition.specs.Reference.Addresses.{Outcome, goes, same_subnet}
use Rattle.definition.specs.Reference.Removal.{remove_one, gone_with, remove_v4, deletes, deleted_at, del_v4, due, deprecates, deprecate, marked, deprecate_due, passes, expire, fall, disable}
use Rattle.definition.specs.Reference.Routes.{bad_prefix, table_named, selects, deleted_route, del_route4_request}
use Rattle.definition.specs.Step.{answered, result}
use Rattle.definition.specs.Preservation.Fit.{Invariant}
use Rattle.definition.specs.Preservation.Removal.{option_case}
use Rattle.definition.specs.Preservation.Shrinking.{Drops, potential, remove_v4_drops, expire_drops}
use Rattle.definition_parts.specs.Rule.{has_events}
use Rattle.definition_parts.proofs.Altered.Says.{Says, with-tables, by-number, loud-says, events_or_tables, nothing-emitted, also-loud}
use Rattle.layout.specs.Address as Address

-- ---- del_route4, del_v4: an event, exactly where they aren't refused
deleted_route-says : (q : Row) (o : Option Row) (st : State) → first (selects q) st.routes ≡ o
    → Says st (result (deleted_route q o st)) (has_events (answered (deleted_route q o st)))
deleted_route-says q none st e = refl
deleted_route-says q (some r) st e =
    by-number st _ (λ s. length s.routes) (omega (arith, length-remove_first (selects q) st.routes (first_any (selects q) st.routes r e)))

pub del_route4-says : (q : Row) (st : State) → Says st (result (del_route4_request q st)) (events_or_tables st (del_route4_request q st))
unfolding del_route4_request
del_route4-says q st =
    with-tables st (result (del_route4_request q st)) (has_events (answered (del_route4_request q st)))
    (cond-case (λ (o : Outcome). Says st (result o) (has_events (answered o))) (listed (table_named q) st)
    (λ a. cond-case (λ (o : Outcome). Says st (result o) (has_events (answered o))) (bad_prefix q) (λ b. refl)
    (λ b. deleted_route-says q (first (selects q) st.routes) st refl))
    (λ a. refl))

through-loud : {A : Type 0} (f : A → State → Out) → ((x : A) (s : State) → 1 ≤ length (f x s).emitted) → (l : List A) (st : State)
    → length l ≤ length (through f l st).emitted
unfolding through also
through-loud f g [] st = omega arith
through-loud f g (x ∷ l) st =
    omega (arith, length-append (f x st).emitted (through f l (f x st).state).emitted, g x st, through-loud f g l (f x st).state)

remove_one-loud : (a : Row) (st : State) → 1 ≤ length (remove_one a st).emitted
unfolding remove_one
remove_one-loud a st = also-loud _ disable (also-loud _ (fall a _) (also-loud _ _ (omega arith)))

remove_v4-loud : (a : Row) (st : State) → 1 ≤ length (remove_v4 a st).emitted
unfolding remove_v4 gone_with
remove_v4-loud a st =
    let many : 1 ≤ length (gone_with st.addresses a) =
    cond-case (λ (m : List Row). 1 ≤ length m) (Address.secondary a) (λ e. omega arith)
    (λ e. omega (arith, length-append (keep (λ b. Address.secondary b && same_subnet a b) st.addresses) (a ∷ [])))
    in
    omega (arith, through-loud remove_one remove_one-loud (gone_with st.addresses a) st)

drops-says : (st : State) (o : Out) → Drops st o → 1 ≤ length o.emitted → o.state ≡ st → ⊥
drops-says st o d h = by-number st o.state potential (omega (arith, d.lighter))

deleted_at-says : (o : Option Row) (st : State) → ((a : Row) → o ≡ some a → any (eq_row a) st.addresses ≡ true)
    → Says st (result (deleted_at o st)) (has_events (answered (deleted_at o st)))
deleted_at-says none st h = refl
deleted_at-says (some a) st h =
    loud-says st (remove_v4 a st) (remove_v4-loud a st) (drops-says st (remove_v4 a st) (remove_v4_drops a st (h a refl)) (remove_v4-loud a st))

pub del_v4-says : (q : Row) (st : State) → Says st (result (del_v4 q st)) (events_or_tables st (del_v4 q st))
unfolding del_v4
del_v4-says q st =
    with-tables st (result (del_v4 q st)) (has_events (answered (del_v4 q st)))
    (deleted_at-says (first (deletes q) st.addresses) st (λ a e. first-there (deletes q) st.addresses a e))

-- ---- expire: an event
mark-none : (p : Row → Bool) (g : Row → Row) (l : List Row) → length (keep p l) ≡ 0 → map (λ a. cond (p a) (g a) a) l ≡ l
mark-none p g [] h = refl
mark-none p g (x ∷ l) h =
    test-case (p x) (λ e. absurd (omega (arith, ap length (cond-true (p x) (x ∷ keep p l) (keep p l) e), h)))
    (λ e. rw e (ap (λ (m : List Row). x ∷ m) (mark-none p g l (ap length (sym (cond-false (p x) (x ∷ keep p l) (keep p l) e)) ∙ h))))

deprecate_due-still : (allowance now : ℕ) (st : State) → length (deprecate_due allowance now st).emitted ≡ 0 → (deprecate_due allowance now st).state ≡ st
unfolding deprecate_due
deprecate_due-still allowance now st h =
    let spared : List Row = until (due allowance now) st.addresses in
    let none : length (keep (deprecates allowance now) spared) ≡ 0 =
    sym (length-map (keep (deprecates allowance now) spared) (λ a. new_addr4 (deprecate a))) ∙ h
    in
    let same : map (marked allowance now) spared ++ onward (due allowance now) st.addresses ≡ st.addresses =
    ap (λ (m : List Row). m ++ onward (due allowance now) st.addresses) (mark-none (deprecates allowance now) deprecate spared none)
    ∙ until-onward (due allowance now) st.addresses
    in
    λ i. record { addresses = same i; routes = st.routes; tables = st.tables }

passes-still : (n allowance now : ℕ) (st : State) → length (passes n allowance now st).emitted ≡ 0 → (passes n allowance now st).state ≡ st
unfolding passes also
passes-still zero allowance now st h = deprecate_due-still allowance now st h
passes-still (suc n) allowance now st h =
    option_case (λ (o : Out). length o.emitted ≡ 0 → o.state ≡ st) (first (due allowance now) st.addresses) (deprecate_due allowance now st)
    (λ a. also (also (deprecate_due allowance now st) (remove_v4 a)) (passes n allowance now))
    (λ k. deprecate_due-still allowance now st k)
    (λ a e k.
    let f = deprecate_due allowance now st in
    let r = remove_v4 a f.state in
    let later = passes n allowance now r.state in
    let sum = length-append (f.emitted ++ r.emitted) later.emitted in
    absurd (omega (arith, sum, length-append f.emitted r.emitted, remove_v4-loud a f.state)))
    h

pub expire-says : (allowance now : ℕ) (st : State) → Invariant st
    → Says st (expire allowance now st).state (events_or_tables st (goes (expire allowance now st)))
expire-says allowance now st f =
    let o : Out = expire allowance now st in
    with-tables st o.state (ltb 0 (length o.emitted))
    (test-case (ltb 0 (length o.emitted))
    (λ h. rw h (drops-says st o (expire_drops allowance now st f) (ltb-true 0 (length o.emitted) h)))
    (λ h. rw h (unfold expire in passes-still (length st.addresses) allowance now st (nothing-emitted o.emitted h))))
