-- Every call lists tables and takes none out: where there are no more than before, they are the same.
-- Assumes nothing.
use Rattle.std.specs.Prelude.{ℕ, zero, suc, ◌≤◌, ◌≡◌, refl, Bool, true, List, [], ◌∷◌, eqb, length}
use Rattle.std.proofs.Common.{ap, ◌∙◌, arith}
use Rattle.std.proofs.Math.Option.{Option, none, some}
use Rattle.lists.specs.Lists.{Row, first}
use Rattle.lists.specs.Bools.{cond-case}
use Rattle.layout.specs.Route.{table}
use Rattle.layout.specs.Request.{replace_asked}
use Rattle.definition.specs.State.{State, Out, also, through}
use Rattle.definition.specs.Words.{state_of}
use Rattle.definition.specs.Call.{Call}
use Rattle.definition.specs.Step.{Result, Checks, Action, changes, replies, lists, checked, result, roomy, outcome, semantics, step}
use Rattle.definition.specs.Reference.Lookup.{listed}
use Rattle.definition.specs.Reference.Insert.{create4, insert4, Inserted, placed, nothing, inserted, kernel_add4, kernel_del4, kernel_flags, matches, removed}
use Rattle.definition.specs.Reference.Addresses.{Outcome, goes, refused, candidates, install, new_address, moved, reroutes, change_v4, added_over, add_v4, same_address, loopback, out_of, up, down}
use Rattle.definition.specs.Reference.Removal.{dependents_fall, dependents, fall, disable, remove_one, gone_with, remove_v4, deletes, deleted_at, del_v4, due, deprecate_due, passes, expire}
use Rattle.definition.specs.Reference.Routes.{add_route4, bad_prefix, table_named, selects, deleted_route, del_route4_request}
use Rattle.definition.specs.Preservation.Keeps.{KeptOutcome}
use Rattle.definition.specs.Preservation.Removal.{option_case}
use Rattle.definition.proofs.Preservation.Change.{Acts, lawful}
use Rattle.definition.proofs.Preservation.Step.{good-result, decode-leaves, checked-sound, acted, perform-case}
use Rattle.definition.proofs.Laws.Order.{table-listed}
use Rattle.definition_parts.proofs.Altered.Says.{create-same, create-longer}

-- m is l, or longer
pub record Extends (l m : List ℕ) : Type 0 where
  pub longer : length l ≤ length m
  pub same : length m ≡ length l → m ≡ l

extends-same : (l : List ℕ) → Extends l l
extends-same l = record { longer = omega arith; same = λ h. refl }

extends-both : (l m n : List ℕ) → Extends l m → Extends m n → Extends l n
extends-both l m n a b =
    record {
      longer = omega (arith, a.longer, b.longer);
      same = λ h.
          let one = b.same (omega (arith, a.longer, b.longer)) in
          one ∙ a.same (omega (arith, a.longer, b.longer));
    }

-- from one state to another
abbrev Lists : State → State → Type 0
Lists st later = Extends st.tables later.tables

abbrev Listing : (State → Out) → Type 0
Listing f = (st : State) → Lists st (f st).state

also-lists : (st : State) (o : Out) (g : State → Out) → Lists st o.state → Listing g → Lists st (also o g).state
unfolding also
also-lists st o g h k = extends-both st.tables o.state.tables (g o.state).state.tables h (k o.state)

through-lists : {A : Type 0} (f : A → State → Out) (l : List A) → ((x : A) → Listing (f x)) → Listing (through f l)
unfolding through
through-lists f [] g st = extends-same st.tables
through-lists f (x ∷ l) g st = also-lists st (f x st) (through f l) (g x st) (through-lists f l g)

-- ---- routes put in and taken out
inserted-lists : (new : Row) (i : Inserted) (st made : State) → Lists st made → Lists st (inserted new i made).state
inserted-lists new (placed m f) st made h = h
inserted-lists new nothing st made h = h
inserted-lists new (Inserted.unplaced n) st made h = h

create-lists : (t : ℕ) (st : State) → Lists st (create4 t st)
create-lists t st = record { longer = create-longer t st; same = λ h. ap (λ (s : State). s.tables) (create-same t st h) }

kernel_add4-lists : (new : Row) → Listing (kernel_add4 new)
unfolding kernel_add4
kernel_add4-lists new st =
    let made : State = create4 (table new) st in
    inserted-lists new (insert4 new kernel_flags made.routes) st made (create-lists (table new) st)

removed-lists : (p : Row → Bool) (o : Option Row) (st : State) → Lists st (removed p o st).state
removed-lists p none st = extends-same st.tables
removed-lists p (some r) st = extends-same st.tables

kernel_del4-lists : (p : Row) → Listing (kernel_del4 p)
unfolding kernel_del4
kernel_del4-lists p st = removed-lists (matches p) (first (matches p) st.routes) st

install-lists : (l : List Row) → Listing (install l)
unfolding install
install-lists l st = through-lists kernel_add4 l kernel_add4-lists st

-- ---- addresses put in and changed
new_address-lists : (new : Row) (up : Bool) → Listing (new_address new up)
unfolding new_address
new_address-lists new up st = also-lists st _ _ (extends-same st.tables) (install-lists _)

moved-lists : (q old : Row) → Listing (moved q old)
unfolding moved
moved-lists q old st =
    cond-case (λ (o : Out). Lists st o.state) (reroutes q old) (λ e. also-lists st _ _ (kernel_add4-lists _ st) (kernel_del4-lists _))
    (λ e. extends-same st.tables)

change_v4-lists : (q old : Row) (now : ℕ) → Listing (change_v4 q old now)
unfolding change_v4
change_v4-lists q old now st = also-lists st (moved q old st) _ (moved-lists q old st) (λ later. extends-same later.tables)

added_over-lists : (q : Row) (now : ℕ) (o : Option Row) (st : State) → Lists st (result (added_over q now o st))
added_over-lists q now (some old) st =
    cond-case (λ (o : Outcome). Lists st (result o)) (eqb (replace_asked q) 1) (λ e. change_v4-lists q old now st) (λ e. extends-same st.tables)
added_over-lists q now none st = new_address-lists _ _ st

add_v4-lists : (q : Row) (now : ℕ) (st : State) → Lists st (result (add_v4 q now st))
unfolding add_v4
add_v4-lists q now st = added_over-lists q now (first (same_address q) st.addresses) st

-- ---- up
out_of-lists : (st : State) (o : Outcome) → Lists st (result o) → Lists st (out_of o).state
out_of-lists st (goes o) h = h
out_of-lists st (refused n left) h = h

up-lists : (now : ℕ) → Listing (up now)
unfolding up
up-lists now st =
    also-lists st (out_of (add_v4 loopback now st)) _ (out_of-lists st (add_v4 loopback now st) (add_v4-lists loopback now st))
    (λ later. through-lists (λ a. install (candidates later.addresses true a)) later.addresses (λ a. install-lists (candidates later.addresses true a)) later)

down-lists : Listing down
unfolding down
down-lists st = extends-same st.tables

-- ---- removals
fall-lists : (a : Row) (routes : List Row) → Listing (fall a routes)
unfolding fall
fall-lists a routes st =
    cond-case (λ (o : Out). Lists st o.state) (dependents_fall a routes st) (λ e. through-lists kernel_del4 (dependents a st) kernel_del4-lists st)
    (λ e. extends-same st.tables)

disable-lists : Listing disable
unfolding disable
disable-lists st =
    cond-case (λ (o : Out). Lists st o.state) (eqb (length st.addresses) 0) (λ e. extends-same st.tables) (λ e. extends-same st.tables)

remove_one-lists : (a : Row) → Listing (remove_one a)
unfolding remove_one
remove_one-lists a st =
    also-lists st _ disable
    (also-lists st _ (fall a _) (also-lists st _ (through kernel_del4 _) (extends-same st.tables) (through-lists kernel_del4 _ kernel_del4-lists)) (fall-lists a _))
    disable-lists

remove_v4-lists : (a : Row) → Listing (remove_v4 a)
unfolding remove_v4
remove_v4-lists a st = through-lists remove_one (gone_with st.addresses a) remove_one-lists st

deleted_at-lists : (o : Option Row) (st : State) → Lists st (result (deleted_at o st))
deleted_at-lists none st = extends-same st.tables
deleted_at-lists (some a) st = remove_v4-lists a st

del_v4-lists : (q : Row) (st : State) → Lists st (result (del_v4 q st))
unfolding del_v4
del_v4-lists q st = deleted_at-lists (first (deletes q) st.addresses) st

deprecate_due-lists : (allowance now : ℕ) → Listing (deprecate_due allowance now)
unfolding deprecate_due
deprecate_due-lists allowance now st = extends-same st.tables

passes-lists : (n allowance now : ℕ) → Listing (passes n allowance now)
unfolding passes
passes-lists zero allowance now st = deprecate_due-lists allowance now st
passes-lists (suc n) allowance now st =
    option_case (λ (o : Out). Lists st o.state) (first (due allowance now) st.addresses) (deprecate_due allowance now st)
    (λ a. also (also (deprecate_due allowance now st) (remove_v4 a)) (passes n allowance now))
    (deprecate_due-lists allowance now st)
    (λ a e. also-lists st (also (deprecate_due allowance now st) (remove_v4 a)) (passes n allowance now)
    (also-lists st (deprecate_due allowance now st) (remove_v4 a) (deprecate_due-lists allowance now st) (remove_v4-lists a)) (passes-lists n allowance now))

expire-lists : (allowance now : ℕ) → Listing (expire allowance now)
unfolding expire
expire-lists allowance now st = passes-lists (length st.addresses) allowance now st

-- ---- requests for routes
add_route4-lists : (q : Row) (st : State) → Lists st (result (add_route4 q st))
unfolding create4
add_route4-lists q st = rw (table-listed q st) (create-lists (table_named q) st)

deleted_route-lists : (q : Row) (o : Option Row) (st : State) → Lists st (result (deleted_route q o st))
deleted_route-lists q none st = extends-same st.tables
deleted_route-lists q (some r) st = extends-same st.tables

del_route4-lists : (q : Row) (st : State) → Lists st (result (del_route4_request q st))
unfolding del_route4_request
del_route4-lists q st =
    cond-case (λ (o : Outcome). Lists st (result o)) (listed (table_named q) st)
    (λ e. cond-case (λ (o : Outcome). Lists st (result o)) (bad_prefix q) (λ d. extends-same st.tables)
    (λ d. deleted_route-lists q (first (selects q) st.routes) st))
    (λ e. extends-same st.tables)

-- ---- every call
abbrev ListsBy : Action → Type 0
ListsBy (changes listed f) = (st : State) → Lists st (result (f st))
ListsBy (replies f) = Unit {0}
ListsBy (lists f) = Unit {0}

listing : (c : Call) → ListsBy (semantics c).action
listing (Call.up room now) = up-lists now
listing (Call.down room) = down-lists
listing (Call.add_v4 q room now) = add_v4-lists q now
listing (Call.del_v4 q room) = del_v4-lists q
listing (Call.expire room now allowance) = expire-lists allowance now
listing (Call.add_route4 q room) = add_route4-lists q
listing (Call.del_route4 q room) = del_route4-lists q
listing (Call.dump4 room) = tt
listing (Call.lookup4 room ip) = tt
listing (Call.lookup4_flow room ip tos oif) = tt
listing (Call.local4 ip) = tt
listing (Call.source4 row ip) = tt
listing (Call.source ip) = tt
listing (Call.select4 present dst scope) = tt

outcome-lists : (o : Outcome) (w : List ℕ) → KeptOutcome o → Lists (state_of w) (result o) → Lists (state_of w) (state_of (outcome o w).words)
outcome-lists o w k h =
    cond-case (λ (r : Result). Lists (state_of w) (state_of r.words)) (roomy o)
    (λ e. rw (decode-leaves w (result o) (good-result o k e)) h) (λ e. extends-same (state_of w).tables)

pub step-lists : (c : Call) (w : List ℕ) → Extends (state_of w).tables (state_of (step c w).words).tables
step-lists c w =
    let s = semantics c in
    perform-case (λ (r : Result). Lists (state_of w) (state_of r.words)) w s (λ z. go s.action (lawful c).acts (listing c) z)
    (λ n e z. extends-same (state_of w).tables)
  where
    k : Checks
    k = (semantics c).checks

    go : (a : Action) → Acts k a → ListsBy a → checked k w ≡ 0 → Lists (state_of w) (state_of (acted a w).words)
    go (changes listed f) l h z = outcome-lists (f (state_of w)) w (checked-sound k w z l).kept (h (state_of w))
    go (replies f) l h z = extends-same (state_of w).tables
    go (lists f) l h z = extends-same (state_of w).tables
