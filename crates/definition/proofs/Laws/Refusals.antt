-- What a refusal leaves (document 01, "When a call says no", the last column): its number and nothing else; with 200 to 203 every
-- word; with another number every word too, but for add_route4, whose table is listed by then.
-- Assumes nothing.
use Rattle.std.specs.Prelude.{ℕ, zero, suc, ◌≤◌, ◌<◌, ◌≡◌, refl, Bool, true, false, ◌&&◌, List, ◌≢◌, eqb, length}
use Rattle.std.proofs.Common.{sym, ap, ◌∙◌, arith, le-leb}
use Rattle.std.proofs.lemmas.Bool.{false≢true, eqb-false}
use Rattle.lists.specs.Lists.{Row}
use Rattle.lists.specs.Bools.{cond-case}
use Rattle.layout.specs.Request.{fit_add_route4}
use Rattle.definition.specs.State.{State}
use Rattle.definition.specs.Words.{state_size, state_of, formed, leaves}
use Rattle.definition.specs.Call.{Call, Reply, refusal}
use Rattle.definition.specs.Reference.Insert.{create4}
use Rattle.definition.specs.Reference.Addresses.{Outcome, goes, refused}
use Rattle.definition.specs.Reference.Routes.{table_named}
use Rattle.definition.specs.Step.{Result, Checks, Action, changes, replies, lists, checks, checked, unless, unfit, roomy, outcome, semantics, step}
pub use Rattle.definition.specs.Preservation.Refused.{Leaves, add_v4-leaves, del_v4-leaves, del_route4-leaves, added-leaves}
use Rattle.definition.proofs.Preservation.Change.{Preserving, Acts, lawful}
use Rattle.definition.proofs.Preservation.Step.{acted, perform-case, checked-held, checked-sound, leaves-decode}

-- ---- its number and nothing else
abbrev Alone : Reply → Type 0
Alone r = r.number ≢ 0 → r ≡ refusal r.number

outcome-alone : (o : Outcome) (w : List ℕ) → Alone (outcome o w).reply
outcome-alone (goes o) w = cond-case (λ (r : Result). Alone r.reply) (roomy (goes o)) (λ e h. absurd (h refl)) (λ e h. refl)
outcome-alone (refused n st) w = cond-case (λ (r : Result). Alone r.reply) (roomy (refused n st)) (λ e h. refl) (λ e h. refl)

pub alone : (c : Call) (w : List ℕ) → (step c w).reply.number ≢ 0 → (step c w).reply ≡ refusal (step c w).reply.number
alone c w = perform-case (λ (r : Result). Alone r.reply) w (semantics c) (λ z. go _ (semantics c).action (lawful c).acts) (λ n e z h. refl)
  where
    go : (k : Checks) (a : Action) → Acts k a → Alone (acted a w).reply
    go k (changes listed f) l = outcome-alone (f (state_of w)) w
    go k (replies f) l = (l.proper (state_of w)).alone
    go k (lists f) l = λ h. absurd (h refl)

-- ---- 200 to 203: every word stays
outcome-unfit : {later : State} (o : Outcome) (w : List ℕ) → Preserving later o → unfit (outcome o w).reply.number ≡ true → (outcome o w).words ≡ w
outcome-unfit (goes o) w s =
    cond-case (λ (r : Result). unfit r.reply.number ≡ true → r.words ≡ w) (roomy (goes o)) (λ e h. absurd (false≢true h)) (λ e h. refl)
outcome-unfit (refused n st) w s =
    cond-case (λ (r : Result). unfit r.reply.number ≡ true → r.words ≡ w) (roomy (refused n st)) (λ e h. absurd (false≢true (sym s.numbered.fit ∙ h))) (λ e h. refl)

pub unfit-stays : (c : Call) (w : List ℕ) → unfit (step c w).reply.number ≡ true → (step c w).words ≡ w
unfit-stays c w =
    perform-case (λ (r : Result). unfit r.reply.number ≡ true → r.words ≡ w) w (semantics c) (λ z. go _ (semantics c).action (lawful c).acts z) (λ n e z h. refl)
  where
    go : (k : Checks) (a : Action) → Acts k a → checked k w ≡ 0 → unfit (acted a w).reply.number ≡ true → (acted a w).words ≡ w
    go k (changes listed f) l z = outcome-unfit (f (state_of w)) w (checked-sound k w z l)
    go k (replies f) l z = λ h. refl
    go k (lists f) l z = λ h. refl

pub unfit-leaves : (c : Call) (w : List ℕ) → 200 ≤ (step c w).reply.number → (step c w).words ≡ w
unfit-leaves c w h = unfit-stays c w (le-leb 200 (step c w).reply.number h)

-- ---- a refusal of the reference: what is listed by then, or the words as they were
abbrev pub listed_by : Action → State → State
listed_by (changes listed f) st = listed st
listed_by (replies f) st = st
listed_by (lists f) st = st

outcome-listed : (later : State) (o : Outcome) (w : List ℕ) → Leaves later o → (outcome o w).reply.number ≢ 0 → (outcome o w).reply.number ≢ 203 → (outcome o w).words ≡ leaves w later
outcome-listed later (goes o) w l =
    cond-case (λ (r : Result). r.reply.number ≢ 0 → r.reply.number ≢ 203 → r.words ≡ leaves w later) (roomy (goes o)) (λ e h k. absurd (h refl)) (λ e h k. absurd (k refl))
outcome-listed later (refused n st) w l =
    cond-case (λ (r : Result). r.reply.number ≢ 0 → r.reply.number ≢ 203 → r.words ≡ leaves w later) (roomy (refused n st)) (λ e h k. ap (leaves w) l) (λ e h k. absurd (k refl))

outcome-same : (later : State) (o : Outcome) (w : List ℕ) → Leaves later o → leaves w later ≡ w → (outcome o w).reply.number ≢ 0 → (outcome o w).words ≡ w
outcome-same later (goes o) w l s =
    cond-case (λ (r : Result). r.reply.number ≢ 0 → r.words ≡ w) (roomy (goes o)) (λ e h. absurd (h refl)) (λ e h. refl)
outcome-same later (refused n st) w l s =
    cond-case (λ (r : Result). r.reply.number ≢ 0 → r.words ≡ w) (roomy (refused n st)) (λ e h. ap (leaves w) l ∙ s) (λ e h. refl)

pub refused-listed : (c : Call) (w : List ℕ) → checked (semantics c).checks w ≡ 0 → (step c w).reply.number ≢ 0 → (step c w).reply.number ≢ 203
    → (step c w).words ≡ leaves w (listed_by (semantics c).action (state_of w))
refused-listed c w z =
    perform-case (λ (r : Result). r.reply.number ≢ 0 → r.reply.number ≢ 203 → r.words ≡ leaves w (listed_by (semantics c).action (state_of w))) w (semantics c)
    (λ z. go _ (semantics c).action (lawful c).acts z) (λ n e y. absurd (eqb-false n 0 y (e ∙ z)))
  where
    go : (k : Checks) (a : Action) → Acts k a → checked k w ≡ 0 → (acted a w).reply.number ≢ 0 → (acted a w).reply.number ≢ 203 → (acted a w).words ≡ leaves w (listed_by a (state_of w))
    go k (changes listed f) l z = outcome-listed (listed (state_of w)) (f (state_of w)) w (checked-sound k w z l).leaves
    go k (replies f) l z = λ h i. sym (leaves-decode w (checked-held k w z))
    go k (lists f) l z = λ h i. absurd (h refl)

-- add_route4: its table is listed, 255 with 254, and nothing else is changed
zero_or : (n : ℕ) → (n ≢ 0 → 200 ≤ n) → n < 200 → n ≡ 0
zero_or zero l h = refl
zero_or (suc n) l h = absurd (omega (arith, l (λ e. omega arith)))

unless-least : (b : Bool) → unless b 202 ≢ 0 → 200 ≤ unless b 202
unless-least true h = absurd (h refl)
unless-least false h = omega arith

checks-least : (buffers state : Bool) (request : ℕ) → (request ≢ 0 → 200 ≤ request) → checks buffers state request < 200 → checks buffers state request ≡ 0
checks-least true true request l h = zero_or request l h
checks-least true false request l h = absurd (omega arith)
checks-least false state request l h = absurd (omega arith)

checked-least : (k : Checks) (w : List ℕ) → (k.request ≢ 0 → 200 ≤ k.request) → checked k w < 200 → checked k w ≡ 0
checked-least k w l h = checks-least (eqb (length w) state_size && k.buffers) (formed w && k.row) k.request l h

-- a call whose checks give no number under 200
checked_under : (c : Call) (w : List ℕ) → ((semantics c).checks.request ≢ 0 → 200 ≤ (semantics c).checks.request) → (step c w).reply.number < 200 → checked (semantics c).checks w ≡ 0
checked_under c w l =
    perform-case (λ (r : Result). r.reply.number < 200 → checked (semantics c).checks w ≡ 0) w (semantics c) (λ z h. z)
    (λ n e z h. checked-least (semantics c).checks w l (rw e at h))

pub add_route4-listed : (q : Row) (events : ℕ) (w : List ℕ) → (step (Call.add_route4 q events) w).reply.number ≢ 0 → (step (Call.add_route4 q events) w).reply.number < 200
    → (step (Call.add_route4 q events) w).words ≡ leaves w (create4 (table_named q) (state_of w))
add_route4-listed q events w h b =
    refused-listed (Call.add_route4 q events) w (checked_under (Call.add_route4 q events) w (unless-least (fit_add_route4 q)) b) h (λ e. omega arith)

-- the calls that list none: every word stays
pub others_leave : (c : Call) (w : List ℕ) → ((st : State) → listed_by (semantics c).action st ≡ st) → (step c w).reply.number ≢ 0 → (step c w).words ≡ w
others_leave c w same =
    perform-case (λ (r : Result). r.reply.number ≢ 0 → r.words ≡ w) w (semantics c) (λ z. go _ (semantics c).action (lawful c).acts same z) (λ n e y h. refl)
  where
    go : (k : Checks) (a : Action) → Acts k a → ((st : State) → listed_by a st ≡ st) → checked k w ≡ 0 → (acted a w).reply.number ≢ 0 → (acted a w).words ≡ w
    go k (changes listed f) l same z = outcome-same (listed (state_of w)) (f (state_of w)) w (checked-sound k w z l).leaves (ap (leaves w) (same (state_of w)) ∙ leaves-decode w (checked-held k w z))
    go k (replies f) l same z = λ h. refl
    go k (lists f) l same z = λ h. refl
