-- The answers of calls, by what the step below each comes to.
-- Assumes nothing.
use Rattle.std.specs.Prelude.{ℕ, ◌≤◌, ◌≡◌, refl, Bool, true, ◌&&◌, ◌||◌, List, length, Ok, Err}
use denote.Ref.{MutBor}
use Rattle.std.specs.Prelude.{Result as Answer}
use Rattle.std.proofs.Common.{arith, sym, ap, subst, ◌∙◌, leb-true}
use Rattle.std.proofs.Math.Bool.{and-true}
use Rattle.lists.specs.Lists.{Row, first, flat, put}
use Rattle.lists.specs.Count.{count_most}
use Rattle.lists.specs.Bools.{and_iff, test-case, cond-true, cond-false}
use Rattle.definition.specs.State.{State, Out, sizes}
use Rattle.definition.specs.Words.{within, well_formed, base, state_of}
use Rattle.definition.specs.Call.{Call, Reply}
use Rattle.definition.specs.Step.{Result, Checks, semantics, outcome, roomy, event_limit, event_room, step}
use Rattle.definition.proofs.Preservation.Step.{acted}
use Rattle.definition_parts.specs.Rule.{has_events, more_tables, fewer_routes, row_changes, altered}
use Rattle.definition.specs.Reference.Addresses.{Outcome, goes, refused, down, same_address}
use Rattle.definition.specs.Preservation.Shrinking.{potential, live}
use Rattle.definition.specs.Preservation.Encode.{Admissible}
use Rattle.definition.proofs.Preservation.Numbers.{Numbered}
use Rattle.state.specs.Represents.{Represents}
use Rattle.step_events.specs.Emits.{Emits}
use Rattle.step_events.specs.EmitsWithin.{RoomFor}
use Rattle.step_events.specs.Comes.{Comes, ComesWhole, made, goes-made, whole-made}
use Rattle.step_events.specs.declared.change.Change.{Change}
use Rattle.call_read.specs.Laws.{Passed, call-passed}
use Rattle.refusal.specs.declared.Refusal.{Refusal}
use Rattle.refusal.specs.declared.Refusal.TheVariants.{Errno, Full}
use Rattle.call_read.specs.Answer.{valuing}
use Rattle.call_change.specs.Answer.{Answers}
use Rattle.call_change.specs.Count.{leaving}
use Rattle.call_change.specs.Laws.{Left, left-made, left-full, left-words, left-formed, counts}
use Rattle.call_change.specs.Ran.{Step, Begins, Ran, Counts, telling}

-- ---- room for what a step may emit: 385 rows suffice
potential-few : (st : State) → Admissible st → potential st ≤ event_limit
potential-few st g =
    let k = simp and_iff at g.limits in
    omega (arith, leb-true (length st.addresses) 64 k.0.0, leb-true (length st.routes) 256 k.0.1, count_most live st.addresses)

pub fitting : {k : Checks} {w ev : List ℕ} {a : Change} → Passed k w → Begins (base w) ev a → event_room ≤ length ev → RoomFor potential (state_of w) a
fitting {w = w} p begins room = record { holds = rw begins.words p.holds; room = omega (arith, potential-few (state_of w) p.good, begins.none, ap length begins.buffer, room) }

-- ---- a step on a change that had told nothing
module _ {u v ev ev' : List ℕ} {a b : Change} (begins : Begins u ev a)
    (words : a.state.words.ghost_name ≡ b.state.words.ghost_name → v ≡ b.state.words.now) (rows : a.events.ghost_name ≡ b.events.ghost_name → ev' ≡ b.events.now) where
  module _ {o : Out} (s : Emits o a b) where
    left : Represents v o.state
    left = rw (words (sym s.tells.places.state)) s.holds

    written : ev' ≡ put 0 (flat o.emitted) ev
    written = rows (sym s.tells.places.events) ∙ (rw (begins.none, begins.buffer) at s.tells.words)

    count : b.told ≡ length o.emitted
    count = omega (arith, s.tells.told, begins.none)

  module _ {k : Checks} {w : List ℕ} {d : Answer (Unit {0}) Refusal} (p : Passed k w) where
    made-left : (o : Outcome) → Numbered o → Comes o a b d → roomy o ≡ true → Left (outcome o w) v ev ev' (telling b d)
    made-left (goes o) m c h =
        let s = c.does h in
        let says : d ≡ Ok tt = c.answer ∙ cond-true (within o.peak) (made (goes o)) (Err Full) h in
        rw says (left-made (goes o) w h (left s) refl (ap valuing (count s)) (written s))
    made-left (refused n st) m c h =
        let s = c.does h in
        let says : d ≡ Err (Errno n) = c.answer ∙ cond-true (within (sizes st)) (made (refused n st)) (Err Full) h in
        rw says (left-made (refused n st) w h (left s) (refl, λ z. omega (arith, m.positive)) refl (written s))

    -- one that may be refused, or find a list full: then it has left the words and the buffer
    whole-left : (o : Outcome) → Numbered o → ComesWhole (state_of w) o a b d → Left (outcome o w) v ev ev' (telling b d)
    whole-left o m t =
        test-case (roomy o) (made-left o m t.comes)
        (λ h.
        let s = t.kept h in
        let says : d ≡ Err Full = t.comes.answer ∙ cond-false (roomy o) (made o) (Err Full) h in
        rw says (left-full o w h ((left s).words ∙ sym p.holds.words) refl (written s)))

-- what a call's step answers and leaves, by what it comes to
ran-left : {k : Checks} {w v ev ev' : List ℕ} {r : Answer ℕ Refusal} {F : Type 0} {g : Step F} {f : F} (o : Outcome) → Passed k w → Ran g f (base w) v ev ev' r → Numbered o
    → ((a b : MutBor Change) (d : Answer (Unit {0}) Refusal) → Begins (base w) ev a.now → g.post f (a, tt) (d, (b, tt)) → ComesWhole (state_of w) o a.now b.now d)
    → Left (outcome o w) v ev ev' r
ran-left {w = w} {v} {ev} {ev'} {r} o p t m comes =
    let h = t.ran in
    let began = subst (λ (x : Change). Begins (base w) ev x) (sym h.shows) t.begins in
    let came = subst (λ (y : Change). ComesWhole (state_of w) o h.shown.now y t.gave) h.leaves (comes h.shown h.left t.gave began h.met) in
    let whole = subst (λ (x : Change). ComesWhole (state_of w) o x t.to t.gave) h.shows came in
    rw t.answer (whole-left t.begins t.left t.rows p o m whole)

-- and the call, its change counted
pub counts-answers : (c : Call) {w w' ev ev' : List ℕ} {r : Answer ℕ Refusal} {F : Type 0} {g : Step F} {f : F} {other : Bool} (o : Outcome) → Passed (semantics c).checks w
    → acted (semantics c).action w ≡ outcome o w → ((x : Reply) (v : List ℕ) → altered c w x v ≡ (has_events x && other) || more_tables w v)
    → Counts g f other w w' ev ev' r → Numbered o
    → ((a b : MutBor Change) (d : Answer (Unit {0}) Refusal) → Begins (base w) ev a.now → g.post f (a, tt) (d, (b, tt)) → ComesWhole (state_of w) o a.now b.now d)
    → Answers (step c w) w' ev ev' r
counts-answers c {w} {ev = ev} {ev'} {r} {other = other} o p e rule t m comes =
    let left = subst (λ (x : Result). Left x t.lists ev ev' r) (sym (call-passed (semantics c) w p ∙ e)) (ran-left o p t.ran m comes) in
    counts c other p.well left (λ x. rule x t.lists) t.words

-- a step that no rule refuses, and that keeps to the limits, comes to what it emits
pub whole_goes : (st : State) {o : Out} {a b : Change} {d : Answer (Unit {0}) Refusal} → within o.peak ≡ true → d ≡ Ok tt → Emits o a b → ComesWhole st (goes o) a b d
whole_goes st h e s = rw e (whole-made st h (goes-made h s))

-- the same of a request that was taken by its words
pub taken : {st : State} {a b : Change} {d : Answer (Unit {0}) Refusal} {q l : Row} (o : Row → Outcome) → l ≡ q → ComesWhole st (o l) a b d → ComesWhole st (o q) a b d
taken {st} {a} {b} {d} o same t = subst (λ (x : Row). ComesWhole st (o x) a b d) same t

-- ---- the rule by which a call's change is counted: a row was told, of another address or route, or a table listed
pub some-rule : (w : List ℕ) (x : Reply) (v : List ℕ) → has_events x || more_tables w v ≡ (has_events x && true) || more_tables w v
some-rule w x v = ap (λ (b : Bool). b || more_tables w v) (sym (and-true (has_events x)))

pub row-rule : (q : Row) (now : ℕ) (w : List ℕ) {other : Bool} → other ≡ row_changes q now (first (same_address q) (state_of w).addresses) → (x : Reply) (v : List ℕ)
    → (has_events x && row_changes q now (first (same_address q) (state_of w).addresses)) || more_tables w v ≡ (has_events x && other) || more_tables w v
row-rule q now w e x v = ap (λ (b : Bool). (has_events x && b) || more_tables w v) (sym e)

-- down, whose change is told by fewer routes
pub down-answers : (w : List ℕ) (room : ℕ) {v w' ev ev' : List ℕ} {r : Answer ℕ Refusal} {F : Type 0} {g : Step F} {f : F} → Passed (semantics (Call.down room)).checks w
    → Ran g f (base w) v ev ev' r
    → ((a b : MutBor Change) (d : Answer (Unit {0}) Refusal) → Begins (base w) ev a.now → g.post f (a, tt) (d, (b, tt)) → ComesWhole (state_of w) (goes (down (state_of w))) a.now b.now d)
    → (well_formed v ≡ true → w' ≡ leaving (fewer_routes w v) w v) → Answers (step (Call.down room) w) w' ev ev' r
down-answers w room {v} {ev = ev} {ev'} {r} p t comes e =
    let left = subst (λ (x : Result). Left x v ev ev' r) (sym (call-passed (semantics (Call.down room)) w p)) (ran-left (goes (down (state_of w))) p t tt comes) in
    record {
      refuses = left.refuses;
      says = left.says;
      words = e (left-formed (Call.down room) p.well left) ∙ left-words (Call.down room) _ p.well left refl;
      events = left.events;
    }
