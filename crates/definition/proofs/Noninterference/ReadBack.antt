-- What is read from the buffer are the definition's rows, whatever the words: of a call's kind of row, as many as its numbers say, and
-- no more than the buffer has room for.
-- Assumes nothing.
use Rattle.std.specs.Prelude.{ℕ, ◌+◌, ◌≤◌, ◌≡◌, refl, true, List, ◌++◌, length, drop}
use Rattle.std.proofs.Common.{arith, ap, ◌∙◌, leb-true}
use Rattle.std.proofs.lemmas.Bool.{false≢true}
use Rattle.lists.specs.Lists.{Row, flat, put, chop}
use Rattle.lists.specs.Bools.{cond-case}
use Rattle.lists.specs.Rows.{length-flat, chop-flat, length-put}
use Rattle.definition.specs.State.{State, sizes}
use Rattle.definition.specs.Words.{within, state_of}
use Rattle.definition.specs.Call.{Call, Reply, Numbers, numbers, replied, refusal, written}
use Rattle.definition.specs.Reference.Addresses.{Outcome, goes, refused}
use Rattle.definition.specs.Step.{Result, Checks, Action, changes, replies, lists, Buffer, unlent, for_events, for_listing, for_row, event_room, outcome, semantics, step}
use Rattle.definition.specs.Preservation.Encode.{Admissible}
use Rattle.definition.proofs.Preservation.Shape.{Shaped, refusal-shaped}
use Rattle.definition.proofs.Preservation.Change.{Passes, Preserving, Acts, events_in, Shapes, lawful}
use Rattle.definition.proofs.Preservation.Step.{acted, perform-case, checked-held, checked-passes, good-held, outcome-events}
use Rattle.definition.specs.Noninterference.Public.{Lent, Made, room_of, width, rows_read, read_back}

-- ---- a change emits as many rows as its value says
record Counted (r : Reply) : Type 0 where
  says : r.value ≡ length r.rows

none-counted : (n : ℕ) → Counted (refusal n)
none-counted n = record { says = refl }

written-counted : (l : List Row) → Counted (written l)
written-counted l = record { says = refl }

outcome-counted : (o : Outcome) (w : List ℕ) → Counted (outcome o w).reply
outcome-counted (goes o) w = cond-case (λ (r : Result). Counted r.reply) (within o.peak) (λ e. written-counted o.emitted) (λ e. none-counted 203)
outcome-counted (refused n st) w = cond-case (λ (r : Result). Counted r.reply) (within (sizes st)) (λ e. none-counted n) (λ e. none-counted 203)

outcome-shaped : {later : State} (b : Buffer) (o : Outcome) (w : List ℕ) → Preserving later o → events_in b ≡ true → Shaped b (outcome o w).reply
outcome-shaped unlent o w s h = absurd (false≢true h)
outcome-shaped (for_events room) o w s h =
    let emitted = outcome-events o w s in
    record { counts = (outcome-counted o w).says; size = emitted.size; room = omega (arith, emitted.few, leb-true event_room room h) }
outcome-shaped (for_listing room) o w s h = absurd (false≢true h)
outcome-shaped (for_row room) o w s h = absurd (false≢true h)

-- ---- so every reply has the shape of its buffer
pub shaped : (c : Call) (w : List ℕ) → Shaped (semantics c).lent (step c w).reply
shaped c w =
    let s = semantics c in
    perform-case (λ (r : Result). Shaped s.lent r.reply) w s
    (λ z. go s.checks s.lent s.action (lawful c).acts (lawful c).shape (good-held w (checked-held s.checks w z)) (checked-passes s.checks w z))
    (λ n e z. refusal-shaped s.lent n z)
  where
    go : (k : Checks) (b : Buffer) (a : Action) → Acts k a → Shapes k b a → Admissible (state_of w) → Passes k → Shaped b (acted a w).reply
    go k b (changes listed f) l h g p = outcome-shaped b (f (state_of w)) w (l.sound (state_of w) g p) (h p.room)
    go k b (replies f) l h g p = h (state_of w) g p.room
    go k b (lists f) l h g p = h (state_of w) g p.room

-- and its rows are read back, whatever stood in the buffer
shaped-back : (k : Buffer) (r : Reply) (l : List ℕ) → Shaped k r → rows_read k (record { numbers = numbers r; buffer = put 0 (flat r.rows) l }) ≡ r.rows
unfolding put
shaped-back k r l h =
    ap (λ (m : ℕ). chop (width k) m (flat r.rows ++ drop (0 + length (flat r.rows)) l)) h.counts
    ∙ chop-flat (width k) r.rows (drop (0 + length (flat r.rows)) l) h.size

-- The law: the numbers and the buffer that a call gave are the whole of its reply, whatever the buffer's length.
pub whole-reply : (c : Call) (w b : List ℕ) (n : Numbers) (b' : List ℕ) → n ≡ numbers (step c w).reply → b' ≡ put 0 (flat (step c w).reply.rows) b
    → read_back c (record { numbers = n; buffer = b' }) ≡ (step c w).reply
whole-reply c w b n b' e f =
    let r = (step c w).reply in
    ap (λ (x : Numbers). read_back c (record { numbers = x; buffer = b' })) e
    ∙ ap (λ (x : List ℕ). read_back c (record { numbers = numbers r; buffer = x })) f
    ∙ ap (replied (numbers r)) (shaped-back (semantics c).lent r b (shaped c w))

pub read_back_lem : (c : Call) (w b : List ℕ) (n : Numbers) (w' b' : List ℕ) → Made c w b n w' b' → read_back c (record { numbers = n; buffer = b' }) ≡ (step c w).reply
read_back_lem c w b n w' b' m = whole-reply c w b n b' m.reply m.buffer

-- and the buffer keeps its length: the rows stand in it
lent-room : (k : Buffer) (b : List ℕ) → Lent k b → room_of k ≤ length b
lent-room unlent b h = omega arith
lent-room (for_events room) b h = omega arith
lent-room (for_listing room) b h = omega arith
lent-room (for_row room) b h = omega arith

pub buffer-kept : (c : Call) (w b : List ℕ) (n : Numbers) (w' b' : List ℕ) → Made c w b n w' b' → length b' ≡ length b
buffer-kept c w b n w' b' m =
    let s = shaped c w in
    let k = (semantics c).lent in
    ap length m.buffer
    ∙ length-put 0 (flat (step c w).reply.rows) b (omega (arith, length-flat (width k) (step c w).reply.rows s.size, s.room, lent-room k b m.lent))
