-- Every call on well-formed words leaves well-formed words; of a changing call, what it emits and when it gives 203.
-- Assumes nothing.
use Rattle.std.specs.Prelude.{ℕ, ◌≤◌, ◌≡◌, refl, Bool, true, false, not, ◌&&◌, List, [], ◌++◌, ◌↔◌, ◌≢◌, eqb, ltb, length, take, drop}
use Rattle.std.proofs.Common.{sym, ap, ◌∙◌, arith, length-append, length-take, take-append-drop, drop-drop, append_assoc, take_at, drop_at, eqb-true, eq-eqb, leb-true, le-leb}
use Rattle.std.proofs.lemmas.Bool.{false≢true, not-true}
use Rattle.lists.specs.Lists.{Row, zeros, span}
use Rattle.lists.specs.Bools.{and_left, and_right, and_iff, cond-case, test-case}
use Rattle.lists.specs.All.{eq_row-refl, eq_row-true}
use Rattle.lists.specs.Rows.{sized, length-zeros, drop-zeros, pad_nil, length-span, zeros_append}
use Rattle.definition.specs.State.{State, Sizes, sizes, empty}
use Rattle.definition.specs.Words.{within, table_limit, base_size, count_size, row_counts_at, behind_size, state_size, encode, decode, well_formed, base, state_of, row_counts, counts_true, formed, largest_count, change_count, changed, counted, leaves}
use Rattle.definition.specs.Call.{Call, written}
use Rattle.definition.specs.Reference.Addresses.{Outcome, goes, refused}
use Rattle.definition.specs.Step.{Result, refuses, Checks, Action, changes, replies, lists, alters, Semantics, checks, checked, unfit, result, roomy, outcome, changing, reading, act, perform, semantics, step}
use Rattle.definition.specs.Preservation.Fit.{state-fit}
use Rattle.definition.specs.Preservation.Encode.{Encodable, Admissible, encodable, length-encode, length-row_counts, well_formed-encode, decode-encode, encode-decode, good-decode, good-empty, encode-empty}
use Rattle.definition.specs.Preservation.Keeps.{Covers, KeptOutcome}
use Rattle.definition.proofs.Preservation.Change.{Passes, Preserving, Changes, Acts, lawful}

-- ---- well-formed words
pub record Held (w : List ℕ) : Type 0 where
  pub long : length w ≡ state_size
  pub well : well_formed (base w) ≡ true
  pub counts : drop row_counts_at w ≡ row_counts (state_of w)

pub formed-held : (w : List ℕ) → length w ≡ state_size → formed w ≡ true → Held w
unfolding counts_true
formed-held w l h =
    record {
      long = l;
      well = and_left (well_formed (base w)) (counts_true w) h;
      counts = eq_row-true (drop row_counts_at w) (row_counts (state_of w)) (and_right (well_formed (base w)) (counts_true w) h);
    }

pub held-formed : (w : List ℕ) → Held w → formed w ≡ true
unfolding counts_true
held-formed w h = simp and_iff (h.well, rw h.counts (eq_row-refl (row_counts (state_of w))))

pub base-long : (w : List ℕ) → length w ≡ state_size → length (base w) ≡ base_size
base-long w l = simp length-take (omega arith)

pub good-held : (w : List ℕ) → Held w → Admissible (state_of w)
good-held w h = good-decode (base w) (base-long w h.long) h.well

-- the words of the lists, whatever is behind them
base-encode : (st : State) (l : List ℕ) → Encodable st → base (encode st ++ l) ≡ encode st
base-encode st l g = take_at (encode st) l base_size (length-encode st g)

empty-words : zeros state_size ≡ encode empty ++ zeros behind_size
empty-words = sym (zeros_append base_size behind_size) ∙ ap (λ (l : List ℕ). l ++ zeros behind_size) (sym encode-empty)

pub decode-empty : state_of (zeros state_size) ≡ empty
decode-empty =
    ap state_of empty-words ∙ ap decode (base-encode empty (zeros behind_size) (encodable good-empty)) ∙ decode-encode empty (encodable good-empty)

no-counts : row_counts empty ≡ zeros table_limit
unfolding row_counts
no-counts = pad_nil table_limit

pub held-empty : Held (zeros state_size)
held-empty =
    record {
      long = length-zeros state_size;
      well =
          ap (λ (w : List ℕ). well_formed (base w)) empty-words ∙ ap well_formed (base-encode empty (zeros behind_size) (encodable good-empty))
          ∙ well_formed-encode empty good-empty;
      counts = drop-zeros row_counts_at table_limit ∙ sym (ap row_counts decode-empty ∙ no-counts);
    }

-- ---- the change count
-- it has its two words
pub length-counted : (b : Bool) (w : List ℕ) → length w ≡ state_size → length (counted b w) ≡ count_size
unfolding counted
length-counted b w l =
    cond-case (λ (v : List ℕ). length v ≡ count_size) (b && ltb (change_count w) largest_count) (λ e. refl) (λ e. length-span base_size count_size w (omega arith))

-- without a change it is what it was, and all behind the lists is
pub counted-idle : (w : List ℕ) → counted false w ++ drop row_counts_at w ≡ drop base_size w
unfolding counted span
counted-idle w =
    ap (λ (l : List ℕ). take count_size (drop base_size w) ++ l) (sym (drop-drop count_size base_size w)) ∙ take-append-drop count_size (drop base_size w)

changed-same : (w : List ℕ) (st : State) → encode st ≡ base w → changed w st ≡ false
unfolding changed
changed-same w st e = rw (e, eq_row-refl (base w)) refl

-- ---- the words that a call leaves: they are well-formed, hold the state, and are the old ones where that is the old one
pub base-leaves : (w : List ℕ) (st : State) → Encodable st → base (leaves w st) ≡ encode st
base-leaves w st g = base-encode st (counted (changed w st) w ++ row_counts st) g

-- the row counts stand behind the change count
counts-leaves : (w : List ℕ) (st : State) → Held w → Encodable st → drop row_counts_at (leaves w st) ≡ row_counts st
counts-leaves w st h g =
    ap (drop row_counts_at) (sym (append_assoc (encode st) (counted (changed w st) w) (row_counts st)))
    ∙ drop_at (encode st ++ counted (changed w st) w) (row_counts st) row_counts_at
    (simp length-append (omega (arith, length-encode st g, length-counted (changed w st) w h.long)))

pub decode-leaves : (w : List ℕ) (st : State) → Admissible st → state_of (leaves w st) ≡ st
decode-leaves w st g = rw (base-leaves w st (encodable g)) (decode-encode st (encodable g))

pub held-leaves : (w : List ℕ) (st : State) → Held w → Admissible st → Held (leaves w st)
held-leaves w st h g =
    record {
      long =
          simp length-append
          (omega (arith, length-encode st (encodable g), length-counted (changed w st) w h.long, length-row_counts st (encodable g)));
      well = rw (base-leaves w st (encodable g)) (well_formed-encode st g);
      counts = counts-leaves w st h (encodable g) ∙ ap row_counts (sym (decode-leaves w st g));
    }

pub leaves-decode : (w : List ℕ) → Held w → leaves w (state_of w) ≡ w
leaves-decode w h =
    let same : encode (state_of w) ≡ base w = encode-decode (base w) (base-long w h.long) h.well in
    rw (changed-same w (state_of w) same, same, ← h.counts, counted-idle w) (take-append-drop base_size w)

-- what a peak within the limits covers is within them
pub covered : (a b : Sizes) → Covers a b → within b ≡ true → within a ≡ true
covered a b c h =
    let k = simp and_iff at h in
    simp and_iff (
      (le-leb a.addresses 64 (omega (arith, c.of_addresses, leb-true b.addresses 64 k.0.0)), le-leb a.routes 256 (omega (arith, c.of_routes, leb-true b.routes 256 k.0.1))),
      le-leb a.tables 32 (omega (arith, c.of_tables, leb-true b.tables 32 k.1)),
    )

-- with room, an outcome that keeps a fit state leaves a good one
pub good-result : (o : Outcome) → KeptOutcome o → roomy o ≡ true → Admissible (result o)
good-result (goes o) k e = record { fits = state-fit o.state k.fit; limits = covered (sizes o.state) o.peak k.covers e }
good-result (refused n st) f e = record { fits = state-fit st f; limits = e }

-- ---- the checks are passed where they give 0
pub record Passed (buffers state : Bool) (request : ℕ) : Type 0 where
  pub room : buffers ≡ true
  pub formed : state ≡ true
  pub asked : request ≡ 0

pub checks-zero : (buffers state : Bool) (request : ℕ) → checks buffers state request ≡ 0 → Passed buffers state request
checks-zero true true request h = record { room = refl; formed = refl; asked = h }
checks-zero true false request h = absurd (omega arith)
checks-zero false state request h = absurd (omega arith)

checks_203 : (buffers state : Bool) (request : ℕ) → request ≢ 203 → checks buffers state request ≢ 203
checks_203 true true request h e = h e
checks_203 true false request h e = omega arith
checks_203 false state request h e = omega arith

pub checked_203 : (k : Checks) (w : List ℕ) → k.request ≢ 203 → checked k w ≢ 203
checked_203 k w h = checks_203 (eqb (length w) state_size && k.buffers) (formed w && k.row) k.request h

module _ (k : Checks) (w : List ℕ) (z : checked k w ≡ 0) where
  pub checked-held : Held w
  checked-held =
      let p = checks-zero (eqb (length w) state_size && k.buffers) (formed w && k.row) k.request z in
      formed-held w (eqb-true (length w) state_size (and_left (eqb (length w) state_size) k.buffers p.room)) (and_left (formed w) k.row p.formed)

  pub checked-passes : Passes k
  checked-passes =
      let p = checks-zero (eqb (length w) state_size && k.buffers) (formed w && k.row) k.request z in
      record { room = and_right (eqb (length w) state_size) k.buffers p.room; handed = and_right (formed w) k.row p.formed; fit = p.asked }

  pub checked-sound : {listed : State → State} {f : State → Outcome} → Changes k listed f → Preserving (listed (state_of w)) (f (state_of w))
  checked-sound s = s.sound (state_of w) (good-held w checked-held) checked-passes

-- what an action comes to, once they are passed
abbrev pub acted : Action → List ℕ → Result
acted (changes listed f) w = outcome (f (state_of w)) w
acted (replies f) w = record { reply = f (state_of w); words = w }
acted (lists f) w = record { reply = written (f (state_of w)); words = w }

-- what holds of that and of a refusal holds of a call
pub perform-case : (P : Result → Type 0) (w : List ℕ) (s : Semantics) → (checked s.checks w ≡ 0 → P (acted s.action w))
    → ((n : ℕ) → n ≡ checked s.checks w → eqb n 0 ≡ false → P (refuses n w)) → P (perform s w)
unfolding changing reading
perform-case P w s x y = go s.action x
  where
    n : ℕ
    n = checked s.checks w

    go : (a : Action) → (n ≡ 0 → P (acted a w)) → P (act a s.checks w)
    go (changes listed f) x = cond-case P (eqb n 0) (λ e. x (eqb-true n 0 e)) (y n refl)
    go (replies f) x = test-case (eqb n 0) (λ e. rw e (x (eqb-true n 0 e))) (λ e. rw e (y n refl e))
    go (lists f) x = test-case (eqb n 0) (λ e. rw e (x (eqb-true n 0 e))) (λ e. rw e (y n refl e))

-- a call that doesn't change the state leaves the words
pub perform-reads : (s : Semantics) (w : List ℕ) → alters s.action ≡ false → (perform s w).words ≡ w
unfolding reading
perform-reads s w = go s.action
  where
    go : (a : Action) → alters a ≡ false → (act a s.checks w).words ≡ w
    go (changes listed f) e = absurd (false≢true (sym e))
    go (replies f) e = refl
    go (lists f) e = refl

-- ---- the words stay well-formed
outcome-held : (o : Outcome) (w : List ℕ) → KeptOutcome o → Held w → Held (outcome o w).words
outcome-held o w k h =
    cond-case (λ (r : Result). Held r.words) (roomy o) (λ e. held-leaves w (result o) h (good-result o k e)) (λ e. h)

pub step-held : (c : Call) (w : List ℕ) → Held w → Held (step c w).words
step-held c w h =
    let s = semantics c in
    perform-case (λ (r : Result). Held r.words) w s (λ z. go s.checks s.action (lawful c).acts (checked-passes s.checks w z)) (λ n e z. h)
  where
    go : (k : Checks) (a : Action) → Acts k a → Passes k → Held (acted a w).words
    go k (changes listed f) l p = outcome-held (f (state_of w)) w (l.sound (state_of w) (good-held w h) p).kept h
    go k (replies f) l p = h
    go k (lists f) l p = h

pub kept : (c : Call) (w : List ℕ) → length w ≡ state_size → formed w ≡ true → (length (step c w).words ≡ state_size) × (formed (step c w).words ≡ true)
kept c w long well =
    let h = step-held c w (formed-held w long well) in
    (h.long, held-formed (step c w).words h)

-- ---- what is emitted, whatever the words
pub record Events (rows : List Row) : Type 0 where
  pub few : length rows ≤ 385
  pub size : sized 34 rows ≡ true

no-events : Events []
no-events = record { few = omega arith; size = refl }

pub outcome-events : {later : State} (o : Outcome) (w : List ℕ) → Preserving later o → Events (outcome o w).reply.rows
outcome-events (goes o) w s =
    cond-case (λ (r : Result). Events r.reply.rows) (within o.peak) (λ e. record { few = s.event_bound.few e; size = s.kept.events }) (λ e. no-events)
outcome-events (refused n st) w s =
    cond-case (λ (r : Result). Events r.reply.rows) (within (sizes st)) (λ e. no-events) (λ e. no-events)

pub emitted-bound : (c : Call) (w : List ℕ) → alters (semantics c).action ≡ true → Events (step c w).reply.rows
emitted-bound c w t =
    let s = semantics c in
    perform-case (λ (r : Result). Events r.reply.rows) w s (λ z. go s.checks s.action t (lawful c).acts z) (λ n e z. no-events)
  where
    go : (k : Checks) (a : Action) → alters a ≡ true → Acts k a → checked k w ≡ 0 → Events (acted a w).reply.rows
    go k (changes listed f) t l z = outcome-events (f (state_of w)) w (checked-sound k w z l)
    go k (replies f) t l z = absurd (false≢true t)
    go k (lists f) t l z = absurd (false≢true t)

-- ---- 203: the checks are passed and a list passes its limit, exactly then
abbrev pub crowds : Action → State → Bool
crowds (changes listed f) st = not (roomy (f st))
crowds (replies f) st = false
crowds (lists f) st = false

outcome-only : {later : State} (o : Outcome) (w : List ℕ) → Preserving later o → (outcome o w).reply.number ≡ 203 → not (roomy o) ≡ true
outcome-only (goes o) w s =
    cond-case (λ (r : Result). r.reply.number ≡ 203 → not (roomy (goes o)) ≡ true) (roomy (goes o)) (λ e k. absurd (omega arith)) (λ e k. rw e)
outcome-only (refused n st) w s =
    cond-case (λ (r : Result). r.reply.number ≡ 203 → not (roomy (refused n st)) ≡ true) (roomy (refused n st)) (λ e k. absurd (false≢true (sym s.numbered.fit ∙ ap unfit k))) (λ e k. rw e)

pub full_exactly : (c : Call) (w : List ℕ) → ((step c w).reply.number ≡ 203) ↔ ((checked (semantics c).checks w ≡ 0) × (crowds (semantics c).action (state_of w) ≡ true))
unfolding changing
full_exactly c w = (
  perform-case (λ (r : Result). r.reply.number ≡ 203 → (checked k w ≡ 0) × (crowds (semantics c).action (state_of w) ≡ true)) w (semantics c)
      (λ z h. (z, only (semantics c).action (lawful c).acts z h))
      (λ n e z h. absurd (checked_203 k w (lawful c).request (sym e ∙ h))),
  (λ h. full (semantics c).action h.0 h.1),
)
  where
    k : Checks
    k = (semantics c).checks

    only : (a : Action) → Acts k a → checked k w ≡ 0 → (acted a w).reply.number ≡ 203 → crowds a (state_of w) ≡ true
    only (changes listed f) l z h = outcome-only (f (state_of w)) w (checked-sound k w z l) h
    only (replies f) l z h = absurd ((l.proper (state_of w)).spaced h)
    only (lists f) l z h = absurd (omega arith)

    full : (a : Action) → checked k w ≡ 0 → crowds a (state_of w) ≡ true → (act a k w).reply.number ≡ 203
    full (changes listed f) z h = rw (eq-eqb (checked k w) 0 z, not-true (roomy (f (state_of w))) h)
    full (replies f) z h = absurd (false≢true h)
    full (lists f) z h = absurd (false≢true h)
