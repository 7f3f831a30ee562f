-- A changing call's answer and what it leaves, by its checks and by what the step below it left of the words that it was lent.
-- Assumes nothing.
use Rattle.std.specs.Prelude.{ℕ, ◌+◌, ◌*◌, ◌/◌, ◌≤◌, ◌≡◌, ◌≢◌, refl, Bool, true, false, ◌&&◌, ◌||◌, List, [], ◌++◌, eqb, ltb, length, drop, Ok, Err, IsErrAnd}
use Rattle.std.specs.Prelude.{Result as Answer}
use Rattle.std.specs.Result.{result_unwrap_or}
use Rattle.std.proofs.Common.{arith, sym, ap, subst, ◌∙◌, ne_eqb, eq-eqb, leb-true, length-append, zero-add}
use Rattle.std.proofs.Math.Bool.{and-false}
use Rattle.lists.specs.Lists.{Row, any, flat, put, chop}
use Rattle.lists.specs.Rows.{length-flat, chop-flat}
use Rattle.lists.specs.Put.{put-no-rows}
use Rattle.lists.specs.Bools.{and_right, test-case}
use Rattle.definition.specs.State.{State}
use Rattle.definition.specs.Words.{row_counts_at, state_size, decode, well_formed, base, row_counts, table_count, leaves}
use Rattle.definition.specs.Call.{Call, Reply, Numbers, numbers}
use Rattle.definition.specs.Step.{Result, Semantics, alters, semantics, checked, answered, result, roomy, outcome, perform, request_is, events_fit, event_room, step}
use Rattle.definition.specs.Reference.Addresses.{Outcome}
use Rattle.definition.proofs.Preservation.Step.{Held, base-leaves, step-held, acted}
use Rattle.definition_parts.specs.Rule.{has_events, more_tables, altered}
use Rattle.definition_parts.proofs.Counting.{step-words, step-idle}
use Rattle.definition_recording.specs.Recording.{of_routes}
use Rattle.definition_recording.proofs.Counts.{row_counts-stay}
use Rattle.request_fit.specs.Laws.{chunks_take}
use Rattle.state.specs.Represents.{Represents, holds-encodable}
use Rattle.call_read.specs.Laws.{Passed, call-refused, call-passed, exit, refuses_some}
use Rattle.call_read.specs.Answer.{answer_by, valuing, refused_by}
use Rattle.refusal.specs.declared.Refusal.{Refusal}
use Rattle.refusal.specs.declared.Refusal.TheVariants.{WrongLength, Full}
use Rattle.refusal.specs.Refusal.{number_of, Refuses}
use Rattle.call_change.specs.Answer.{Answers}
use Rattle.call_change.specs.Ran.{told_some, told_rows}
use Rattle.call_change.specs.Emitted.{EmittedRows, emitted}
use Rattle.call_change.specs.Count.{leaving}

-- ---- the checks of a call by a request of so many words
module _ (size : ℕ) (q : Row) (w : List ℕ) where
  -- of other words it is refused by 200
  pub unsized : (room : Bool) (m : ℕ) → length q ≢ size → 200 ≡ checked (record { buffers = request_is size q && room; row = true; request = m }) w
  unsized room m h = rw (ne_eqb (length q) size h, and-false (eqb (length w) state_size))

  -- of its words they are those that are left
  module _ {l : Row} (h : (l ≡ q) × (length q ≡ size)) where
    pub request-checked : {A : Type 0} (r : Answer A Refusal) (room : Bool) (f : Row → ℕ) → Refuses r (checked (record { buffers = room; row = true; request = f l }) w)
        → Refuses r (checked (record { buffers = request_is size q && room; row = true; request = f q }) w)
    request-checked r room f c =
        rw (eq-eqb (length q) size h.1) (subst (λ (x : Row). Refuses r (checked (record { buffers = room; row = true; request = f x }) w)) h.0 c)

    pub long : length l ≡ size
    long = ap length h.0 ∙ h.1

-- what passed ones say of the buffer
pub room : (size : ℕ) (q : Row) (lent : ℕ) → request_is size q && events_fit lent ≡ true → event_room ≤ lent
room size q lent h = leb-true event_room lent (and_right (request_is size q) (events_fit lent) h)

-- ---- the answer to a result is the answer to an equal one
pub answers_as : {x y : Result} {w' ev ev' : List ℕ} {r : Answer ℕ Refusal} → x ≡ y → Answers y w' ev ev' r → Answers x w' ev ev' r
answers_as {w' = w'} {ev} {ev'} {r} e a = subst (λ (z : Result). Answers z w' ev ev' r) (sym e) a

module _ (s : Semantics) (w : List ℕ) where
  pub answers-exit : {t : Answer ℕ Refusal} (ev : List ℕ) (e : Refusal) → (number_of e ≡ checked s.checks w) × (checked s.checks w ≢ 0) → IsErrAnd t (λ x. x ≡ e) → Answers (perform s w) w ev ev t
  answers-exit ev e h x =
      subst (λ (y : Answer ℕ Refusal). Answers (perform s w) w ev ev y) (sym (exit x))
      (answers_as (call-refused s w refl h.1) (record { refuses = h; says = ap refused_by h.0; words = refl; events = put-no-rows ev }))

  pub answers-refused : {B : Type 0} {r : Answer B Refusal} {t : Answer ℕ Refusal} {e : Refusal} (ev : List ℕ) → Refuses r (checked s.checks w) → r ≡ Err e → IsErrAnd t (λ x. x ≡ e)
      → Answers (perform s w) w ev ev t
  answers-refused {e = e} ev c f x = answers-exit ev e (refuses_some c f) x

  pub answers-unsized : {t : Answer ℕ Refusal} {e : Refusal} (ev : List ℕ) → 200 ≡ checked s.checks w → e ≡ WrongLength → IsErrAnd t (λ x. x ≡ e) → Answers (perform s w) w ev ev t
  answers-unsized {e = e} ev n h x = answers-exit ev e (ap number_of h ∙ n, λ z. omega (arith, n, z)) x

  pub answers-passed : {w' ev ev' : List ℕ} {r : Answer ℕ Refusal} → Passed s.checks w → Answers (acted s.action w) w' ev ev' r → Answers (perform s w) w' ev ev' r
  answers-passed p a = answers_as (call-passed s w p) a

-- ---- a step's answer, and what it left of the words of the lists and of the event buffer, by the result that the definition gives
pub record Left (x : Result) (v ev ev' : List ℕ) (r : Answer ℕ Refusal) : Type 0 where
  pub refuses : Refuses r x.reply.number
  pub says : answer_by valuing r ≡ numbers x.reply
  pub lists : v ≡ base x.words
  pub events : ev' ≡ put 0 (flat x.reply.rows) ev

left-lists : {v : List ℕ} {st : State} (w : List ℕ) → Represents v st → v ≡ base (leaves w st)
left-lists {st = st} w h = h.words ∙ sym (base-leaves w st (holds-encodable h))

module _ (o : Outcome) (w : List ℕ) {v ev ev' : List ℕ} {r : Answer ℕ Refusal} where
  pub left-made : roomy o ≡ true → Represents v (result o) → Refuses r (answered o).number → answer_by valuing r ≡ numbers (answered o) → ev' ≡ put 0 (flat (answered o).rows) ev
      → Left (outcome o w) v ev ev' r
  left-made h e a b d = rw h (record { refuses = a; says = b; lists = left-lists w e; events = d })

  pub left-full : roomy o ≡ false → v ≡ base w → r ≡ Err Full → ev' ≡ put 0 (flat []) ev → Left (outcome o w) v ev ev' r
  left-full h e a d = rw (h, a) (record { refuses = (refl, λ z. omega (arith, z)); says = refl; lists = e; events = d })

-- it told a row exactly where the reply has one
some-told : (r : Answer ℕ Refusal) (x : Reply) → answer_by valuing r ≡ numbers x → told_some r ≡ has_events x
some-told (Ok n) x e = ap (λ (m : Numbers). ltb 0 m.value) e
some-told (Err d) x e = ap (λ (m : Numbers). ltb 0 m.value) e

-- the words that a call leaves, by the lists that its step left and by the rule for the call
pub left-words : (c : Call) {w v ev ev' : List ℕ} {r : Answer ℕ Refusal} (b : Bool) → Held w → Left (step c w) v ev ev' r → altered c w (step c w).reply v ≡ b
    → leaving b w v ≡ (step c w).words
left-words c {w} {v} true h t e =
    sym (rw e at (step-words c w v h t.lists))
left-words c {w} {v} false h t e = sym (step-idle c w v h t.lists e)

pub left-formed : (c : Call) {w v ev ev' : List ℕ} {r : Answer ℕ Refusal} → Held w → Left (step c w) v ev ev' r → well_formed v ≡ true
left-formed c {w} h t = ap well_formed t.lists ∙ (step-held c w h).well

-- the rows that it told are the reply's
counted-rows : (r : Answer ℕ Refusal) (x : Reply) → answer_by valuing r ≡ numbers x → result_unwrap_or r 0 ≡ x.value
counted-rows (Ok n) x e = ap (λ (m : Numbers). m.value) e
counted-rows (Err d) x e = ap (λ (m : Numbers). m.value) e

rows-told : {x : Result} {v ev ev' : List ℕ} {r : Answer ℕ Refusal} → EmittedRows x.reply → Left x v ev ev' r → told_rows r ev' ≡ x.reply.rows
unfolding put
rows-told {x} {v} {ev} {ev'} {r} k t =
    let rows = x.reply.rows in
    let n : result_unwrap_or r 0 ≡ length rows = counted-rows r x.reply t.says ∙ k.counts in
    let words : ev' ≡ flat rows ++ drop (length (flat rows)) ev = rw zero-add at t.events in
    let long : length ev' ≡ 34 * length rows + length (drop (length (flat rows)) ev) =
    ap length words ∙ length-append (flat rows) (drop (length (flat rows)) ev) ∙ ap (λ (m : ℕ). m + length (drop (length (flat rows)) ev)) (length-flat 34 rows k.size)
    in
    chunks_take 34 (result_unwrap_or r 0) (length ev' / 34) ev' (omega (arith, n, long))
    ∙ ap (λ (m : ℕ). chop 34 m ev') n
    ∙ ap (chop 34 (length rows)) words
    ∙ chop-flat 34 rows (drop (length (flat rows)) ev) k.size

-- where none of them is of routes, and no table came, the row counts are still true
still : (c : Call) {w v ev ev' : List ℕ} {r : Answer ℕ Refusal} → Held w → Left (step c w) v ev ev' r → any of_routes (told_rows r ev') ≡ false → more_tables w v ≡ false
    → row_counts (decode v) ≡ drop row_counts_at w
still c {w} {v} h t none few =
    row_counts-stay c w v h t.lists
    (test-case (alters (semantics c).action) (λ a. rw a (rw (rows-told (emitted c w a) t) at none)) (λ a. rw a)) few

-- behind the lists all is settled, as that rule says
pub counts : (c : Call) {w v w' ev ev' : List ℕ} {r : Answer ℕ Refusal} (other : Bool) → Held w → Left (step c w) v ev ev' r
    → ((x : Reply) → altered c w x v ≡ (has_events x && other) || ltb (table_count w) (table_count v))
    → (well_formed v ≡ true → (any of_routes (told_rows r ev') ≡ false → more_tables w v ≡ false → row_counts (decode v) ≡ drop row_counts_at w) → w' ≡ leaving ((told_some r && other) || ltb (table_count w) (table_count v)) w v)
    → Answers (step c w) w' ev ev' r
counts c {w} {v} {r = r} other h t rule e =
    record {
      refuses = t.refuses;
      says = t.says;
      words =
          e (left-formed c h t) (still c h t)
          ∙ ap (λ (b : Bool). leaving ((b && other) || ltb (table_count w) (table_count v)) w v) (some-told r (step c w).reply t.says)
          ∙ left-words c _ h t (rule (step c w).reply);
      events = t.events;
    }
