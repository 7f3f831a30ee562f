-- Over every run the events of its calls rebuild the routes.
-- Assumes nothing.
use Rattle.std.specs.Prelude.{ℕ, ◌*◌, ◌/◌, ◌%◌, ◌≡◌, refl, true, ◌&&◌, eqb, length, List, [], ◌∷◌}
use Rattle.std.proofs.Common.{sym, ap, ap₂, ◌∙◌, arith, eqb-true, eq-eqb, le-leb, append-nil}
use Rattle.std.proofs.lemmas.Bool.{false≢true}
use Rattle.lists.specs.Lists.{Row, eq_row, flat, chop}
use Rattle.lists.specs.Bools.{and_left, and_right, and_both, cond-case, test-case}
use Rattle.lists.specs.All.{all_append, eq_row-true, eq_eq_row}
use Rattle.lists.specs.Rows.{sized, chop-flat, length-flat}
use Rattle.layout.specs.Request.{fit_add_route4}
use Rattle.definition.specs.State.{State, Out}
use Rattle.definition.specs.Words.{state_of}
use Rattle.definition.specs.Call.{Call}
use Rattle.definition.specs.Step.{Result, Checks, Action, changes, replies, lists, alters, roomy, outcome, semantics, step, request_is, events_fit, listing_room}
use Rattle.definition.specs.Reference.Addresses.{Outcome, goes, refused}
use Rattle.definition.specs.Reference.Insert.{insert4}
use Rattle.definition.specs.Preservation.Fit.{Invariant, fit-state}
use Rattle.definition.specs.Preservation.Routes.{insert_fit}
use Rattle.definition.specs.Preservation.Keeps.{KeptOutcome}
use Rattle.definition.proofs.Preservation.Change.{Passes}
use Rattle.definition.proofs.Preservation.Change.{Acts, unless-passed, add_v4-refusal-passed, lawful}
use Rattle.definition.proofs.Preservation.Step.{Held}
use Rattle.definition.proofs.Preservation.Step.{good-held, good-result, decode-leaves, decode-empty, checked-held, checked-passes, acted, perform-case, perform-reads, emitted-bound}
use Rattle.definition.specs.Noninterference.Statement.{empty_words, after}
use Rattle.definition_recording.specs.Recording.{Rebuilt, rows, next, rebuild_from, whole, events_of, rebuilt, rebuilt_reply, rebuild_call, same_rows, same_call}
use Rattle.definition_recording.specs.Statement.{events_by, recording, recorded, routes_after, Recording, SameRecordings, SameRows}
use Rattle.definition_recording.proofs.Events.{Rebuilding, rebuild_append, insert_replays}
use Rattle.definition_recording.proofs.Steps.{RebuildsOutcome, add_v4-rebuilds, del_v4-rebuilds, up_rebuilding, down_rebuilding, expire_rebuilding, added-rebuilds, del_route4-rebuilds}

-- ---- every call, once its checks are passed
pub record RebuildsAction (k : Checks) (f : State → Outcome) : Type 0 where
  pub rebuilds : (st : State) → Invariant st → Passes k → RebuildsOutcome st (f st)

abbrev Retells : Checks → Action → Type 0
Retells k (changes listed f) = RebuildsAction k f
Retells k (replies f) = Unit {0}
Retells k (lists f) = Unit {0}

going : (k : Checks) (f : State → Out) → Rebuilding f → RebuildsAction k (λ st. goes (f st))
going k f r = record { rebuilds = λ st f p. r.rebuilds st f }

sized-request : (n room : ℕ) (q : Row) → request_is n q && events_fit room ≡ true → length q ≡ n
sized-request n room q h = eqb-true (length q) n (and_left (request_is n q) (events_fit room) h)

retells : (c : Call) → Retells (semantics c).checks (semantics c).action
retells (Call.up room now) = going _ _ (up_rebuilding now)
retells (Call.down room) = going _ _ down_rebuilding
retells (Call.add_v4 q room now) =
    record { rebuilds = λ st f p. add_v4-rebuilds q now st (sized-request 18 room q p.room) (add_v4-refusal-passed q p.fit) f }
retells (Call.del_v4 q room) = record { rebuilds = λ st f p. del_v4-rebuilds q st f }
retells (Call.expire room now allowance) = going _ _ (expire_rebuilding allowance now)
retells (Call.add_route4 q room) =
    record {
      rebuilds = λ st f p.
          added-rebuilds insert4 insert_fit insert_replays q st (sized-request 34 room q p.room) (unless-passed (fit_add_route4 q) p.fit) f;
    }
retells (Call.del_route4 q room) = record { rebuilds = λ st f p. del_route4-rebuilds q st f }
retells (Call.dump4 room) = tt
retells (Call.lookup4 room ip) = tt
retells (Call.lookup4_flow room ip tos oif) = tt
retells (Call.local4 ip) = tt
retells (Call.source4 row ip) = tt
retells (Call.source ip) = tt
retells (Call.select4 present dst scope) = tt

-- ---- a call on words
-- the rows of a result rebuild its routes
abbrev Again : List Row → Result → Type 0
Again l r = rebuild_from r.reply.rows l ≡ rows (state_of r.words).routes

outcome-again : (o : Outcome) (w : List ℕ) → Held w → KeptOutcome o → RebuildsOutcome (state_of w) o → Again (state_of w).routes (outcome o w)
unfolding rebuild_from
outcome-again (goes o) w h k t =
    cond-case (Again (state_of w).routes) (roomy (goes o))
    (λ e. t.again e ∙ ap (λ (st : State). rows st.routes) (sym (decode-leaves w o.state (good-result (goes o) k e)))) (λ e. refl)
outcome-again (refused n left) w h k t =
    cond-case (Again (state_of w).routes) (roomy (refused n left))
    (λ e. ap rows (sym t.1) ∙ ap (λ (st : State). rows st.routes) (sym (decode-leaves w left (good-result (refused n left) k e)))) (λ e. refl)

changes-again : (c : Call) (w : List ℕ) → alters (semantics c).action ≡ true → Again (state_of w).routes (step c w)
unfolding rebuild_from
changes-again c w t =
    let s = semantics c in
    perform-case (Again (state_of w).routes) w s (λ z. go s.checks s.action t (lawful c).acts (retells c) (checked-held s.checks w z) (checked-passes s.checks w z))
    (λ n e z. refl)
  where
    go : (k : Checks) (a : Action) → alters a ≡ true → Acts k a → Retells k a → Held w → Passes k → Again (state_of w).routes (acted a w)
    go k (changes listed f) t l r h p =
        let good = good-held w h in
        outcome-again (f (state_of w)) w h (l.sound (state_of w) good p).kept (r.rebuilds (state_of w) (fit-state (state_of w) good.fits) p)
    go k (replies f) t l r h p = cc
    go k (lists f) t l r h p = cc

pub step-again : (c : Call) (w : List ℕ) → rebuild_from (events_by c (step c w).reply) (state_of w).routes ≡ rows (state_of (step c w).words).routes
step-again c w =
    test-case (alters (semantics c).action) (λ t. rw t (changes-again c w t))
    (λ t. rw t (unfold rebuild_from in ap (λ (x : List ℕ). rows (state_of x).routes) (sym (perform-reads (semantics c) w t))))

-- ---- a run, from any words at all
pub run-again : (calls : List Call) (w : List ℕ) → rebuild_from (recording calls w) (state_of w).routes ≡ rows (state_of (after calls w)).routes
unfolding recording after rebuild_from
run-again [] w = refl
run-again (c ∷ calls) w =
    rebuild_append (events_by c (step c w).reply) (recording calls (step c w).words) (state_of w).routes
    ∙ ap (λ (r : Rebuilt). next r (rebuild_from (recording calls (step c w).words))) (step-again c w)
    ∙ run-again calls (step c w).words

-- ---- as words: whole event rows, read back as they were
events-sized : (c : Call) (w : List ℕ) → sized 34 (events_by c (step c w).reply) ≡ true
events-sized c w =
    cond-case (λ (l : List Row). sized 34 l ≡ true) (alters (semantics c).action) (λ t. (emitted-bound c w t).size) (λ t. refl)

recording-sized : (calls : List Call) (w : List ℕ) → sized 34 (recording calls w) ≡ true
unfolding recording
recording-sized [] w = refl
recording-sized (c ∷ calls) w =
    all_append (λ r. eqb (length r) 34) (events_by c (step c w).reply) (recording calls (step c w).words) (events-sized c w) (recording-sized calls (step c w).words)

module _ (l : List Row) (h : sized 34 l ≡ true) where
  long : length (flat l) ≡ 34 * length l
  long = length-flat 34 l h

  whole-flat : whole (flat l) ≡ true
  whole-flat = eq-eqb (length (flat l) % 34) 0 (omega (arith, long))

  events-flat : events_of (flat l) ≡ l
  events-flat =
      let n : length (flat l) / 34 ≡ length l = omega (arith, long) in
      ap (λ (k : ℕ). chop 34 k (flat l)) n ∙ ap (chop 34 (length l)) (sym (append-nil (flat l))) ∙ chop-flat 34 l [] h

-- what a run's recording comes to
pub whole_run : (calls : List Call) → whole (recorded calls) ≡ true
whole_run calls = whole-flat (recording calls empty_words) (recording-sized calls empty_words)

rebuilt-run : (calls : List Call) → rebuilt (recorded calls) ≡ rows (routes_after calls)
unfolding rebuilt
rebuilt-run calls =
    ap (λ (l : List Row). rebuild_from l []) (events-flat (recording calls empty_words) (recording-sized calls empty_words))
    ∙ ap (λ (st : State). rebuild_from (recording calls empty_words) st.routes) (sym decode-empty)
    ∙ run-again calls empty_words

-- ---- the claims
pub same_rows_equal : SameRows
same_rows_equal [] [] = (λ h. refl, λ h. refl)
same_rows_equal [] (y ∷ m) = (λ h. absurd (false≢true h), λ h. cc)
same_rows_equal (x ∷ l) [] = (λ h. absurd (false≢true h), λ h. cc)
same_rows_equal (x ∷ l) (y ∷ m) =
    let rest = same_rows_equal l m in (
      λ h. ap₂ (λ (r : Row) (k : List Row). r ∷ k) (eq_row-true x y (and_left (eq_row x y) (same_rows l m) h)) (rest.0 (and_right (eq_row x y) (same_rows l m) h)),
      λ h. and_both (eq_row x y) (same_rows l m) (eq_eq_row x y (ap (head x) h)) (rest.1 (ap tail h)),
    )
  where
    head : Row → List Row → Row
    head d [] = d
    head d (r ∷ k) = r

    tail : List Row → List Row
    tail [] = []
    tail (r ∷ k) = k

pub recordings : Recording
unfolding rebuild_call
recordings calls room h = rw (whole_run calls, le-leb listing_room room h) (ap rebuilt_reply (rebuilt-run calls))

pub same-recordings : SameRecordings
unfolding same_call
same-recordings cs ds = rw (whole_run cs, whole_run ds, rebuilt-run cs, rebuilt-run ds)
