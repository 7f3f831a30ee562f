-- What a step comes to: its answer by the definition's outcome, and what it leaves unless a list passed its limit.
-- Assumes nothing.
use Rattle.std.specs.Prelude.{ℕ, max, ◌≡◌, refl, Bool, true, false, cond, ◌&&◌, leb, [], Result, Ok, Err}
use Rattle.std.proofs.Common.{sym, ◌∙◌, arith, leb-true, leb-false, le-leb}
use Rattle.std.proofs.lemmas.Bool.{lt-leb}
use Rattle.refusal.specs.declared.Refusal.{Refusal}
use Rattle.refusal.specs.declared.Refusal.TheVariants.{Full, Errno}
use Rattle.lists.specs.Bools.{test-case, true-false, cond-true, cond-false}
use Rattle.definition.specs.State.{State, Sizes, Out, most, stays, also}
use Rattle.definition.specs.Words.{within}
use Rattle.definition.specs.Reference.Addresses.{Outcome, goes, refused, out_of}
use Rattle.definition.specs.Step.{roomy}
use Rattle.state.specs.Represents.{Represents, holds-within}
use Rattle.step_events.specs.Emits.{Emits, does-none, does-quiet, does-also}
use Rattle.step_events.specs.Tells.{Tells}
use Rattle.step_events.specs.declared.change.Change.{Change}

abbrev pub Answer : Type 0
Answer = Result (Unit {0}) Refusal

-- the answer where every list kept to its limit, and the answer
abbrev pub made : Outcome → Answer
made (goes o) = Ok tt
made (refused n st) = Err (Errno n)

abbrev pub answer_of : Outcome → Answer
answer_of u = cond (roomy u) (made u) (Err Full)

-- nothing is said of what a step left where a list was full
pub record Comes (u : Outcome) (a b : Change) (r : Answer) : Type 0 where
  pub answer : r ≡ answer_of u
  pub does : roomy u ≡ true → Emits (out_of u) a b

-- it has left all as it was then: the words hold st still
pub record ComesWhole (st : State) (u : Outcome) (a b : Change) (r : Answer) : Type 0 where
  pub comes : Comes u a b r
  pub kept : roomy u ≡ false → Emits (stays st) a b

-- ---- limits
leb-max : (a b n : ℕ) → leb (max a b) n ≡ (leb a n && leb b n)
leb-max a b n =
    test-case (leb a n)
    (λ e. test-case (leb b n)
    (λ f. rw (e, f) (le-leb (max a b) n (omega (arith, leb-true a n e, leb-true b n f))))
    (λ f. rw (e, f) (lt-leb (max a b) n (omega (arith, leb-false b n f)))))
    (λ e. rw e (lt-leb (max a b) n (omega (arith, leb-false a n e))))

pub within-most : (a b : Sizes) → within (most a b) ≡ (within a && within b)
within-most a b =
    rw (leb-max a.addresses b.addresses 64, leb-max a.routes b.routes 256, leb-max a.tables b.tables 32)
    (six (leb a.addresses 64) (leb b.addresses 64) (leb a.routes 256) (leb b.routes 256) (leb a.tables 32) (leb b.tables 32))
  where
    six : (a a' b b' c c' : Bool) → (((a && a') && (b && b')) && (c && c')) ≡ (((a && b) && c) && ((a' && b') && c'))
    six false a' b b' c c' = refl
    six true true true true true c' = refl
    six true true true true false c' = refl
    six true true true false true c' = refl
    six true true true false false c' = refl
    six true true false b' c c' = refl
    six true false true b' true c' = refl
    six true false true b' false c' = refl
    six true false false b' c c' = refl

pub within-also : (o : Out) (f : State → Out) → within (also o f).peak ≡ (within o.peak && within (f o.state).peak)
unfolding also
within-also o f = within-most o.peak (f o.state).peak

-- ---- by the outcome
module _ {u : Outcome} {a b : Change} where
  pub comes-made : {r : Answer} → roomy u ≡ true → r ≡ made u → Emits (out_of u) a b → Comes u a b r
  comes-made e h d = record { answer = h ∙ sym (cond-true (roomy u) (made u) (Err Full) e); does = λ _. d }

  pub comes-full : roomy u ≡ false → Comes u a b (Err Full)
  comes-full e =
      record { answer = sym (cond-false (roomy u) (made u) (Err Full) e); does = λ h. absurd (true-false (roomy u) h e) }

  pub whole-made : {r : Answer} (st : State) → roomy u ≡ true → Comes u a b r → ComesWhole st u a b r
  whole-made st e c = record { comes = c; kept = λ h. absurd (true-false (roomy u) e h) }

pub whole-full : {u : Outcome} {st : State} {a : Change} → roomy u ≡ false → Represents a.state.words.now st → ComesWhole st u a a (Err Full)
whole-full {st = st} {a = a} e h = record { comes = comes-full e; kept = λ _. does-none st a h }

-- ---- by the answer
ok-err : {e : Refusal} → ◌≡◌ {A = Answer} (Ok tt) (Err e) → ⊥
ok-err h = cc

errno-full : (n : ℕ) → ◌≡◌ {A = Answer} (Err (Errno n)) (Err Full) → ⊥
errno-full n h = cc

made-full : (u : Outcome) → made u ≡ Err Full → ⊥
made-full (goes o) h = ok-err h
made-full (refused n st) h = errno-full n h

module _ {u : Outcome} {a b : Change} where
  pub comes-roomy : {r : Answer} → Comes u a b r → (r ≡ Err Full → ⊥) → roomy u ≡ true
  comes-roomy c h = test-case (roomy u) (λ e. e) (λ e. absurd (h (c.answer ∙ cond-false (roomy u) (made u) (Err Full) e)))

  pub comes-ok : Comes u a b (Ok tt) → (roomy u ≡ true) × Emits (out_of u) a b
  comes-ok c = let e = comes-roomy c ok-err in (e, c.does e)

  pub full-past : Comes u a b (Err Full) → roomy u ≡ false
  full-past c =
      test-case (roomy u) (λ e. absurd (made-full u (sym (c.answer ∙ cond-true (roomy u) (made u) (Err Full) e)))) (λ e. e)

-- a step that goes lacked room where it is refused: no rule refuses it
pub other-past : {o : Out} {a b : Change} {e : Refusal} → Comes (goes o) a b (Err e) → (e ≡ Full) × (within o.peak ≡ false)
other-past {o} {e = e} c =
    test-case (within o.peak)
    (λ t. absurd (ok-err (sym (c.answer ∙ cond-true (within o.peak) (Ok tt) (Err Full) t))))
    (λ t. let same : ◌≡◌ {A = Answer} (Err e) (Err Full) = c.answer ∙ cond-false (within o.peak) (Ok tt) (Err Full) t in (cc, t))

pub goes-made : {o : Out} {a b : Change} → within o.peak ≡ true → Emits o a b → Comes (goes o) a b (Ok tt)
goes-made e d = comes-made e refl d

pub refused-made : (n : ℕ) {st : State} {a : Change} → Represents a.state.words.now st → Comes (refused n st) a a (Err (Errno n))
refused-made n {st} {a} h = comes-made (holds-within h) refl (does-none st a h)

pub adds-quiet : (st : State) {a b : Change} → Represents b.state.words.now st → Tells [] a b → Comes (goes (stays st)) a b (Ok tt)
adds-quiet st h t = goes-made (holds-within h) (does-quiet st h t)

pub adds_none : (st : State) {a : Change} → Represents a.state.words.now st → Comes (goes (stays st)) a a (Ok tt)
adds_none st {a} h = goes-made (holds-within h) (does-none st a h)

-- ---- one step after another
pub adds-also : {o : Out} {a b c : Change} {r : Answer} → Comes (goes o) a b (Ok tt) → (f : State → Out) → Comes (goes (f o.state)) b c r → Comes (goes (also o f)) a c r
adds-also {o} {a} {b} {c} {r} s f t = go r t
  where
    first : (within o.peak ≡ true) × Emits o a b
    first = comes-ok s

    go : (r : Answer) → Comes (goes (f o.state)) b c r → Comes (goes (also o f)) a c r
    go (Ok u) t =
        let second = comes-ok t in
        let both : (within o.peak && within (f o.state).peak) ≡ true = rw first.0 second.0 in
        goes-made (within-also o f ∙ both) (does-also first.1 f second.1)
    go (Err e) t =
        let p = other-past t in
        let both : (within o.peak && within (f o.state).peak) ≡ false = rw first.0 p.1 in
        rw p.0 (comes-full (within-also o f ∙ both))

-- the first lacked room already
pub adds-stop : {o : Out} {a b : Change} {e : Refusal} → Comes (goes o) a b (Err e) → (f : State → Out) {c d : Change} → Comes (goes (also o f)) c d (Err e)
adds-stop {o} s f = let p = other-past s in rw p.0 (comes-full (within-also o f ∙ rw p.1))
