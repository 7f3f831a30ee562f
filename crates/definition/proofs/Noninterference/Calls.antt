-- The calls on states, without limits: what a call on well-formed words replies and leaves, unless it answers 203.
use Rattle.std.specs.Prelude.{ℕ, ◌≡◌, refl, Bool, true, cond, not, List, eqb, length}
use Rattle.std.proofs.lemmas.Bool.{false≢true}
use Rattle.std.proofs.Common.{eq-eqb, eqb-true}
use Rattle.lists.specs.Bools.{test-case}
use Rattle.definition.specs.State.{State}
use Rattle.definition.specs.Words.{state_size, state_of}
use Rattle.definition.specs.Call.{Call, Reply, refusal, written}
use Rattle.definition.specs.Step.{Result, Checks, Action, changes, replies, lists, Semantics, checks, checked, answered, result, roomy, changing, reading, act, semantics, step}
use Rattle.definition.proofs.Preservation.Change.{Passes, Acts, lawful}
use Rattle.definition.proofs.Preservation.Step.{Held, held-formed, held-leaves, decode-leaves, good-held, good-result, checks-zero}

-- ---- without limits
-- a reply, and the state afterwards
pub record Done : Type 0 where
  pub reply : Reply
  pub state : State

-- what the checks give where the state is well-formed
abbrev pub passing : Checks → ℕ
passing k = checks k.buffers k.row k.request

abbrev pub doing : Action → ℕ → State → Done
doing (changes listed f) n st =
    cond (eqb n 0) (record { reply = answered (f st); state = result (f st) }) (record { reply = refusal n; state = st })
doing (replies f) n st = record { reply = cond (eqb n 0) (f st) (refusal n); state = st }
doing (lists f) n st = record { reply = cond (eqb n 0) (written (f st)) (refusal n); state = st }

unfoldable pub freely : Semantics → State → Done
freely s st = doing s.action (passing s.checks) st

-- ---- with limits
-- every list keeps to its limit at every moment
abbrev pub fitting : Action → ℕ → State → Bool
fitting (changes listed f) n st = cond (eqb n 0) (roomy (f st)) true
fitting (replies f) n st = true
fitting (lists f) n st = true

unfoldable pub bounded : Semantics → State → Done
bounded s st = cond (fitting s.action (passing s.checks) st) (freely s st) (record { reply = refusal 203; state = st })

-- ---- on words
-- what a call on the words w came to is what it does to their state
pub record Follows (s : Semantics) (w : List ℕ) (r : Result) : Type 0 where
  pub held : Held r.words
  pub reply : r.reply ≡ (bounded s (state_of w)).reply
  pub state : state_of r.words ≡ (bounded s (state_of w)).state

passing-held : (k : Checks) (w : List ℕ) → Held w → checked k w ≡ passing k
passing-held k w h = rw (eq-eqb (length w) state_size h.long, held-formed w h)

passing-passes : (k : Checks) → passing k ≡ 0 → Passes k
passing-passes k z =
    let p = checks-zero k.buffers k.row k.request z in
    record { room = p.room; handed = p.formed; fit = p.asked }

pub step_follows : (c : Call) (w : List ℕ) → Held w → Follows (semantics c) w (step c w)
unfolding bounded freely changing reading
step_follows c w h = go (semantics c).action (lawful c).acts
  where
    k : Checks
    k = (semantics c).checks

    go : (a : Action) → Acts k a → Follows (record { checks = k; lent = (semantics c).lent; names = (semantics c).names; action = a }) w (act a k w)
    go (changes listed f) l =
        let o = f (state_of w) in
        test-case (eqb (passing k) 0)
        (λ z.
        let good = good-result o (l.sound (state_of w) (good-held w h) (passing-passes k (eqb-true (passing k) 0 z))).kept in
        test-case (roomy o)
        (λ room. record { held = rw (passing-held k w h, z, room) (held-leaves w (result o) h (good room)); reply = rw (passing-held k w h, z, room); state = rw (passing-held k w h, z, room) (decode-leaves w (result o) (good room)) })
        (λ full. record { held = rw (passing-held k w h, z, full) h; reply = rw (passing-held k w h, z, full); state = rw (passing-held k w h, z, full) }))
        (λ z. record { held = rw (passing-held k w h, z) h; reply = rw (passing-held k w h, z); state = rw (passing-held k w h, z) })
    go (replies f) l = record { held = h; reply = rw (passing-held k w h); state = refl }
    go (lists f) l = record { held = h; reply = rw (passing-held k w h); state = refl }

-- ---- not refused for want of space
abbrev pub spaced : Reply → Bool
spaced r = not (eqb r.number 203)

-- then the limits don't show
pub bounded-freely : (s : Semantics) (st : State) → spaced (bounded s st).reply ≡ true → bounded s st ≡ freely s st
unfolding bounded
bounded-freely s st h =
    test-case (fitting s.action (passing s.checks) st) (λ e. rw e) (λ e. absurd (false≢true (rw e at h)))
