-- What a changing call emits: a refusal's number or one value alone, and its rows are few, of 34 words, as many as its value says.
-- Assumes nothing.
use Rattle.std.specs.Prelude.{ℕ, ◌≤◌, ◌<◌, ◌≡◌, true, List, eqb, length, Ok, Err, IfOk}
use Rattle.std.specs.Prelude.{Result as Answer}
use Rattle.std.proofs.Common.{arith, ap, eqb-true}
use Rattle.std.proofs.Math.Path.{refl}
use Rattle.std.proofs.lemmas.Bool.{false≢true}
use Rattle.lists.specs.Lists.{Row}
use Rattle.lists.specs.Bools.{cond-case, test-case}
use Rattle.lists.specs.Rows.{sized}
use Rattle.definition.specs.State.{sizes}
use Rattle.definition.specs.Words.{state_of, within}
use Rattle.definition.specs.Call as Call
use Rattle.definition.specs.Call.{Reply, refusal, written}
use Rattle.definition.specs.Step.{Result, Action, changes, replies, lists, alters, event_limit, semantics, outcome, step, up_call, down_call, add_v4_call, del_v4_call, expire_call, add_route4_call, del_route4_call}
use Rattle.definition.specs.Reference.Addresses.{Outcome}
use Rattle.definition.proofs.Preservation.Step.{acted, perform-case, emitted-bound}
use Rattle.refusal.specs.declared.Refusal.{Refusal}
use Rattle.call_read.specs.Answer.{Numbers, numbers, one_value, valuing, answer_by}

-- what holds of a refusal and of rows emitted holds of a call's reply
comes : (P : Reply → Type 0) (o : Outcome) (w : List ℕ) → ((n : ℕ) → P (refusal n)) → ((l : List Row) → P (written l)) → P (outcome o w).reply
comes P (Outcome.goes o) w refuses answers = cond-case (λ (r : Result). P r.reply) (within o.peak) (λ e. answers o.emitted) (λ e. refuses 203)
comes P (Outcome.refused n st) w refuses answers = cond-case (λ (r : Result). P r.reply) (within (sizes st)) (λ e. refuses n) (λ e. refuses 203)

record Emission (r : Reply) : Type 0 where
  pub says : one_value r ≡ numbers r
  pub counts : r.value ≡ length r.rows

emission-none : (n : ℕ) → Emission (refusal n)
emission-none n = record { says = test-case (eqb n 0) (λ e. rw (e, eqb-true n 0 e)) (λ e. rw e); counts = refl }

emission : (c : Call.Call) (w : List ℕ) → alters (semantics c).action ≡ true → Emission (step c w).reply
emission c w t = perform-case (λ (r : Result). Emission r.reply) w (semantics c) (λ z. go (semantics c).action t) (λ n e z. emission-none n)
  where
    go : (a : Action) → alters a ≡ true → Emission (acted a w).reply
    go (changes listed f) t = comes Emission (f (state_of w)) w emission-none (λ l. record { says = refl; counts = refl })
    go (replies f) t = absurd (false≢true t)
    go (lists f) t = absurd (false≢true t)

pub record EmittedRows (r : Reply) : Type 0 where
  pub says : one_value r ≡ numbers r
  pub counts : r.value ≡ length r.rows
  pub few : length r.rows ≤ event_limit
  pub size : sized 34 r.rows ≡ true

pub emitted : (c : Call.Call) (w : List ℕ) → alters (semantics c).action ≡ true → EmittedRows (step c w).reply
emitted c w e =
    let t = emission c w e in
    let b = emitted-bound c w e in
    record { says = t.says; counts = t.counts; few = b.few; size = b.size }

module _ (w : List ℕ) (events : ℕ) where
  pub up-emitted : (now : ℕ) → EmittedRows (up_call events now w).reply
  unfolding up_call
  up-emitted now = emitted (Call.up events now) w refl

  pub down-emitted : EmittedRows (down_call events w).reply
  unfolding down_call
  down-emitted = emitted (Call.down events) w refl

  pub add_v4-emitted : (q : Row) (now : ℕ) → EmittedRows (add_v4_call q events now w).reply
  unfolding add_v4_call
  add_v4-emitted q now = emitted (Call.add_v4 q events now) w refl

  pub del_v4-emitted : (q : Row) → EmittedRows (del_v4_call q events w).reply
  unfolding del_v4_call
  del_v4-emitted q = emitted (Call.del_v4 q events) w refl

  pub expire-emitted : (now allowance : ℕ) → EmittedRows (expire_call events now allowance w).reply
  unfolding expire_call
  expire-emitted now allowance = emitted (Call.expire events now allowance) w refl

  pub add_route4-emitted : (q : Row) → EmittedRows (add_route4_call q events w).reply
  unfolding add_route4_call
  add_route4-emitted q = emitted (Call.add_route4 q events) w refl

  pub del_route4-emitted : (q : Row) → EmittedRows (del_route4_call q events w).reply
  unfolding del_route4_call
  del_route4-emitted q = emitted (Call.del_route4 q events) w refl

-- the count of an answer with its numbers fits a word
pub count-fits : (d : Answer ℕ Refusal) {r : Reply} → answer_by valuing d ≡ numbers r → EmittedRows r → IfOk d (λ n. n < 4294967296)
count-fits (Ok n) e t = omega (arith, ap (λ (x : Numbers). x.value) e, t.counts, t.few)
count-fits (Err x) e t = tt
