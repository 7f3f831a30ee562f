-- What an event comes to as an answer.
-- Assumes nothing.
use Rattle.std.specs.Prelude.{ℕ, ◌≡◌, ◌≢◌, refl, true, List, length, take, Result, Ok, Err}
use Rattle.std.specs.Result.{IsErr, IsErrAnd}
use Rattle.std.proofs.Common.{sym, ap, ◌∙◌, subst}
use Rattle.lists.specs.Lists.{Row, flat, put}
use Rattle.lists.specs.Put.{put-no-rows}
use Rattle.lists.specs.At.{flat-one}
use Rattle.definition.specs.Call.{Reply, numbers, refusal}
use Rattle.refusal.specs.declared.Refusal.{Refusal}
use Rattle.refusal.specs.Refusal.{number_of, Refuses}
use Rattle.call_read.specs.Answer.{answer_by, valuing}
use Rattle.endian.specs.Laws.{Below}
use Rattle.netlink.specs.Reader.{read}
use Rattle.netlink_event.specs.Found.{Found}
use Rattle.netlink_event.specs.Writer.{event_message, writes, sent}
use Rattle.netlink_event.proofs.RoundTrip.{finds}
use Rattle.netlink_write.proofs.Route.{nested-payload}

-- r is the answer that a reply says, and leaves the bytes as it says
pub record Is (reply : Reply) (w w' : List ℕ) (r : Result ℕ Refusal) : Type 0 where
  pub refuses : Refuses r reply.number
  pub says : answer_by valuing r ≡ numbers reply
  pub bytes : w' ≡ put 0 (flat reply.rows) w

pub is-refused : (reply : Reply) (w : List ℕ) (r : Result ℕ Refusal) (e : Refusal) (n : ℕ) → IsErr r × IsErrAnd r (λ x. x ≡ e)
    → number_of e ≡ n → n ≢ 0
    → reply ≡ refusal n → Is reply w w r
is-refused reply w (Ok a) e n h f z q = absurd h.1
is-refused reply w (Err x) e n h f z q =
    let is : number_of x ≡ n = ap number_of h.1 ∙ f in
    rw q (record { refuses = (is, z); says = λ i. record { number = is i; present = 0; value = 0; second = 0 }; bytes = put-no-rows w })

pub is-written : (reply : Reply) (m w : List ℕ) {w' : List ℕ} {n : ℕ} → reply ≡ sent m → n ≡ length m → w' ≡ put 0 m w
    → Is reply w w' (Ok n)
is-written reply m w q f z =
    rw q
    (record {
      refuses = refl;
      says = λ i. record { number = 0; present = 0; value = f i; second = 0 };
      bytes = z ∙ ap (λ (l : List ℕ). put 0 l w) (sym (flat-one m));
    })

-- what was written is read back
module _ (sequence port now up : ℕ) (e : Row) (fit : writes e ≡ true) (small : Below 4294967296 e) where
  pub written-back : (w : List ℕ) {w' : List ℕ} {n : ℕ} → n ≡ length (event_message sequence port now e)
      → w' ≡ put 0 (event_message sequence port now e) w → Found now e (read up (take n w'))
  written-back w {w'} {n} f z =
      let m = event_message sequence port now e in
      let front : take n w' ≡ m = nested-payload m w z f in
      subst (λ (l : List ℕ). Found now e (read up l)) (sym front) (finds sequence port now e fit small up)
