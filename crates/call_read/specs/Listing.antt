-- What a listing gives: a refusal's number or one value alone, and its rows are few, of 32 words, as many as its value says.
-- Assumes nothing.
use Rattle.std.specs.Prelude.{ℕ, ◌≤◌, ◌<◌, ◌≡◌, refl, true, List, eqb, length}
use Rattle.std.proofs.Common.{arith, ap, eqb-true}
use Rattle.lists.specs.Bools.{test-case}
use Rattle.lists.specs.Rows.{sized}
use Rattle.definition.specs.Words.{state_of}
use Rattle.definition.specs.Call.{Reply, refusal, written}
use Rattle.definition.specs.Step.{listing, dump4_call}
use Rattle.definition.specs.Reference.Source.{dump4}
use Rattle.definition.proofs.Preservation.Reading.{dump4-listing}
use Rattle.call_read.specs.Answer.{Numbers, numbers, one_value, valuing}
use Rattle.call_read.specs.Laws.{reads}

pub record Lists (r : Reply) : Type 0 where
  pub says : one_value r ≡ numbers r
  pub counts : r.value ≡ length r.rows
  pub few : length r.rows ≤ 256
  pub size : sized 32 r.rows ≡ true

lists-none : (n : ℕ) → Lists (refusal n)
lists-none n =
    record { says = test-case (eqb n 0) (λ e. rw (e, eqb-true n 0 e)) (λ e. rw e); counts = refl; few = omega arith; size = refl }

pub dump4-lists : (w : List ℕ) (room : ℕ) → Lists (dump4_call room w).reply
unfolding dump4_call
dump4-lists w room =
    reads Lists (listing room dump4).checks (λ st. written (dump4 st)) w (λ n h. lists-none n) (λ g.
    let l = dump4-listing (state_of w) g in
    record { says = refl; counts = refl; few = l.0; size = l.1 })

-- the count of an answer with its numbers fits a word
pub count-small : {n : ℕ} {r : Reply} → valuing n ≡ numbers r → Lists r → n < 4294967296
count-small e t = omega (arith, ap (λ (x : Numbers). x.value) e, t.counts, t.few)
