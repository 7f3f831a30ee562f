-- Destinations that rise, the room for answers, and the answers of the call.
-- Assumes nothing.
use Rattle.std.specs.Prelude.{ℕ, zero, suc, ◌+◌, ◌≤◌, ◌<◌, ◌≡◌, refl, Bool, true, false, List, [], ◌∷◌, leb, length, get_or, Ok, Err, IsErrAnd}
use Rattle.std.specs.Prelude.{Result as Answer}
use Rattle.std.proofs.Common.{arith, sym, ap, add-one, leb-true, le-leb}
use Rattle.std.specs.List.Sorted.{IsNonDecreasing}
use Rattle.std.specs.Bool.{MatchBool}
use Rattle.lists.specs.Lists.{all, flat, put}
use Rattle.lists.specs.Bools.{fails, and_left, and_right}
use Rattle.refusal.specs.declared.Refusal.{Refusal}
use Rattle.refusal.specs.Refusal.{Refuses}
use Rattle.definition.specs.Words.{state_of}
use Rattle.definition.specs.Step.{Semantics, for_listing, replies, checked}
use Rattle.definition_many.specs.Many.{answers, rows_weighed, rising, many_checks, many_reply, lookup4_many_call}
use Rattle.call_read.specs.Answer.{Writes, valuing}
use Rattle.call_read.specs.Laws.{Passed, writes_refused, writes_passed}

-- ---- rising
-- numbers of which none falls below an earlier one rise
pub rising-all : (ds : List ℕ) → ((i j : ℕ) → i ≤ j → j < length ds → get_or ds i 0 ≤ get_or ds j 0) → rising ds ≡ true
rising-all [] up = refl
rising-all (d ∷ ds) up =
    rw (head ds (λ j b. up 0 (suc j) (omega arith) (omega arith)), rising-all ds (λ i j a b. up (suc i) (suc j) (omega arith) (omega arith)))
  where
    head : (l : List ℕ) → ((j : ℕ) → j < length l → d ≤ get_or l j 0) → all (leb d) l ≡ true
    head [] h = refl
    head (x ∷ l) h = rw (le-leb d x (h 0 (omega arith)), head l (λ j b. h (suc j) (omega arith)))

-- and one that is below the one before it is among none that rise
pub rising-next : (ds : List ℕ) (k : ℕ) → suc k < length ds → rising ds ≡ true → get_or ds k 0 ≤ get_or ds (suc k) 0
rising-next [] k b h = absurd (omega arith)
rising-next (d ∷ []) k b h = absurd (omega arith)
rising-next (d ∷ e ∷ ds) zero b h = leb-true d e (and_left (leb d e) (all (leb d) ds) (and_left (all (leb d) (e ∷ ds)) (rising (e ∷ ds)) h))
rising-next (d ∷ e ∷ ds) (suc k) b h = rising-next (e ∷ ds) k (omega arith) (and_right (all (leb d) (e ∷ ds)) (rising (e ∷ ds)) h)

-- the library's test, on numbers
pub sorted-rising : (ds : List ℕ) (b : Bool) → MatchBool b (IsNonDecreasing ds) ((k : ℕ) × (k + 1 < length ds) × ((d : ℕ) → get_or ds (k + 1) d < get_or ds k d)) → b ≡ rising ds
sorted-rising ds true h = sym (rising-all ds (λ i j a b. h i j 0 a b))
sorted-rising ds false h =
    sym (fails (rising ds) (λ e.
    let near : get_or ds h.0 0 ≤ get_or ds (h.0 + 1) 0 = rw add-one (rising-next ds h.0 (omega (arith, h.1)) e) in
    absurd (omega (arith, near, h.2 0))))

-- ---- the answer, by the checks
-- the call as one that reads
abbrev pub looking : ℕ → List ℕ → Semantics
looking room ds = record { checks = many_checks room ds; lent = for_listing room; names = []; action = replies (many_reply ds) }

module _ (ds w b : List ℕ) where
  pub many-no : {A : Type 0} {r : Answer A Refusal} {t : Answer ℕ Refusal} {e : Refusal} → Refuses r (checked (many_checks (length b) ds) w) → r ≡ Err e
      → IsErrAnd t (λ x. x ≡ e) → Writes valuing (lookup4_many_call (length b) ds w).reply b b t
  unfolding lookup4_many_call
  many-no c f x = writes_refused (looking (length b) ds) w b c f x

  pub many-yes : {v : ℕ} {b' : List ℕ} → Passed (many_checks (length b) ds) w → v ≡ rows_weighed (state_of w) ds
      → b' ≡ put 0 (flat (answers (state_of w) ds)) b → Writes valuing (lookup4_many_call (length b) ds w).reply b b' (Ok v)
  unfolding lookup4_many_call
  many-yes p e f = writes_passed (looking (length b) ds) w p (record { refuses = refl; says = ap valuing e; rows = f })
