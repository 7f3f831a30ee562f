-- A record of the list of answers (host/README.md, "The list of answers"): its parts, when it is whole, and when a call agrees with it.
use Rattle.std.specs.Prelude.{ℕ, ◌+◌, ◌-◌, ◌*◌, ◌%◌, ◌≤◌, ◌≡◌, Bool, true, cond, ◌&&◌, List, [], ◌∷◌, ◌++◌, eqb, leb, length, get_or, set, take, drop}
use Rattle.lists.specs.Lists.{Row, flat, put, zeros, eq_row}
use Rattle.definition.specs.Words.{state_size}
use Rattle.definition.specs.Step.{Result, event_room}
use Rattle.call_reply.specs.declared.Reply.{Reply}
use Rattle.call_reply.specs.Answer.{reply_of}
use Rattle.call_dispatch.specs.Numbered.{is_call, call_by}
use Rattle.recorded.specs.declared.Verdict.{Verdict}
use Rattle.recorded.specs.declared.Verdict.TheVariants.{Damaged, Other, Same}

-- the words that the calls are made on: a state's and one more
abbrev pub held_size : ℕ
held_size = state_size + 1

-- what stands before a run of words, so that damage to it is seen
unfoldable pub check_from : ℕ → List ℕ → ℕ
check_from sum [] = sum
check_from sum (w ∷ l) = check_from ((sum * 16777619 + w) % 4294967296) l

abbrev pub check_of : List ℕ → ℕ
check_of l = check_from 1 l

-- ---- the parts of a record
-- the words from the place a to the place e
abbrev pub part : ℕ → ℕ → Row → Row
part a e r = take (e - a) (drop a r)

-- pairs of a place and a word: the held words that are set before the call
abbrev pub sets_of : Row → List ℕ
sets_of r = part 17 (get_or r 10 0) r

-- the request or the row handed over
abbrev pub lent_of : Row → Row
lent_of r = part (get_or r 10 0) (get_or r 11 0) r

-- pairs of a place and a word: the held words that the call changes
abbrev pub changes_of : Row → List ℕ
changes_of r = part (get_or r 11 0) (get_or r 12 0) r

-- what the call writes into the buffer, from its start
abbrev pub rows_of : Row → List ℕ
rows_of r = part (get_or r 12 0) (length r) r

-- its words are all there, and its parts lie in it
unfoldable pub fit : Row → Bool
fit r =
    leb 17 (length r)
    && leb (length r) 4096
    && eqb (get_or r 0 0) (check_of (part 1 (length r) r))
    && eqb (get_or r 1 0) (length r)
    && is_call (get_or r 2 0)
    && leb (get_or r 3 0) 1
    && leb (get_or r 4 0) held_size
    && leb (get_or r 5 0) event_room
    && leb 17 (get_or r 10 0)
    && leb (get_or r 10 0) (get_or r 11 0)
    && leb (get_or r 11 0) (get_or r 12 0)
    && leb (get_or r 12 0) (length r)

-- what of it the code goes by
pub record Bounds (r : Row) : Type 0 where
  pub long : 17 ≤ length r
  pub few : length r ≤ 4096
  pub call : is_call (get_or r 2 0) ≡ true
  pub state : get_or r 4 0 ≤ held_size
  pub buffer : get_or r 5 0 ≤ event_room
  pub sets : 17 ≤ get_or r 10 0
  pub lent : get_or r 10 0 ≤ get_or r 11 0
  pub changes : get_or r 11 0 ≤ get_or r 12 0
  pub rows : get_or r 12 0 ≤ length r

-- ---- the held words
-- each word put in its place; a place past the end is none
unfoldable pub set_all : List ℕ → List ℕ → List ℕ
set_all [] w = w
set_all (p ∷ []) w = w
set_all (p ∷ v ∷ l) w = set_all l (set w p v)

-- as the last record left them, or all zero
abbrev pub restarted : Row → List ℕ → List ℕ
restarted r held = cond (eqb (get_or r 3 0) 1) (put 0 (zeros (length held)) held) held

-- before the call
abbrev pub before_of : Row → List ℕ → List ℕ
before_of r held = set_all (sets_of r) (restarted r held)

-- after it, as recorded
abbrev pub after_of : Row → List ℕ → List ℕ
after_of r held = set_all (changes_of r) (before_of r held)

-- ---- the call
-- what the definition says of it, where the held words are h before it
abbrev pub result_of : Row → List ℕ → Result
result_of r h = call_by (get_or r 2 0) (lent_of r) (get_or r 13 0) (get_or r 14 0) (get_or r 15 0) (get_or r 16 0) (get_or r 5 0) (take (get_or r 4 0) h)

-- the held words and the buffer after it: what isn't lent stays
abbrev pub held_by : Row → List ℕ → List ℕ
held_by r h = (result_of r h).words ++ drop (get_or r 4 0) h

abbrev pub buffer_by : Row → List ℕ → List ℕ → List ℕ
buffer_by r h b = put 0 (flat (result_of r h).reply.rows) (take (get_or r 5 0) b) ++ drop (get_or r 5 0) b

abbrev pub same_reply : Row → Reply → Bool
same_reply r x =
    eqb x.number (get_or r 6 0) && eqb x.present (get_or r 7 0) && eqb x.value (get_or r 8 0) && eqb x.second (get_or r 9 0)

-- the definition's call gives the recorded answer, leaves the recorded words and writes the recorded ones, each and no other
unfoldable pub agrees : Row → List ℕ → List ℕ → Bool
agrees r held b =
    same_reply r (reply_of (result_of r (before_of r held)).reply)
    && eq_row (held_by r (before_of r held)) (after_of r held)
    && eq_row (buffer_by r (before_of r held) b) (put 0 (rows_of r) b)

abbrev pub verdict_of : Row → List ℕ → List ℕ → Verdict
verdict_of r held b = cond (fit r) (cond (agrees r held b) Same Other) Damaged

-- the held words that the next record begins with
abbrev pub held_after : Row → List ℕ → List ℕ
held_after r held = cond (fit r) (after_of r held) held

-- the buffer after the call that was made, whether it agrees or not
abbrev pub buffer_after : Row → List ℕ → List ℕ → List ℕ
buffer_after r held b = cond (fit r) (buffer_by r (before_of r held) b) b
