-- Two runs side by side: the claim (document 01, the section of that name), over the calls on words.
use Rattle.std.specs.Prelude.{ℕ, ◌≡◌, Bool, true, false, cond, not, ◌&&◌, List, [], ◌∷◌, eqb}
use Rattle.std.proofs.Math.Bool.{or-false}
use Rattle.lists.specs.Lists.{Row, any, keep, zeros}
use Rattle.layout.specs.Route.{table}
use Rattle.definition.specs.State.{State}
use Rattle.definition.specs.Words.{state_size, state_of}
use Rattle.definition.specs.Call.{Call, Reply, written}
use Rattle.definition.specs.Step.{Action, changes, replies, lists, alters, semantics, step}

-- "Chosen is any set of table numbers without 0, 253, 254 and 255."
pub record Choice (chosen : ℕ → Bool) : Type 0 where
  pub not_0 : chosen 0 ≡ false
  pub not_253 : chosen 253 ≡ false
  pub not_254 : chosen 254 ≡ false
  pub not_255 : chosen 255 ≡ false

-- "Struck is each add_route4 or del_route4, refused or not, whose request names a chosen table": of the calls that change, these
-- are the ones that name a table (Step, `semantics`)
abbrev pub struck : (ℕ → Bool) → Call → Bool
struck chosen c = alters (semantics c).action && any chosen (semantics c).names

struck-add_route4 : (chosen : ℕ → Bool) (q : Row) (events : ℕ) → struck chosen (Call.add_route4 q events) ≡ chosen (table q)
struck-add_route4 chosen q events = or-false (chosen (table q))

struck-del_route4 : (chosen : ℕ → Bool) (q : Row) (events : ℕ) → struck chosen (Call.del_route4 q events) ≡ chosen (table q)
struck-del_route4 chosen q events = or-false (chosen (table q))

-- the calls that aren't struck, in order
abbrev pub unstruck : (ℕ → Bool) → List Call → List Call
unstruck chosen calls = keep (λ c. not (struck chosen c)) calls

-- "The two lists agree when what isn't struck is the same calls with the same arguments in the same order."
abbrev pub Agree : (ℕ → Bool) → List Call → List Call → Type 0
Agree chosen cs ds = unstruck chosen cs ≡ unstruck chosen ds

-- "A run starts from the empty state": all words zero
abbrev pub empty_words : List ℕ
empty_words = zeros state_size

-- "Each gets the state words that the last one left": the words after a list of calls, refused ones included
unfoldable pub after : List Call → List ℕ → List ℕ
after [] w = w
after (c ∷ cs) w = after cs (step c w).words

-- "Refused for want of space means 203, and a struck call counts there too": no call of the run answers 203
unfoldable pub spacious : List Call → List ℕ → Bool
spacious [] w = true
spacious (c ∷ cs) w = not (eqb (step c w).reply.number 203) && spacious cs (step c w).words

-- a row whose table isn't chosen
abbrev pub outside : (ℕ → Bool) → Row → Bool
outside chosen r = not (chosen (table r))

-- what is compared of a listing: "for a dump4 not refused, in place of its reply, the listed rows whose table isn't chosen, in
-- listed order, and how many these are" (written: the rows, with their count as the value)
abbrev pub listing : (ℕ → Bool) → Reply → Reply
listing chosen r = cond (eqb r.number 0) (written (keep (outside chosen) r.rows)) r

-- "Compared are, for each call not struck, the number or reply and the event rows written, in order, word for word (a row in a
-- reply stands as its words, never as its place)"; dump4 is the call that lists
abbrev pub comparing : (ℕ → Bool) → Action → Reply → Reply
comparing chosen (changes listed f) r = r
comparing chosen (replies f) r = r
comparing chosen (lists f) r = listing chosen r

abbrev pub compared : (ℕ → Bool) → Call → Reply → Reply
compared chosen c r = comparing chosen (semantics c).action r

-- that for each call of a run, from the words w
unfoldable pub observed : (ℕ → Bool) → List Call → List ℕ → List Reply
observed chosen [] w = []
observed chosen (c ∷ cs) w =
    let rest = observed chosen cs (step c w).words in
    cond (struck chosen c) rest (compared chosen c (step c w).reply ∷ rest)

-- "after both lists, the address rows, and the route rows whose table isn't chosen, in state order, word for word"
pub record View : Type 0 where
  pub addresses : List Row
  pub routes : List Row

abbrev pub view : (ℕ → Bool) → State → View
view chosen st = record { addresses = st.addresses; routes = keep (outside chosen) st.routes }

-- The claim, of two whole lists.
pub record Alike (chosen : ℕ → Bool) (cs ds : List Call) : Type 0 where
  pub answers : observed chosen cs empty_words ≡ observed chosen ds empty_words
  pub afterwards : view chosen (state_of (after cs empty_words)) ≡ view chosen (state_of (after ds empty_words))

abbrev pub TwoRuns : Type 0
TwoRuns =
    (chosen : ℕ → Bool) →
    Choice chosen →
    (cs ds : List Call) →
    Agree chosen cs ds →
    spacious cs empty_words ≡ true →
    spacious ds empty_words ≡ true →
    Alike chosen cs ds
