-- Pairs of runs from the empty words that differ in a private table, 300. For each, what both answer, and how a leak would part them;
-- last, a pair that want of space parts.
use Rattle.std.specs.Prelude.{ℕ, zero, suc, ◌≡◌, refl, Bool, true, false, cond, not, ◌&&◌, List, [], ◌∷◌, ◌++◌, map, eqb, ltb, get_or, take, drop}
use Rattle.std.proofs.Common.{sym, ◌∙◌, ap, ap₂}
use Rattle.std.proofs.Math.Option.{Option, none, some}
use Rattle.std.proofs.lemmas.Bool.{not-true}
use Rattle.lists.specs.Lists.{Row, all, keep, first, each, eq_row, zeros}
use Rattle.lists.specs.Bools.{and_iff}
use Rattle.lists.specs.All.{all_head, all_tail, eq_row-true}
use Rattle.lists.specs.Keep.{keep-within}
use Rattle.layout.specs.Route.{table, dst, len, kind, prefsrc}
use Rattle.definition.specs.State.{State, empty}
use Rattle.definition.specs.Words.{state_of, routes_size}
use Rattle.definition.specs.Call.{Call, Reply}
use Rattle.definition.specs.Reference.Lookup.{answer, flow_to}
use Rattle.definition.specs.Reference.Source.{dump4}
use Rattle.definition.specs.Computing.{computing}
use Rattle.definition.specs.Noninterference.Statement.{Choice, unstruck, Agree, Alike, empty_words, after, observed}
use Rattle.definition.proofs.Noninterference.Calls.{freely, bounded}
use Rattle.definition.proofs.Noninterference.Theorem.{two_runs}
use Rattle.definition.proofs.Noninterference.Computed.{ending, ample, answers, run-ending, run-ample, run-answers}
use Rattle.definition.specs.Step.{event_room}

abbrev private : ℕ → Bool
private t = eqb t 300

-- ---- calls, with room for their events and rows
abbrev events : ℕ
events = event_room

abbrev up : Call
up = Call.up events 0

abbrev dump : Call
dump = Call.dump4 routes_size

-- a route through the device (none for a kind that rejects), of host scope where it is local, with CREATE, from a preferred source where
-- that isn't 0
abbrev add_route : ℕ → ℕ → ℕ → ℕ → ℕ → Call
add_route t ip n kind source =
    Call.add_route4
    (t
    ∷ ip
    ∷ n
    ∷ 0
    ∷ 0
    ∷ kind
    ∷ 2
    ∷ cond (eqb kind 2) 254 0
    ∷ cond (eqb source 0) 0 1
    ∷ source
    ∷ 0
    ∷ 0
    ∷ cond (ltb kind 6) 1 0
    ∷ 0
    ∷ 0x400
    ∷ 0
    ∷ (zeros 17 ++ (1 ∷ []))) events

-- any route of the table to there
abbrev del_route : ℕ → ℕ → ℕ → Call
del_route t ip n = Call.del_route4 (t ∷ ip ∷ n ∷ 0 ∷ 0 ∷ 0 ∷ 0 ∷ 255 ∷ 0 ∷ 0 ∷ 0 ∷ 0 ∷ 0 ∷ 1 ∷ 0 ∷ zeros 34) events

-- a /32 of its own that never ends, the loopback being up
abbrev add_address : ℕ → Call
add_address ip =
    Call.add_v4 (ip ∷ ip ∷ 32 ∷ 0 ∷ 0 ∷ 0 ∷ 0 ∷ 0 ∷ 0 ∷ 0 ∷ 0 ∷ 0 ∷ 0 ∷ 0 ∷ 0xffffffff ∷ 0xffffffff ∷ 0 ∷ 1 ∷ []) events 0

abbrev del_address : ℕ → Call
del_address ip = Call.del_v4 (1 ∷ ip ∷ zeros 9) events

-- ---- a run, with what to look at in its answers and what is there; and on the state afterwards, what a leak would look at
record Example : Type 0 where
  calls : List Call
  look : List Reply → List ℕ
  finds : List ℕ
  leak : State → List ℕ

-- the run with nothing in the private table
abbrev plain : Example → List Call
plain e = unstruck private e.calls

-- computed on states
abbrev check : Example → Bool
check e =
    ample e.calls empty
    && ample (plain e) empty
    && eq_row (e.look (answers private e.calls empty)) e.finds
    && not (eq_row (e.leak (ending e.calls empty)) (e.leak (ending (plain e) empty)))

-- then of the words: the two runs are alike, the answers are as found, and the leak would part them
record Shown (e : Example) : Type 0 where
  alike : Alike private e.calls (plain e)
  found : e.look (observed private e.calls empty_words) ≡ e.finds
  parted : eq_row (e.leak (state_of (after e.calls empty_words))) (e.leak (state_of (after (plain e) empty_words))) ≡ false

choice : Choice private
choice = record { not_0 = refl; not_253 = refl; not_254 = refl; not_255 = refl }

shown : (e : Example) → check e ≡ true → Shown e
shown e h =
    let k = simp and_iff at h in
    record {
      alike =
          two_runs private choice e.calls (plain e) (sym (keep-within _ _ (λ c p. p) e.calls)) (run-ample e.calls ∙ k.0.0.0)
          (run-ample (plain e) ∙ k.0.0.1);
      found = ap e.look (run-answers e.calls private) ∙ eq_row-true (e.look (answers private e.calls empty)) e.finds k.0.1;
      parted =
          ap₂ (λ s t. eq_row (e.leak s) (e.leak t)) (run-ending e.calls) (run-ending (plain e))
          ∙ not-true (eq_row (e.leak (ending e.calls empty)) (e.leak (ending (plain e) empty))) k.1;
    }

-- ---- the examples
-- of the answer with i before it: a number for each row that it wrote, or its value
abbrev wrote : (Row → ℕ) → ℕ → List Reply → List ℕ
wrote f i rs = each (λ r. map f r.rows) (take 1 (drop i rs))

abbrev said : ℕ → List Reply → List ℕ
said i rs = map (λ r. r.value) (take 1 (drop i rs))

abbrev word : ℕ → Row → ℕ
word i r = get_or r i 0

abbrev one_of : (Row → ℕ) → Option Row → List ℕ
one_of f none = []
one_of f (some r) = f r ∷ []

-- 127.5.6.7 is looked up: the answer is the local table's /8, though table 300 has a longer row, which rejects
abbrev lookup : Example
lookup =
    record {
      calls = up ∷ add_route 300 0x7f050600 24 6 0 ∷ Call.lookup4 32 0x7f050607 ∷ [];
      look = wrote len 1;
      finds = 8 ∷ [];
      leak = λ st. one_of len (answer (λ t. true) (flow_to 0x7f050607) st.routes);
    }

-- the source for 10.0.0.1 is 127.0.0.1, though table 300 has a row there from 127.9.9.9
abbrev choosing : Example
choosing =
    record {
      calls = up ∷ add_route 300 0x0a000000 8 1 0x7f090909 ∷ Call.source 0x0a000001 ∷ [];
      look = said 1;
      finds = 0x7f000001 ∷ [];
      leak = λ st. one_of prefsrc (answer (λ t. true) (flow_to 0x0a000001) st.routes);
    }

-- 10.1.0.5 goes, and with it the local row and main's row from it: an event each; table 300's row from it stays
abbrev dependent : Example
dependent =
    record {
      calls =
          up
          ∷ add_address 0x0a010005
          ∷ add_route 254 0xc0a80000 16 1 0x0a010005
          ∷ add_route 300 0xc0a80000 16 1 0x0a010005
          ∷ del_address 0x0a010005
          ∷ [];
      look = wrote (word 0) 3;
      finds = 2 ∷ 4 ∷ 4 ∷ [];
      leak = λ st. map table (keep (λ r. eqb (prefsrc r) 0x0a010005) st.routes);
    }

-- the same, where table 300 has a local row for 10.1.0.5 that is like the local table's and stands before it: the local table's goes,
-- and main's
abbrev made-local : Example
made-local =
    record {
      calls =
          up
          ∷ add_address 0x0a010005
          ∷ add_route 254 0xc0a80000 16 1 0x0a010005
          ∷ add_route 300 0x0a010005 32 2 0x0a010005
          ∷ del_address 0x0a010005
          ∷ [];
      look = wrote (word 2) 3;
      finds = 0x0a010005 ∷ 255 ∷ 254 ∷ [];
      leak = λ st. one_of kind (answer (λ t. true) (flow_to 0x0a010005) st.routes);
    }

-- a row of table 5 is deleted, though the one of table 300 to there stands before it
abbrev deleting : Example
deleting =
    record {
      calls =
          up
          ∷ add_route 5 0x0a000000 8 1 0
          ∷ add_route 300 0x0a000000 8 1 0
          ∷ del_route 5 0x0a000000 8
          ∷ [];
      look = wrote (word 2) 2;
      finds = 5 ∷ [];
      leak = λ st. one_of table (first (λ r. eqb (dst r) 0x0a000000 && eqb (len r) 8) st.routes);
    }

-- tables are listed by their low byte, rising, and with one low byte the newest first, whatever is listed of table 300 in between
abbrev listing : Example
listing =
    record {
      calls =
          add_route 44 0x0a000000 8 6 0
          ∷ add_route 300 0x0a000000 8 6 0
          ∷ add_route 556 0x0a000000 8 6 0
          ∷ add_route 45 0x0a000000 8 6 0
          ∷ dump
          ∷ [];
      look = wrote table 3;
      finds = 556 ∷ 44 ∷ 45 ∷ [];
      leak = λ st. map table (dump4 st);
    }

examples : List Example
examples = lookup ∷ choosing ∷ dependent ∷ made-local ∷ deleting ∷ listing ∷ []

abbrev AllShown : List Example → Type 0
AllShown [] = Unit {0}
AllShown (e ∷ es) = Shown e × AllShown es

all_shown : (es : List Example) → all check es ≡ true → AllShown es
all_shown [] h = tt
all_shown (e ∷ es) h = (shown e (all_head check e es h), all_shown es (all_tail check e es h))

examples-checked : all check examples ≡ true
unfolding computing examples ending ample answers bounded freely
examples-checked = refl

examples-shown : AllShown examples
examples-shown = all_shown examples examples-checked

-- ---- want of space: struck requests list 32 tables, and the next request that lists one is answered otherwise than without them
abbrev chosen : ℕ → Bool
chosen t = not (eqb t 0) && ltb t 40

-- each is refused, its length being 33, and lists its table all the same
crowd : ℕ → List Call
crowd zero = []
crowd (suc n) = add_route (suc n) 0 33 1 0 ∷ crowd n

abbrev crowded : List Call
crowded = crowd 32 ++ (add_route 100 0 33 1 0 ∷ [])

abbrev number : List Reply → List ℕ
number rs = map (λ r. r.number) rs

-- the two runs agree, and their last request is answered differently
record Parted (cs ds : List Call) : Type 0 where
  lawful : Choice chosen
  agree : Agree chosen cs ds
  full : number (observed chosen cs empty_words) ≡ 203 ∷ []
  spare : number (observed chosen ds empty_words) ≡ 22 ∷ []

space-parts : Parted crowded (add_route 100 0 33 1 0 ∷ [])
unfolding computing crowd answers bounded freely
space-parts =
    record {
      lawful = record { not_0 = refl; not_253 = refl; not_254 = refl; not_255 = refl };
      agree = refl;
      full = ap number (run-answers crowded chosen);
      spare = ap number (run-answers (add_route 100 0 33 1 0 ∷ []) chosen);
    }
