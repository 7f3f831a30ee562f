-- The two conditions of unwinding, call by call: step consistency (one that isn't struck goes the same way without the chosen
-- tables), and local respect (one that is struck changes nothing outside them).
use Rattle.std.specs.Prelude.{ℕ, ◌≡◌, Bool, true, false, cond, ◌&&◌, List, [], ◌∷◌, eqb}
use Rattle.std.proofs.Math.Path.{refl, ap}
use Rattle.std.proofs.Common.{sym, ◌∙◌}
use Rattle.std.proofs.Math.Bool.{or-false}
use Rattle.std.proofs.lemmas.Bool.{false≢true}
use Rattle.lists.specs.Bools.{test-case}
use Rattle.lists.specs.Lists.{Row, any, keep}
use Rattle.lists.specs.Keep.{keep-within}
use Rattle.layout.specs.Route.{table}
use Rattle.definition.specs.State.{State, Out}
use Rattle.definition.specs.Words.{ordered}
use Rattle.definition.specs.Call.{Call, valued, written, found_row}
use Rattle.definition.specs.Reference.Lookup.{lookup4, lookup4_flow, flow_to}
use Rattle.definition.specs.Reference.Addresses.{Outcome, goes}
use Rattle.definition.specs.Reference.Routes.{added_by}
use Rattle.definition.specs.Reference.Insert.{Insertion, insert4}
use Rattle.definition.specs.Reference.Source.{source_for, or_value, source}
use Rattle.definition.specs.Step.{Action, changes, replies, lists, alters, answered, semantics}
use Rattle.definition.specs.Noninterference.Statement.{Choice, struck, outside, comparing}
use Rattle.definition.specs.Noninterference.Projection.{without, result, StepConsistent, Tandem, both_go, both-refuse}
use Rattle.definition.proofs.Noninterference.Tables.{lookup_in-consistent, local4-consistent, insert4-consistent}
use Rattle.definition.proofs.Noninterference.Addresses.{add_v4-consistent, up-consistent, down-consistent, del_v4-consistent, expire-consistent}
use Rattle.definition.proofs.Noninterference.Routes.{del_route4_request-consistent, dump4-consistent, InsertsConsistent, added-consistent}
use Rattle.definition.proofs.Noninterference.Struck.{LocallyRespects, del_route4_request-unseen, InsertsUnseen, insert4-unseen, added-unseen}
use Rattle.definition.proofs.Noninterference.Calls.{passing, doing, freely}

module _ (chosen : ℕ → Bool) (choice : Choice chosen) where
  -- ---- what each call has to show, by what it does and the tables that it names
  -- a change: where it names no chosen table it goes the same way without them; where it does, it is not seen outside them
  record Change (names : List ℕ) (f : State → Outcome) : Type 0 where
    consistent : any chosen names ≡ false → (st : State) → Tandem chosen (f st) (f (without chosen st))
    respects : any chosen names ≡ true → (st : State) → ordered st.routes ≡ true → LocallyRespects chosen st (f st)

  abbrev Unwinds : List ℕ → Action → Type 0
  Unwinds names (changes listed f) = Change names f
  Unwinds names (replies f) = (st : State) → f (without chosen st) ≡ f st
  Unwinds names (lists f) = (st : State) → f (without chosen st) ≡ keep (outside chosen) (f st)

  -- a change that names no table
  unnamed : {f : State → Outcome} → ((st : State) → Tandem chosen (f st) (f (without chosen st))) → Change [] f
  unnamed t = record { consistent = λ h. t; respects = λ h. absurd (false≢true h) }

  going : {f : State → Out} → StepConsistent chosen f → Change [] (λ st. goes (f st))
  going a = unnamed (λ st. both_go (a st))

  -- one that names one
  naming : {f : State → Outcome} (t : ℕ) → (chosen t ≡ false → (st : State) → Tandem chosen (f st) (f (without chosen st)))
      → (chosen t ≡ true → (st : State) → ordered st.routes ≡ true → LocallyRespects chosen st (f st)) → Change (t ∷ []) f
  naming t a u = record { consistent = λ h. a (sym (or-false (chosen t)) ∙ h); respects = λ h. u (sym (or-false (chosen t)) ∙ h) }

  -- a request to add a route, by some insertion
  adding : (insert : Insertion) → InsertsConsistent chosen choice insert → InsertsUnseen chosen insert → (q : Row) → Change (table q ∷ []) (added_by insert q)
  adding insert a u q =
      naming (table q) (λ h. added-consistent chosen choice q h insert a) (λ h. added-unseen chosen choice q h insert u)

  unwinds : (c : Call) → Unwinds (semantics c).names (semantics c).action
  unfolding lookup4 lookup4_flow source
  unwinds (Call.up events now) = going (up-consistent chosen choice now)
  unwinds (Call.down events) = going (down-consistent chosen choice)
  unwinds (Call.add_v4 q events now) = unnamed (add_v4-consistent chosen choice q now)
  unwinds (Call.del_v4 q events) = unnamed (del_v4-consistent chosen choice q)
  unwinds (Call.expire events now allowance) = going (expire-consistent chosen choice allowance now)
  unwinds (Call.add_route4 q events) = adding insert4 (insert4-consistent chosen choice) (insert4-unseen chosen) q
  unwinds (Call.del_route4 q events) =
      naming (table q) (del_route4_request-consistent chosen choice q) (λ h st o. del_route4_request-unseen chosen choice q h st)
  unwinds (Call.dump4 room) = dump4-consistent chosen choice
  unwinds (Call.lookup4 rowRoom ip) = λ st. ap found_row (lookup_in-consistent chosen choice st (flow_to ip))
  unwinds (Call.lookup4_flow rowRoom ip tos oif) = λ st. ap found_row (lookup_in-consistent chosen choice st _)
  unwinds (Call.local4 ip) = λ st. ap (λ b. valued (cond b 1 0)) (local4-consistent chosen choice st ip)
  unwinds (Call.source4 row ip) = λ st. refl
  unwinds (Call.source ip) = λ st.
      ap (λ f. valued (or_value (source_for st.addresses ip f) 0x7f000001)) (lookup_in-consistent chosen choice st (flow_to ip))
  unwinds (Call.select4 dstPresent dst scope) = λ st. refl

  -- ---- so for any call
  pub record Consistent (c : Call) (st : State) : Type 0 where
    pub reply : comparing chosen (semantics c).action (freely (semantics c) (without chosen st)).reply ≡ comparing chosen (semantics c).action (freely (semantics c) st).reply
    pub state : (freely (semantics c) (without chosen st)).state ≡ without chosen (freely (semantics c) st).state

  same_answer : (o p : Outcome) → Tandem chosen o p → answered p ≡ answered o
  same_answer o p (both_go m) = ap written m.emitted
  same_answer o p (both-refuse n s) = refl

  same-result : (o p : Outcome) → Tandem chosen o p → result p ≡ without chosen (result o)
  same-result o p (both_go m) = m.state
  same-result o p (both-refuse n s) = refl

  record ConsistentBy (a : Action) (n : ℕ) (st : State) : Type 0 where
    reply : comparing chosen a (doing a n (without chosen st)).reply ≡ comparing chosen a (doing a n st).reply
    state : (doing a n (without chosen st)).state ≡ without chosen (doing a n st).state

  consistent-by : (names : List ℕ) (a : Action) → Unwinds names a → alters a && any chosen names ≡ false → (n : ℕ) (st : State) → ConsistentBy a n st
  consistent-by names (changes listed f) u h n st =
      let t = u.consistent h st in
      test-case (eqb n 0)
      (λ z. record { reply = rw z (same_answer (f st) (f (without chosen st)) t); state = rw z (same-result (f st) (f (without chosen st)) t) })
      (λ z. record { reply = rw z; state = rw z })
  consistent-by names (replies f) u h n st = record { reply = rw (u st); state = refl }
  consistent-by names (lists f) u h n st =
      record {
        reply =
            test-case (eqb n 0) (λ z. rw z (ap written (rw (u st) (keep-within (outside chosen) (outside chosen) (λ r k. k) (f st))))) (λ z. rw z);
        state = refl;
      }

  -- a call that isn't struck is step consistent
  pub step-consistent : (c : Call) → struck chosen c ≡ false → (st : State) → Consistent c st
  unfolding freely
  step-consistent c h st =
      let s = consistent-by (semantics c).names (semantics c).action (unwinds c) h (passing (semantics c).checks) st in
      record { reply = s.reply; state = s.state }

  -- and one that is locally respects what stands outside
  respects-by : (names : List ℕ) (a : Action) → Unwinds names a → alters a && any chosen names ≡ true → (n : ℕ) (st : State) → ordered st.routes ≡ true
      → without chosen (doing a n st).state ≡ without chosen st
  respects-by names (changes listed f) u h n st o = test-case (eqb n 0) (λ z. rw z (u.respects h st o).unchanged) (λ z. rw z)
  respects-by names (replies f) u h n st o = refl
  respects-by names (lists f) u h n st o = refl

  pub locally_respects : (c : Call) → struck chosen c ≡ true → (st : State) → ordered st.routes ≡ true → without chosen (freely (semantics c) st).state ≡ without chosen st
  unfolding freely
  locally_respects c h st o = respects-by (semantics c).names (semantics c).action (unwinds c) h (passing (semantics c).checks) st o
