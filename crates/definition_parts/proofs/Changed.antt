-- The rule without a copy says of every call on well-formed words whether the words of the lists are others afterwards; so the change
-- count goes up by that rule.
-- Assumes nothing.
use Rattle.std.specs.Prelude.{ℕ, ◌≡◌, refl, Bool, true, false, not, ◌&&◌, ◌||◌, List, ◌++◌, ltb, length, get_or}
use Rattle.std.proofs.Common.{sym, ap, ap₂, subst, ◌∙◌, arith, take-append-drop, get_or-take, le-ltb}
use Rattle.lists.specs.Lists.{eq_row, first}
use Rattle.lists.specs.Bools.{cond-case, not_so}
use Rattle.lists.specs.All.{eq_row-true, eq_row-refl}
use Rattle.definition.specs.State.{State}
use Rattle.definition.specs.Words.{base_size, encode, decode, base, state_of, row_counts, changed, counted, leaves, route_count, table_count}
use Rattle.definition.specs.Call.{Call, Reply, refusal, written}
use Rattle.definition.specs.Step.{Result, Checks, Action, changes, replies, lists, checked, answered, result, roomy, outcome, semantics, step}
use Rattle.definition.specs.Reference.Addresses.{Outcome, goes, up, down, add_v4, same_address}
use Rattle.definition.specs.Reference.Removal.{del_v4, expire}
use Rattle.definition.specs.Reference.Routes.{add_route4, del_route4_request}
use Rattle.definition.specs.Preservation.Fit.{fit-state}
use Rattle.definition.specs.Preservation.Encode.{Admissible, encodable, decode-encode, encode-decode}
use Rattle.definition.proofs.Preservation.Change.{Acts, lawful}
use Rattle.definition.proofs.Preservation.Step.{Held, base-long, good-held, good-result, base-leaves, decode-leaves, counted-idle, checked-sound, acted, perform-case}
use Rattle.definition_parts.specs.Rule.{has_events, more_tables, fewer_routes, row_changes, Rule, never, by_routes, by_events, by_row, rule_of, tells, altered}
use Rattle.definition_parts.proofs.Altered.Says.{Says}
use Rattle.definition_parts.proofs.Altered.Up.{up-says, down-says}
use Rattle.definition_parts.proofs.Altered.Removal.{del_route4-says, del_v4-says, expire-says}
use Rattle.definition_parts.proofs.Altered.Routes.{add_route4-says}
use Rattle.definition_parts.proofs.Altered.Addresses.{add_v4-says}

-- ---- well-formed words and their state
module _ (w : List ℕ) (h : Held w) where
  base-encode : encode (state_of w) ≡ base w
  base-encode = encode-decode (base w) (base-long w h.long) h.well

  routes-counted : route_count w ≡ length (state_of w).routes
  unfolding encode
  routes-counted = sym (get_or-take base_size w 1 0 (omega arith)) ∙ ap (λ (v : List ℕ). get_or v 1 0) (sym base-encode)

  pub tables-counted : table_count w ≡ length (state_of w).tables
  unfolding encode
  tables-counted = sym (get_or-take base_size w 2 0 (omega arith)) ∙ ap (λ (v : List ℕ). get_or v 2 0) (sym base-encode)

  -- the words of the lists differ as the states do
  changed-says : (after : State) (b : Bool) → Admissible after → Says (state_of w) after b → changed w after ≡ b
  unfolding changed
  changed-says after true g s =
      not_so (eq_row (base w) (encode after)) (λ e. s (sym (decode-encode after (encodable g)) ∙ ap decode (sym (eq_row-true (base w) (encode after) e))))
  changed-says after false g s = rw (ap encode s ∙ base-encode, eq_row-refl (base w)) refl

-- ---- what the rule says of an outcome
abbrev Ruled : Call → List ℕ → Outcome → Type 0
Ruled c w o = Says (state_of w) (result o) (altered c w (answered o) (encode (result o)))

module _ (w : List ℕ) (h : Held w) where
  -- its words have the counts of the states
  of-tables : (o : Outcome) (a : Bool) → Says (state_of w) (result o) (a || ltb (length (state_of w).tables) (length (result o).tables))
      → Says (state_of w) (result o) (a || more_tables w (encode (result o)))
  unfolding encode
  of-tables o a s = subst (λ (n : ℕ). Says (state_of w) (result o) (a || ltb n (length (result o).tables))) (sym (tables-counted w h)) s

  of-routes : (after : State) → Says (state_of w) after (ltb (length after.routes) (length (state_of w).routes))
      → Says (state_of w) after (fewer_routes w (encode after))
  unfolding encode
  of-routes after s = subst (λ (n : ℕ). Says (state_of w) after (ltb (length after.routes) n)) (sym (routes-counted w h)) s

-- ---- each call, by its action
abbrev RuledBy : Call → List ℕ → Action → Type 0
RuledBy c w (changes listed f) = Ruled c w (f (state_of w))
RuledBy c w (replies f) = rule_of c ≡ never
RuledBy c w (lists f) = rule_of c ≡ never

ruled : (c : Call) (w : List ℕ) → Held w → RuledBy c w (semantics c).action
ruled (Call.up events now) w h = of-tables w h (goes (up now (state_of w))) (has_events (written (up now (state_of w)).emitted)) (up-says now (state_of w))
ruled (Call.down events) w h = of-routes w h (down (state_of w)).state (down-says (state_of w))
ruled (Call.add_v4 q events now) w h =
    let o = add_v4 q now (state_of w) in
    of-tables w h o (has_events (answered o) && row_changes q now (first (same_address q) (state_of w).addresses))
    (add_v4-says q now (state_of w) (fit-state (state_of w) (good-held w h).fits))
ruled (Call.del_v4 q events) w h = let o = del_v4 q (state_of w) in of-tables w h o (has_events (answered o)) (del_v4-says q (state_of w))
ruled (Call.expire events now allowance) w h =
    let o = expire allowance now (state_of w) in
    of-tables w h (goes o) (has_events (written o.emitted)) (expire-says allowance now (state_of w) (fit-state (state_of w) (good-held w h).fits))
ruled (Call.add_route4 q events) w h = let o = add_route4 q (state_of w) in of-tables w h o (has_events (answered o)) (add_route4-says q (state_of w))
ruled (Call.del_route4 q events) w h =
    let o = del_route4_request q (state_of w) in
    of-tables w h o (has_events (answered o)) (del_route4-says q (state_of w))
ruled (Call.dump4 room) w h = refl
ruled (Call.lookup4 rowRoom ip) w h = refl
ruled (Call.lookup4_flow rowRoom ip tos oif) w h = refl
ruled (Call.local4 ip) w h = refl
ruled (Call.source4 row ip) w h = refl
ruled (Call.source ip) w h = refl
ruled (Call.select4 dstPresent dst scope) w h = refl

-- ---- of every call on well-formed words, refused or not
pub record Counted (c : Call) (w : List ℕ) (r : Result) : Type 0 where
  pub changes : not (eq_row (base w) (base r.words)) ≡ altered c w r.reply (base r.words)
  pub words : r.words ≡ base r.words ++ (counted (altered c w r.reply (base r.words)) w ++ row_counts (state_of r.words))

-- a refusal that leaves every word
tells-idle : (x : Rule) (w : List ℕ) (n : ℕ) → tells x w (refusal n) (base w) ≡ false
tells-idle x w n = go x
  where
    tables : more_tables w (base w) ≡ false
    tables = le-ltb (table_count w) (table_count (base w)) (omega (arith, get_or-take base_size w 2 0 (omega arith)))

    go : (x : Rule) → tells x w (refusal n) (base w) ≡ false
    go never = refl
    go by_routes = le-ltb (route_count (base w)) (route_count w) (omega (arith, get_or-take base_size w 1 0 (omega arith)))
    go by_events = tables
    go (by_row q now) = tables

stays-counted : (c : Call) (w : List ℕ) (r : Reply) → Held w → tells (rule_of c) w r (base w) ≡ false
    → Counted c w (record { reply = r; words = w })
stays-counted c w r h e =
    record {
      changes = ap not (eq_row-refl (base w)) ∙ sym e;
      words =
          rw e
          (sym (rw (← h.counts, counted-idle w) (take-append-drop base_size w)));
    }

changed-is : (w : List ℕ) (st : State) → changed w st ≡ not (eq_row (base w) (encode st))
unfolding changed
changed-is w st = refl

left-counted : (c : Call) (w : List ℕ) (r : Reply) (st : State) → Admissible st → changed w st ≡ altered c w r (encode st)
    → Counted c w (record { reply = r; words = leaves w st })
left-counted c w r st g s =
    let e = base-leaves w st (encodable g) in
    let same : changed w st ≡ altered c w r (base (leaves w st)) = s ∙ ap (altered c w r) (sym e) in
    record {
      changes = ap (λ (v : List ℕ). not (eq_row (base w) v)) e ∙ sym (changed-is w st) ∙ same;
      words =
          ap (λ (v : List ℕ). v ++ (counted (changed w st) w ++ row_counts st)) (sym e)
          ∙ ap₂ (λ (b : Bool) (s : State). base (leaves w st) ++ (counted b w ++ row_counts s)) same (sym (decode-leaves w st g));
    }

outcome-counted : (c : Call) (w : List ℕ) (o : Outcome) → Held w → (roomy o ≡ true → Admissible (result o)) → Ruled c w o → Counted c w (outcome o w)
outcome-counted c w o h g s =
    cond-case (Counted c w) (roomy o)
    (λ e. left-counted c w (answered o) (result o) (g e) (changed-says w h (result o) (altered c w (answered o) (encode (result o))) (g e) s))
    (λ e. stays-counted c w (refusal 203) h (tells-idle (rule_of c) w 203))

pub step-counted : (c : Call) (w : List ℕ) → Held w → Counted c w (step c w)
step-counted c w h =
    perform-case (Counted c w) w (semantics c) (λ z. go (semantics c).action (lawful c).acts (ruled c w h) z)
    (λ n e z. stays-counted c w (refusal n) h (tells-idle (rule_of c) w n))
  where
    k : Checks
    k = (semantics c).checks

    go : (a : Action) → Acts k a → RuledBy c w a → checked k w ≡ 0 → Counted c w (acted a w)
    go (changes listed f) l r z = outcome-counted c w (f (state_of w)) h (good-result (f (state_of w)) (checked-sound k w z l).kept) r
    go (replies f) l r z = stays-counted c w (f (state_of w)) h (ap (λ (x : Rule). tells x w (f (state_of w)) (base w)) r)
    go (lists f) l r z = stays-counted c w (written (f (state_of w))) h (ap (λ (x : Rule). tells x w (written (f (state_of w))) (base w)) r)
