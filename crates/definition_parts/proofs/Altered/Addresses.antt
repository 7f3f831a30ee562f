-- Whether `add_v4` changes the state: a new address does, and another row.
-- Assumes nothing.
use Rattle.std.specs.Prelude.{ℕ, ◌<◌, ◌≤◌, ◌≡◌, refl, Bool, true, false, cond, ◌&&◌, ◌||◌, List, [], ◌∷◌, eqb, ltb, length, set}
use Rattle.std.proofs.Common.{get_or-set_same, get_or-set_other, sym, ap, ◌∙◌, arith, length-append, eq-eqb, lt-ltb}
use Rattle.std.proofs.Math.Option.{Option, none, some}
use Rattle.std.proofs.lemmas.Bool.{not-true}
use Rattle.lists.specs.Lists.{Row, any, first, replace_first, eq_row}
use Rattle.lists.specs.Bools.{test-case, cond-case, true-false, fails, and_iff, cond-true, cond-false}
use Rattle.lists.specs.All.{eq_row-true, eq_eq_row, all_first}
use Rattle.layout.specs.Address.{fit_address}
use Rattle.layout.specs.Event.{new_addr4}
use Rattle.layout.specs.Request.{replace_asked, up_at_add_v4}
use Rattle.definition.specs.State.{State, Out, stays, also, with_addresses}
use Rattle.definition.specs.Reference.Insert.{create4, insert4, Inserted, placed, nothing, inserted, kernel_add4}
use Rattle.definition.specs.Reference.Addresses.{Outcome, new_address, changed_to, set_life, moved, reroutes, change_v4, added_over, add_v4, asked, as_secondary, same_address, same_subnet, up}
use Rattle.definition.specs.Step.{answered, result}
use Rattle.definition.specs.Preservation.Fit.{Invariant, length-address}
use Rattle.definition.specs.Preservation.Growing.{new_address-adds}
use Rattle.definition.specs.Preservation.Shrinking.{kernel_del4_away}
use Rattle.definition_parts.specs.Rule.{has_events, row_changes}
use Rattle.definition_parts.proofs.Altered.Says.{Says, with-tables, also-loud}
use Rattle.layout.specs.Address as Address

-- ---- add_v4: a new address, or another row
replaced-old : (p : Row → Bool) (l : List Row) (y : Row) → first p l ≡ some y → replace_first p y l ≡ l
replaced-old p [] y h = refl
replaced-old p (x ∷ l) y h =
    cond-case (λ (o : Option Row). o ≡ some y → replace_first p y (x ∷ l) ≡ x ∷ l) (p x)
    (λ e k. let s : y ≡ x = cc in rw (e, s)) (λ e k. rw (e, replaced-old p l y k)) h

replaced-same : (p : Row → Bool) (l : List Row) (x y : Row) → first p l ≡ some y → replace_first p x l ≡ l → x ≡ y
replaced-same p [] x y h k = cc
replaced-same p (z ∷ l) x y h k =
    test-case (p z)
    (λ e.
    let a : some z ≡ some y = sym (cond-true (p z) (some z) (first p l) e) ∙ h in
    let b : x ∷ l ≡ z ∷ l = sym (cond-true (p z) (x ∷ l) (z ∷ replace_first p x l) e) ∙ k in
    cc)
    (λ e.
    let a : first p l ≡ some y = sym (cond-false (p z) (some z) (first p l) e) ∙ h in
    let b : z ∷ replace_first p x l ≡ z ∷ l = sym (cond-false (p z) (x ∷ l) (z ∷ replace_first p x l) e) ∙ k in
    replaced-same p l x y a (cc))

-- the changed row's priority is the one asked for: no other field stands there
beside : (a : Row) (i n : ℕ) → (13 ≡ i → ⊥) → Address.priority (set a i n) ≡ Address.priority a
beside a i n h = get_or-set_other a i 13 n 0 h

among-sets : (a : Row) (x proto flags valid preferred low high : ℕ) → 13 < length a
    → Address.priority (set (set (set (set (set (set (set a 13 x) 7 proto) 6 flags) 14 valid) 15 preferred) 18 low) 19 high) ≡ x
among-sets a x proto flags valid preferred low high h =
    let p = set a 13 x in
    let r = set p 7 proto in
    let f = set r 6 flags in
    let v = set f 14 valid in
    let l = set v 15 preferred in
    beside (set l 18 low) 19 high (λ e. omega arith)
    ∙ beside l 18 low (λ e. omega arith)
    ∙ beside v 15 preferred (λ e. omega arith)
    ∙ beside f 14 valid (λ e. omega arith)
    ∙ beside r 6 flags (λ e. omega arith)
    ∙ beside p 7 proto (λ e. omega arith)
    ∙ get_or-set_same a 13 x 0 h

changed-priority : (q old : Row) (now : ℕ) → 13 < length old → Address.priority (changed_to q old now) ≡ Address.priority q
unfolding changed_to set_life
changed-priority q old now h = among-sets old (Address.priority q) (Address.proto q) _ _ _ _ _ h

inserted-addresses : (new : Row) (i : Inserted) (st : State) → (inserted new i st).state.addresses ≡ st.addresses
inserted-addresses new (placed m f) st = refl
inserted-addresses new nothing st = refl
inserted-addresses new (Inserted.unplaced n) st = refl

moved-addresses : (q old : Row) (st : State) → (moved q old st).state.addresses ≡ st.addresses
unfolding moved also kernel_add4 create4
moved-addresses q old st =
    cond-case (λ (o : Out). o.state.addresses ≡ st.addresses) (reroutes q old)
    (λ e. (kernel_del4_away _ _).same_addresses ∙ inserted-addresses _ (insert4 _ 0xc00 st.routes) (create4 _ st)) (λ e. refl)

moved-idle : (q old : Row) (st : State) → reroutes q old ≡ false → moved q old st ≡ stays st
unfolding moved
moved-idle q old st h = rw h

change_v4-says : (q old : Row) (now : ℕ) (st : State) → first (same_address q) st.addresses ≡ some old → fit_address old ≡ true
    → Says st (change_v4 q old now st).state (row_changes q now (some old))
unfolding change_v4 also
change_v4-says q old now st h fit =
    let row : Row = changed_to q old now in
    test-case (eq_row row old)
    (λ e.
    let same : row ≡ old = eq_row-true row old e in
    let level : Address.priority old ≡ Address.priority q =
    ap Address.priority (sym same) ∙ changed-priority q old now (omega (arith, length-address old fit))
    in
    let equal : eqb (Address.priority old) (Address.priority q) ≡ true = eq-eqb (Address.priority old) (Address.priority q) level in
    let idle : reroutes q old ≡ false =
    fails (reroutes q old) (λ k. true-false (eqb (Address.priority old) (Address.priority q)) equal (not-true _ (simp and_iff at k).0.0.0.1))
    in
    let left : moved q old st ≡ stays st = moved-idle q old st idle in
    rw e
    (ap (λ (o : Out). with_addresses (replace_first (same_address q) row o.state.addresses) o.state) left
    ∙ ap (λ (l : List Row). with_addresses l st)
    (ap (λ (r : Row). replace_first (same_address q) r st.addresses) same ∙ replaced-old (same_address q) st.addresses old h)))
    (λ e.
    rw e
    (λ k. true-false (eq_row row old)
    (eq_eq_row row old
    (replaced-same (same_address q) st.addresses row old h
    (ap (replace_first (same_address q) row) (sym (moved-addresses q old st)) ∙ ap (λ (s : State). s.addresses) k)))
    e))

new_address-loud : (new : Row) (up : Bool) (st : State) → 1 ≤ length (new_address new up st).emitted
unfolding new_address
new_address-loud new up st = also-loud _ _ (omega arith)

change_v4-loud : (q old : Row) (now : ℕ) (st : State) → 1 ≤ length (change_v4 q old now st).emitted
unfolding change_v4 also
change_v4-loud q old now st = omega (arith, length-append (moved q old st).emitted (new_addr4 (changed_to q old now) ∷ []))

added_over-says : (q : Row) (now : ℕ) (o : Option Row) (st : State) → first (same_address q) st.addresses ≡ o → Invariant st
    → Says st (result (added_over q now o st)) (has_events (answered (added_over q now o st)) && row_changes q now o)
added_over-says q now (some old) st h f =
    cond-case (λ (o : Outcome). Says st (result o) (has_events (answered o) && row_changes q now (some old))) (eqb (replace_asked q) 1)
    (λ e.
    rw (lt-ltb 0 (length (change_v4 q old now st).emitted) (change_v4-loud q old now st))
    (change_v4-says q old now st h (all_first fit_address (same_address q) st.addresses old f.of_addresses h)))
    (λ e. refl)
added_over-says q now none st h f =
    let new = cond (any (λ old. same_subnet old q) st.addresses) (as_secondary (asked q now)) (asked q now) in
    let up : Bool = eqb (up_at_add_v4 q) 1 in
    let loud = new_address-loud new up st in
    rw (lt-ltb 0 (length (new_address new up st).emitted) loud) (λ e.
    let routes = ap (λ (s : State). length s.routes) e in
    let addresses = ap (λ (s : State). length s.addresses) e in
    omega (arith, (new_address-adds new up st).grown, loud, routes, addresses))

-- the row, where there is an event, or more tables
abbrev pub row_or_tables : Row → ℕ → State → Outcome → Bool
row_or_tables q now st o =
    (has_events (answered o) && row_changes q now (first (same_address q) st.addresses)) || ltb (length st.tables) (length (result o).tables)

pub add_v4-says : (q : Row) (now : ℕ) (st : State) → Invariant st → Says st (result (add_v4 q now st)) (row_or_tables q now st (add_v4 q now st))
unfolding add_v4
add_v4-says q now st f =
    let o = added_over q now (first (same_address q) st.addresses) st in
    with-tables st (result o) (has_events (answered o) && row_changes q now (first (same_address q) st.addresses))
    (added_over-says q now (first (same_address q) st.addresses) st refl f)
