-- One address goes: itself, emitted, and then what goes with it.
-- Assumes nothing.
use Rattle.std.specs.Prelude.{ℕ, suc, ◌+◌, ◌*◌, ◌≤◌, ◌<◌, ◌≡◌, refl, Bool, true, false, not, ◌&&◌, List, [], ◌∷◌, ◌++◌, map, eqb, ltb, length, get_or, take, drop, position, Some, None}
use Rattle.std.proofs.Common.{sym, ap, ◌∙◌, arith, eq-eqb, length-append}
use Rattle.lists.specs.Lists.{Row, any, all, keep, remove_first, eq_row, zeros}
use Rattle.lists.specs.Bools.{or_case, cond-true, cond-false, and_both}
use Rattle.lists.specs.All.{eq_row-true, eq_row-refl, all_head, all_tail, all_append, all_map, all_keep}
use Rattle.lists.specs.At.{remove_at}
use Rattle.lists.specs.Rows.{length-zeros, sized}
use Rattle.lists.specs.Front.{any_here}
use Rattle.lists.specs.Count.{length-remove_first, count-remove_first}
use Rattle.lists.specs.Library.{found-place, missing-place}
use Rattle.lists.specs.Place.{remove_at_lem, any_at}
use Rattle.prefix.specs.Mask.{network, broadcast}
use Rattle.layout.specs.Address as Address
use Rattle.layout.specs.Address.{fit_address, local, address, prefix, secondary, no_prefix_route}
use Rattle.layout.specs.Route as Route
use Rattle.layout.specs.Event.{del_addr4}
use Rattle.definition.specs.State.{State, Out, becomes, stays, also, through, with_addresses}
use Rattle.definition.specs.Words.{address_count}
use Rattle.definition.specs.Reference.Insert.{kernel_del4}
use Rattle.definition.specs.Reference.Lookup.{local_kind, broadcast_kind}
use Rattle.definition.specs.Reference.Addresses.{kernel_route, local_route, up_routes, prefix_route, primary_of, only, names_broadcast, own_network}
use Rattle.definition.specs.Reference.Removal.{any_priority, of_kind, wanted, leaving, unwanted, fall, disable, remove_one, remove_v4}
use Rattle.definition.specs.Preservation.Fit.{length-address}
use Rattle.definition.specs.Preservation.Shrinking.{potential, live, removes_drops, remove_one_removes}
use Rattle.state.specs.Represents.{Represents, count-addresses}
use Rattle.step_events.specs.Tells.{Tells}
use Rattle.step_events.specs.Emits.{Emits, does-same, does-also}
use Rattle.step_events.specs.EmitsWithin.{RoomFor, SomeRoom, EmitsWithin, rest-fits, step_same, step-one, step-also, step-none, does-step}
use Rattle.step_events.specs.Iterations.{Like, like_refl, like_sym, like_trans, like_eq, also_like, also_assoc, Going, going_start, going-iteration, going_end}
use Rattle.step_events.specs.declared.change.Change.{Change}
use Rattle.step_drop_prefsrc.specs.Delete.{step_eq}
use Rattle.step_drop_routes.specs.One.{closing, unless_wanted, unwanted-turns, loses, fall_from, fall-from}
use Rattle.step_drop_routes.specs.Iterations.{routes_go}
use Rattle.step_remove_v4.specs.Gone.{goes_with, gone_turn, secondaries, remove_parts, primary_there, pass, Passed, pass-start, gone-iteration, pass-end}

-- ---- an address that is there
pub record Present (r : Row) (a : Change) : Type 0 where
  pub state : State
  pub fits : RoomFor potential state a
  pub there : any (eq_row r) state.addresses ≡ true

-- it goes, and is emitted
abbrev pub gone_from : Row → State → Out
gone_from a st = becomes (with_addresses (remove_first (eq_row a) st.addresses) st) (del_addr4 a ∷ [])

-- and there is room for what goes with the last address
pub gone-lighter : (a : Row) (st : State) → any (eq_row a) st.addresses ≡ true → 1 + closing (gone_from a st).state ≤ potential st
gone-lighter a st h = omega (arith, length-remove_first (eq_row a) st.addresses h, count-remove_first live (eq_row a) st.addresses)

-- ---- the whole
abbrev pub by_parts : Row → State → Out
by_parts a st = also (gone_from a st) (routes_go (local a) (leaving st.addresses a))

pub one-parts : (a : Row) (st : State) → Like (remove_one a st) (by_parts a st)
unfolding remove_one unwanted
one-parts a st =
    let left = remove_first (eq_row a) st.addresses in
    let l = leaving st.addresses a in
    let routes = keep (λ r. not (wanted left r)) l in
    let gone = gone_from a st in
    let fell : State → Out = fall_from (local a) (any (loses left) l) in
    like_trans
    (also_like disable disable
    (also_like (fall a routes) fell
    (also_like (through kernel_del4 routes) (through unless_wanted l) (like_refl gone) (unwanted-turns left l gone.state refl))
    (like_eq (fall-from a left l (also gone (through kernel_del4 routes)).state)))
    (like_refl _))
    (like_trans (also_like disable disable (also_assoc gone (through unless_wanted l) fell) (like_refl _))
    (like_trans (also_assoc gone (λ s. also (through unless_wanted l s) fell) disable)
    (also_like (λ s. also (also (through unless_wanted l s) fell) disable) (routes_go (local a) l) (like_refl gone) (like_refl _))))

-- ---- the routes that leave are rows of 32 words
route-sized : (dst len priority kind source : ℕ) → eqb (length (kernel_route dst len priority kind source)) 32 ≡ true
unfolding kernel_route zeros
route-sized dst len priority kind source = eq-eqb (length (kernel_route dst len priority kind source)) 32 refl

only-sized : (b : Bool) (r : Row) → eqb (length r) 32 ≡ true → sized 32 (only b r) ≡ true
only-sized true r e = and_both (eqb (length r) 32) true e refl
only-sized false r e = refl

three-sized : (p q r : Bool) (x y z : Row) → eqb (length x) 32 ≡ true → eqb (length y) 32 ≡ true → eqb (length z) 32 ≡ true → sized 32 (only p x ++ (only q y ++ only r z)) ≡ true
three-sized p q r x y z a b c =
    all_append (λ r. eqb (length r) 32) (only p x) (only q y ++ only r z) (only-sized p x a)
    (all_append (λ r. eqb (length r) 32) (only q y) (only r z) (only-sized q y b) (only-sized r z c))

up-sized : (source : ℕ) (a : Row) → sized 32 (up_routes source a) ≡ true
unfolding up_routes prefix_route
up-sized source a =
    three-sized (names_broadcast a) (own_network a && not (secondary a) && not (no_prefix_route a)) (own_network a && not (secondary a) && ltb (prefix a) 31)
    (kernel_route (Address.broadcast a) 32 0 broadcast_kind source) (kernel_route (network (address a) (prefix a)) (prefix a) (Address.priority a) local_kind source)
    (kernel_route (broadcast (address a) (prefix a)) 32 0 broadcast_kind source)
    (route-sized (Address.broadcast a) 32 0 broadcast_kind source)
    (route-sized (network (address a) (prefix a)) (prefix a) (Address.priority a) local_kind source)
    (route-sized (broadcast (address a) (prefix a)) 32 0 broadcast_kind source)

pub leaving-sized : (l : List Row) (a : Row) → sized 32 (leaving l a) ≡ true
unfolding leaving local_route
leaving-sized l a =
    let source = primary_of l a in
    let wide : Row → Bool = λ r. eqb (length r) 32 in
    let ups : List Row = up_routes source a in
    all_append wide (map any_priority (keep (of_kind local_kind) ups)) (keep (of_kind broadcast_kind) ups ++ (kernel_route (local a) 32 0 local_kind source ∷ []))
    (all_map wide wide any_priority (keep (of_kind local_kind) ups) (λ r e. route-sized (Route.dst r) (Route.len r) 0 (Route.kind r) (Route.prefsrc r)) (all_keep wide (of_kind local_kind) ups (up-sized source a)))
    (all_append wide (keep (of_kind broadcast_kind) ups) (kernel_route (local a) 32 0 local_kind source ∷ []) (all_keep wide (of_kind broadcast_kind) ups (up-sized source a))
    (and_both (wide (kernel_route (local a) 32 0 local_kind source)) true (route-sized (local a) 32 0 local_kind source) refl))

-- ---- the steps
pub present-fit : {r : Row} {a : Change} → Present r a → fit_address r ≡ true
present-fit {r} p = go p.state.addresses p.fits.holds.addresses_fit p.there
  where
    go : (l : List Row) → all fit_address l ≡ true → any (eq_row r) l ≡ true → fit_address r ≡ true
    go [] h e = cc
    go (b ∷ l) h e =
        or_case (eq_row r b) (any (eq_row r) l) e (λ q. rw (eq_row-true r b q) (all_head fit_address b l h)) (λ q. go l (all_tail fit_address b l h) q)

-- the address itself
pub gone-step : {st : State} {a b : Change} (r : Row) (i : ℕ) → RoomFor potential st a → any (eq_row r) st.addresses ≡ true → fit_address r ≡ true
    → position (eq_row r) st.addresses ≡ Some i → Represents b.state.words.now (with_addresses (remove_at i st.addresses) st) → Tells (del_addr4 r ∷ []) a b
    → EmitsWithin potential st (gone_from r st) a b
unfolding remove_at del_addr4
gone-step {st} r i f t g e h w =
    let same : remove_first (eq_row r) st.addresses ≡ take i st.addresses ++ drop (suc i) st.addresses =
    remove_at_lem (eq_row r) st.addresses ∙ ap (λ (n : ℕ). take n st.addresses ++ drop (suc n) st.addresses) (sym (found-place (eq_row r) st.addresses i e).0)
    in
    step-one potential (with_addresses (remove_first (eq_row r) st.addresses) st) (del_addr4 r) f (rw same h)
    (omega (arith, length-append r (zeros 12), length-zeros 12, length-address r g)) (omega (arith, gone-lighter r st t)) w

-- where an address is there is room for its event, and a place among the rows
pub present-room : {r : Row} {a : Change} → Present r a → 34 * (a.told + 1) ≤ length a.events.now
present-room {r} p = omega (arith, gone-lighter r p.state p.there, p.fits.room)

pub present-found : (r : Row) (l : List Row) → any (eq_row r) l ≡ true → position (eq_row r) l ≡ None → ⊥
present-found r l t e = omega (arith, any_at (eq_row r) l t, missing-place (eq_row r) l e)

pub present_ready : {r : Row} {a : Change} → Present r a → SomeRoom potential a
present_ready p = record { state = p.state; fits = p.fits }

-- with what goes with it
pub closing_room : {st : State} {a b : Change} (r : Row) → any (eq_row r) st.addresses ≡ true → EmitsWithin potential st (gone_from r st) a b → RoomFor closing (gone_from r st).state b
closing_room {st} r h t =
    record { holds = t.emits.holds; room = omega (arith, gone-lighter r st h, t.room, t.emits.tells.told, t.emits.tells.long) }

pub one-step : {st : State} {a b c : Change} (r : Row) → RoomFor potential st a → any (eq_row r) st.addresses ≡ true → EmitsWithin potential st (gone_from r st) a b
    → Emits (routes_go (local r) (leaving st.addresses r) (gone_from r st).state) b c
    → EmitsWithin potential st (remove_one r st) a c
one-step {st} r f h t u =
    let e = like_sym (one-parts r st) in
    does-step potential (does-same e.leaves e.same_emitted (does-also t.emits (routes_go (local r) (leaving st.addresses r)) u)) f
    (removes_drops r st (remove_one r st) h (remove_one_removes r st)).lighter

-- ---- a primary and its secondaries
module _ {st : State} {a : Change} (p : Row) (i : ℕ) (b : i < address_count a.state.words.now) (f : RoomFor potential st a) where
  there : i < length st.addresses
  there = omega (arith, count-addresses f.holds)

  pub secondary-goes : goes_with p (get_or st.addresses i []) ≡ true → {c : Change}
      → (any (eq_row (get_or st.addresses i [])) st.addresses ≡ true → EmitsWithin potential st (remove_one (get_or st.addresses i []) st) a c) → EmitsWithin potential st (gone_turn p i st) a c
  secondary-goes e t =
      let r : Row = get_or st.addresses i [] in
      step_eq (cond-true (goes_with p r) (remove_one r st) (stays st) e) (t (any_here (eq_row r) st.addresses i [] there (eq_row-refl r)))

  pub other-stays : goes_with p (get_or st.addresses i []) ≡ false → EmitsWithin potential st (gone_turn p i st) a a
  other-stays e =
      let r : Row = get_or st.addresses i [] in
      step_eq (cond-false (goes_with p r) (remove_one r st) (stays st) e) (step-none potential f)

pub row-present : {a : Change} (y : SomeRoom potential a) (i : ℕ) → i < address_count a.state.words.now → Present (get_or y.state.addresses i []) a
row-present y i b =
    let r : Row = get_or y.state.addresses i [] in
    record { state = y.state; fits = y.fits; there = any_here (eq_row r) y.state.addresses i [] (omega (arith, count-addresses y.fits.holds)) (eq_row-refl r) }

-- the pass so far
abbrev pub Going1 : Row → State → ℕ → ℕ → Change → Change → Type 0
Going1 p st n j a b = Going potential st (secondaries p st) (pass p n j) (Passed p n j) a b

pub gone-start : {st : State} {a : Change} (p : Row) (n : ℕ) → n ≡ address_count a.state.words.now → RoomFor potential st a → Going1 p st n 0 a a
gone-start {st} p n e f =
    let all : n ≡ length st.addresses = e ∙ count-addresses f.holds in
    let q = pass-start p st in
    going_start potential (pass p n 0) (Passed p n 0) f (rw all q.0) (rw all q.1)

module _ (p : Row) (n j : ℕ) {st : State} {a b : Change} (g : Going1 p st n j a b) where
  pub gone-facts : (address_count b.state.words.now ≤ n) × (n ≤ j + address_count b.state.words.now)
  gone-facts =
      let c = count-addresses g.step.emits.holds in
      (omega (arith, c, g.holding.most), omega (arith, c, g.holding.least))

  pub gone-next : j < n → (i : ℕ) → i + n ≡ j + address_count b.state.words.now → {c : Change} → ((m : State) → RoomFor potential m b → EmitsWithin potential m (gone_turn p i m) b c)
      → Going1 p st n (j + 1) a c
  gone-next h i e t =
      going-iteration potential g (gone_turn p i) (pass p n (j + 1)) (Passed p n (j + 1)) (λ m q f. t m f)
      (λ m q w. gone-iteration p n j i m q (omega (arith, count-addresses w)) h)

  pub gone-last : n ≤ j → EmitsWithin potential st (secondaries p st) a b
  gone-last h = going_end potential g (λ m q w. pass-end p n j m q h)

-- the primary itself behind them
pub primary_present : {st : State} {a b : Change} (p : Row) → any (eq_row p) st.addresses ≡ true → EmitsWithin potential st (secondaries p st) a b → Present p b
primary_present {st} p t u = record { state = (secondaries p st).state; fits = rest-fits potential u; there = primary_there p st t }

pub removed-step : {st : State} {a b c : Change} (p : Row) → any (eq_row p) st.addresses ≡ true → EmitsWithin potential st (secondaries p st) a b
    → ((m : State) → RoomFor potential m b → any (eq_row p) m.addresses ≡ true → EmitsWithin potential m (remove_one p m) b c)
    → EmitsWithin potential st (remove_v4 p st) a c
removed-step {st} p t u v =
    let e = like_sym (remove_parts p st) in
    step_same potential e.leaves e.same_emitted (step-also potential u (remove_one p) (v (secondaries p st).state (rest-fits potential u) (primary_there p st t)))
