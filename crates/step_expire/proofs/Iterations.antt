-- `expire` address by address: one that is due goes and all begins again, one that fades is marked, and behind a front
-- of addresses that do neither what is left is `expire` itself.
-- Assumes nothing.
use Rattle.std.specs.Prelude.{ℕ, suc, ◌+◌, ◌-◌, ◌*◌, ◌/◌, ◌%◌, ◌^◌, ◌≤◌, ◌<◌, ◌≡◌, Bool, false, not, ◌||◌, eqb, get_or, take, drop, set}
use Rattle.std.proofs.Math.Path.{refl, ap}
use Rattle.std.proofs.Common.{sym, ◌∙◌, length-append, take_all, take_at, length-take-le}
use Rattle.std.proofs.Math.Bool.{true}
use mathlib.Core.List.{List, [], ◌∷◌, ◌++◌, map, append-nil, append_assoc}
use Rattle.std.proofs.Math.Option.{Option, none, some}
use native.Mathlib.Omega.{arith}
use borrow.Author.Tests.{lt-ltb, le-ltb, not-true}
use Rattle.std.proofs.Math.ListN.{length, length-set}
use Rattle.std.proofs.lemmas.List.{set_split}
use Rattle.std.proofs.Math.Seq.{split_at}
use Rattle.lists.specs.Lists.{Row, all, any, keep, first, until, onward, remove_first, eq_row}
use Rattle.lists.specs.Bools.{or-false, or_left, and_iff, test-case, cond-case, fails, true-false}
use Rattle.lists.specs.All.{any_none, eq_row-refl}
use Rattle.lists.specs.At.{all-at}
use Rattle.lists.specs.Count.{tick-one, tick-none, count, count_append, length-remove_first, length-remove_first-most}
use Rattle.layout.specs.Flags.{has_bit, set_bit, clear_bit}
use Rattle.layout.specs.Address.{fit_address, deprecated, flags}
use Rattle.layout.specs.Spelled.{spelled, by-words}
use Rattle.layout.specs.Event.{new_addr4}
use Rattle.definition.specs.State.{State, Out, becomes, stays, also, through, with_addresses}
use Rattle.definition.specs.Reference.Removal.{remove_one, remove_v4, due, deprecates, deprecate, marked, deprecate_due, expire}
use Rattle.step_expire.specs.Iteration.{expire_turn, next_place}
use Rattle.definition.specs.Laws.Expire.{expire-last, expire-again}
use Rattle.definition.specs.Preservation.Fit.{length-address}
use Rattle.definition.specs.Preservation.Shrinking.{potential, live, deprecate-marked, remove_one_removes}
use Rattle.step_events.specs.Iterations.{Like, like_refl, like_sym, like_trans, like_eq, stays-also, also_like, also_assoc}
use Rattle.lists.specs.Front.{none-joined, first-front, front-more, any_here}
use Rattle.step_remove_v4.specs.Gone.{goes_with, secondaries, remove_parts, primary_there}

-- ---- an address that is marked
small : (x b q : ℕ) → x < 128 → q ≡ x / 32 → b ≡ q % 2 → (b * 32 ≤ x) × (x - b * 32 + 32 < 128)
small x b q h e k = (omega arith, omega arith)

bit_of : (t x q : ℕ) → q ≡ x / 32 → (128 * t + x) / 32 % 2 ≡ q % 2
bit_of t x q h = omega arith

above : (f t x b : ℕ) → f ≡ 128 * t + x → x < 128 → b * 32 ≤ x → x - b * 32 + 32 < 128 → (f - b * 32 + 32) / 128 ≡ f / 128
above f t x b e h k j = omega arith

other-bit : (f : ℕ) → has_bit 7 (set_bit 5 f) ≡ has_bit 7 f
unfolding has_bit set_bit clear_bit
other-bit f =
    let t = f / 128 in
    let x = f % 128 in
    let e : f ≡ 128 * t + x = omega arith in
    let b : f / 2 ^ 5 % 2 ≡ x / 32 % 2 = ap (λ (n : ℕ). n / 32 % 2) e ∙ bit_of t x (x / 32) refl in
    let k = small x (f / 2 ^ 5 % 2) (x / 32) (omega arith) refl b in
    let same : (f - f / 2 ^ 5 % 2 * 2 ^ 5 + 2 ^ 5) / 2 ^ 7 % 2 ≡ f / 2 ^ 7 % 2 = ap (λ (n : ℕ). n % 2) (above f t x (f / 2 ^ 5 % 2) e (omega arith) k.0 k.1) in
    ap (λ (n : ℕ). eqb n 1) same

module _ (allowance now : ℕ) where
  -- it is due as before, and fades no more
  due-deprecate : (a : Row) → fit_address a ≡ true → due allowance now (deprecate a) ≡ due allowance now a
  unfolding due deprecate
  due-deprecate a h =
      by-words (λ r. due allowance now (deprecate r) ≡ due allowance now r) 20 a (length-address a h) (rw (other-bit (flags (spelled 20 a))))

  deprecates-deprecate : (a : Row) → fit_address a ≡ true → deprecates allowance now (deprecate a) ≡ false
  unfolding deprecates
  deprecates-deprecate a h = fails _ (λ e. true-false (deprecated (deprecate a)) (deprecate-marked a h) (not-true (deprecated (deprecate a)) (simp and_iff at e).0.1))

  -- it is due or fades
  abbrev pub stirs : Row → Bool
  stirs a = due allowance now a || deprecates allowance now a

  not-due : (l : List Row) → any stirs l ≡ false → any (due allowance now) l ≡ false
  not-due l h = any_none stirs (due allowance now) l (λ a e. or_left (due allowance now a) (deprecates allowance now a) e) h

  -- ---- a pass, as lists
  abbrev deprecate_list : List Row → List Row
  deprecate_list l = map (marked allowance now) (until (due allowance now) l) ++ onward (due allowance now) l

  abbrev emitted_of : List Row → List Row
  emitted_of l = map (λ a. new_addr4 (deprecate a)) (keep (deprecates allowance now) (until (due allowance now) l))

  -- a front that stays as it is
  deprecate-front : (l m : List Row) → any stirs l ≡ false → deprecate_list (l ++ m) ≡ l ++ deprecate_list m
  deprecate-front [] m h = refl
  deprecate-front (a ∷ l) m h =
      let k = or-false (stirs a) (any stirs l) h in
      let j = or-false (due allowance now a) (deprecates allowance now a) k.0 in
      rw (j.0, j.1) (ap (λ (x : List Row). a ∷ x) (deprecate-front l m k.1))

  emitted-front : (l m : List Row) → any stirs l ≡ false → emitted_of (l ++ m) ≡ emitted_of m
  emitted-front [] m h = refl
  emitted-front (a ∷ l) m h =
      let k = or-false (stirs a) (any stirs l) h in
      let j = or-false (due allowance now a) (deprecates allowance now a) k.0 in
      rw (j.0, j.1) (emitted-front l m k.1)

  first-behind : (l m : List Row) → any stirs l ≡ false → first (due allowance now) (l ++ m) ≡ first (due allowance now) m
  first-behind [] m h = refl
  first-behind (a ∷ l) m h =
      let k = or-false (stirs a) (any stirs l) h in
      let j = or-false (due allowance now a) (deprecates allowance now a) k.0 in
      rw j.0 (first-behind l m k.1)

  -- nothing is marked
  deprecate_due-stays : (st : State) → deprecate_list st.addresses ≡ st.addresses → emitted_of st.addresses ≡ [] → Like (deprecate_due allowance now st) (stays st)
  unfolding deprecate_due
  deprecate_due-stays st e f = record { leaves = ap (λ (l : List Row). with_addresses l st) e; same_emitted = f }

  -- ---- the three cases at address i, behind a front of those that don't stir
  module _ (st : State) (i : ℕ) (clean : any stirs (take i st.addresses) ≡ false) where
    abbrev l : List Row
    l = st.addresses

    abbrev a : Row
    a = get_or l i []

    module _ (b : i < length l) where
      abbrev rest : List Row
      rest = drop (suc i) l

      -- it is due
      deprecate_due-due : due allowance now a ≡ true → Like (deprecate_due allowance now st) (stays st)
      deprecate_due-due e =
          let here : deprecate_list (a ∷ rest) ≡ a ∷ rest = rw e in
          let none : emitted_of (a ∷ rest) ≡ [] = rw e in
          deprecate_due-stays st
          (ap deprecate_list (split_at l i [] b) ∙ deprecate-front (take i l) (a ∷ rest) clean ∙ ap (λ (x : List Row). take i l ++ x) here ∙ sym (split_at l i [] b))
          (ap emitted_of (split_at l i [] b) ∙ emitted-front (take i l) (a ∷ rest) clean ∙ none)

      pub expire-due : due allowance now a ≡ true → Like (expire allowance now st) (also (remove_v4 a st) (expire allowance now))
      expire-due e =
          let ex : State → Out = expire allowance now in
          like_trans (like_eq (expire-again allowance now st a (first-front (due allowance now) i l [] (not-due (take i l) clean) b e)))
          (like_trans (also_like ex ex (also_like (remove_v4 a) (remove_v4 a) (deprecate_due-due e) (like_refl _)) (like_refl _))
          (also_like ex ex (stays-also st (remove_v4 a)) (like_refl _)))

      -- it fades
      module _ (f : fit_address a ≡ true) (d : due allowance now a ≡ false) (e : deprecates allowance now a ≡ true) where
        abbrev later : State
        later = with_addresses (set l i (deprecate a)) st

        split : set l i (deprecate a) ≡ take i l ++ (deprecate a ∷ rest)
        split = set_split l i (deprecate a) b

        lists : deprecate_list l ≡ deprecate_list (set l i (deprecate a))
        lists =
            let one : deprecate_list (a ∷ rest) ≡ deprecate a ∷ deprecate_list rest = rw (d, e) in
            let two : deprecate_list (deprecate a ∷ rest) ≡ deprecate a ∷ deprecate_list rest = rw (due-deprecate a f ∙ d, deprecates-deprecate a f) in
            ap deprecate_list (split_at l i [] b) ∙ deprecate-front (take i l) (a ∷ rest) clean
            ∙ ap (λ (x : List Row). take i l ++ x) (one ∙ sym two)
            ∙ sym (ap deprecate_list split ∙ deprecate-front (take i l) (deprecate a ∷ rest) clean)

        tolds : emitted_of l ≡ new_addr4 (deprecate a) ∷ emitted_of (set l i (deprecate a))
        tolds =
            let one : emitted_of (a ∷ rest) ≡ new_addr4 (deprecate a) ∷ emitted_of rest = rw (d, e) in
            let two : emitted_of (deprecate a ∷ rest) ≡ emitted_of rest = rw (due-deprecate a f ∙ d, deprecates-deprecate a f) in
            ap emitted_of (split_at l i [] b) ∙ emitted-front (take i l) (a ∷ rest) clean ∙ one
            ∙ ap (λ (x : List Row). new_addr4 (deprecate a) ∷ x) (sym (ap emitted_of split ∙ emitted-front (take i l) (deprecate a ∷ rest) clean ∙ two))

        abbrev marks : Out
        marks = becomes later (new_addr4 (deprecate a) ∷ [])

        deprecate_due-later : Like (deprecate_due allowance now st) (also marks (deprecate_due allowance now))
        unfolding also deprecate_due
        deprecate_due-later = record { leaves = ap (λ (x : List Row). with_addresses x st) lists; same_emitted = tolds }

        same_first : first (due allowance now) l ≡ first (due allowance now) (set l i (deprecate a))
        same_first =
            let one : first (due allowance now) (a ∷ rest) ≡ first (due allowance now) rest = rw d in
            let two : first (due allowance now) (deprecate a ∷ rest) ≡ first (due allowance now) rest = rw (due-deprecate a f ∙ d) in
            ap (first (due allowance now)) (split_at l i [] b) ∙ first-behind (take i l) (a ∷ rest) clean
            ∙ one ∙ sym (ap (first (due allowance now)) split ∙ first-behind (take i l) (deprecate a ∷ rest) clean ∙ two)

        pub expire-deprecates : Like (expire allowance now st) (also marks (expire allowance now))
        expire-deprecates = go (first (due allowance now) l) refl
          where
            go : (o : Option Row) → first (due allowance now) l ≡ o → Like (expire allowance now st) (also marks (expire allowance now))
            go none q =
                like_trans (like_eq (expire-last allowance now st q))
                (like_trans deprecate_due-later (also_like (deprecate_due allowance now) (expire allowance now) (like_refl marks) (like_eq (sym (expire-last allowance now later (sym same_first ∙ q))))))
            go (some c) q =
                let ex : State → Out = expire allowance now in
                let fd : State → Out = deprecate_due allowance now in
                let whole : State → Out = λ s. also (also (fd s) (remove_v4 c)) ex in
                like_trans (like_eq (expire-again allowance now st c q))
                (like_trans (also_like ex ex (also_like (remove_v4 c) (remove_v4 c) deprecate_due-later (like_refl _)) (like_refl _))
                (like_trans (also_like ex ex (also_assoc marks fd (remove_v4 c)) (like_refl _))
                (like_trans (also_assoc marks (λ s. also (fd s) (remove_v4 c)) ex)
                (also_like whole ex (like_refl marks) (like_eq (sym (expire-again allowance now later c (sym same_first ∙ q))))))))

        -- the front is one longer
        pub deprecates-clean : any stirs (take (i + 1) (set l i (deprecate a))) ≡ false
        deprecates-clean =
            let two : stirs (deprecate a) ≡ false = rw (due-deprecate a f ∙ d, deprecates-deprecate a f) in
            let long : length (take i l) ≡ i = length-take-le i l (omega arith) in
            let there : take (i + 1) (set l i (deprecate a)) ≡ take i l ++ (deprecate a ∷ []) =
            ap (take (i + 1)) (split ∙ sym (append_assoc (take i l) (deprecate a ∷ []) rest))
            ∙ take_at (take i l ++ (deprecate a ∷ [])) rest (i + 1) (length-append (take i l) (deprecate a ∷ []) ∙ ap (λ (n : ℕ). n + 1) long)
            in
            rw there (none-joined stirs (take i l) (deprecate a ∷ []) clean (rw two))

    -- none is left
    pub expire-none : length l ≤ i → Like (expire allowance now st) (stays st)
    expire-none b =
        let whole : any stirs l ≡ false = rw (take_all i l b) at clean in
        let back : l ++ [] ≡ l = append-nil l in
        like_trans (like_eq (expire-last allowance now st (ap (first (due allowance now)) (sym back) ∙ first-behind l [] whole)))
        (deprecate_due-stays st (ap deprecate_list (sym back) ∙ deprecate-front l [] whole ∙ back) (ap emitted_of (sym back) ∙ emitted-front l [] whole))

  -- ---- an iteration
  -- of the addresses those before i don't stir
  pub record Quiet (i : ℕ) (st : State) : Type 0 where
    pub clean : any stirs (take i st.addresses) ≡ false
    pub within : i ≤ length st.addresses

-- ---- a removal leaves fewer addresses
through_fewer : (l : List Row) (st : State) → length (through remove_one l st).state.addresses ≤ length st.addresses
unfolding through also
through_fewer [] st = omega arith
through_fewer (b ∷ l) st =
    omega (arith, through_fewer l (remove_one b st).state, ap length (remove_one_removes b st).rest, length-remove_first-most (eq_row b) st.addresses)

pub removed_fewer : (a : Row) (st : State) → any (eq_row a) st.addresses ≡ true → length (remove_v4 a st).state.addresses < length st.addresses
removed_fewer a st t =
    let o = secondaries a st in
    let parts : length (remove_v4 a st).state.addresses ≡ length (also o (remove_one a)).state.addresses = ap (λ (s : State). length s.addresses) (remove_parts a st).leaves in
    let last : (also o (remove_one a)).state.addresses ≡ remove_first (eq_row a) o.state.addresses = also-state o (remove_one a) ∙ (remove_one_removes a o.state).rest in
    omega (arith, parts, ap length last, length-remove_first (eq_row a) o.state.addresses (primary_there a st t), fewer_secondaries a st)
  where
    also-state : (o : Out) (f : State → Out) → (also o f).state.addresses ≡ (f o.state).state.addresses
    also-state o f = unfold also in refl

    fewer_secondaries : (a : Row) (st : State) → length (secondaries a st).state.addresses ≤ length st.addresses
    fewer_secondaries a st = unfold secondaries in through_fewer (keep (goes_with a) st.addresses) st

module _ (allowance now : ℕ) (i : ℕ) (st : State) (h : Quiet allowance now i st) (fit : all fit_address st.addresses ≡ true) (b : i < length st.addresses) where
  abbrev here : Row
  here = get_or st.addresses i []

  -- what is left is expire, and the front doesn't stir
  pub expire-iteration : (j : ℕ) → j ≡ next_place i (length st.addresses) (length (expire_turn allowance now i st).state.addresses)
      → Like (expire allowance now st) (also (expire_turn allowance now i st) (expire allowance now)) × Quiet allowance now j (expire_turn allowance now i st).state
  unfolding expire_turn
  expire-iteration j q =
      test-case (due allowance now here)
      (λ d.
      let fewer = removed_fewer here st (any_here (eq_row here) st.addresses i [] b (eq_row-refl here)) in
      let none : j ≡ 0 = q ∙ rw (d, lt-ltb (length (remove_v4 here st).state.addresses) (length st.addresses) fewer) in
      rw (none, d) (expire-due allowance now st i h.clean b d, record { clean = refl; within = omega arith }))
      (λ d. test-case (deprecates allowance now here)
      (λ e.
      let f : fit_address here ≡ true = all-at fit_address i st.addresses [] b fit in
      let same : length (set st.addresses i (deprecate here)) ≡ length st.addresses = length-set st.addresses i (deprecate here) in
      let next : j ≡ i + 1 = q ∙ rw (d, e, le-ltb (length (set st.addresses i (deprecate here))) (length st.addresses) (omega arith)) in
      rw (next, d, e) (expire-deprecates allowance now st i h.clean b f d e, record { clean = deprecates-clean allowance now st i h.clean b f d e; within = omega arith }))
      (λ e.
      let next : j ≡ i + 1 = q ∙ rw (d, e, le-ltb (length st.addresses) (length st.addresses) (omega arith)) in
      rw (next, d, e) (like_sym (stays-also st (expire allowance now)), record { clean = front-more (stirs allowance now) i st.addresses [] h.clean b (rw (d, e)); within = omega arith })))

-- one that fades counts no longer
pub live-lighter : (allowance now : ℕ) (st : State) (i : ℕ) → i < length st.addresses → fit_address (get_or st.addresses i []) ≡ true → deprecates allowance now (get_or st.addresses i []) ≡ true
    → 1 + potential (with_addresses (set st.addresses i (deprecate (get_or st.addresses i []))) st) ≤ potential st
unfolding deprecates
live-lighter allowance now st i b f e =
    let l = st.addresses in
    let a = get_or l i [] in
    let rest = drop (suc i) l in
    let alive : live a ≡ true = (simp and_iff at e).0.1 in
    let dead : live (deprecate a) ≡ false = ap not (deprecate-marked a f) in
    let one : count live l ≡ count live (take i l) + count live (a ∷ rest) = ap (count live) (split_at l i [] b) ∙ count_append live (take i l) (a ∷ rest) in
    let two : count live (set l i (deprecate a)) ≡ count live (take i l) + count live (deprecate a ∷ rest) = ap (count live) (set_split l i (deprecate a) b) ∙ count_append live (take i l) (deprecate a ∷ rest) in
    omega (arith, one, two, tick-one (live a) alive, tick-none (live (deprecate a)) dead, length-set l i (deprecate a))

pub iteration_fewer : (allowance now i : ℕ) (st : State) → i < length st.addresses → length (expire_turn allowance now i st).state.addresses ≤ length st.addresses
unfolding expire_turn
iteration_fewer allowance now i st b =
    let a = get_or st.addresses i [] in
    cond-case (λ (o : Out). length o.state.addresses ≤ length st.addresses) (due allowance now a)
    (λ d. omega (arith, removed_fewer a st (any_here (eq_row a) st.addresses i [] b (eq_row-refl a))))
    (λ d. cond-case (λ (o : Out). length o.state.addresses ≤ length st.addresses) (deprecates allowance now a) (λ e. omega (arith, length-set st.addresses i (deprecate a))) (λ e. omega arith))
