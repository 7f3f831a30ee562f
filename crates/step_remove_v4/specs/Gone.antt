-- A primary's secondaries go in one pass: the list is fixed at the start, but each of its rows is the first equal one
-- behind a front of rows that stay.
-- Assumes nothing.
use Rattle.std.specs.Prelude.{ℕ, suc, ◌+◌, ◌-◌, ◌≤◌, ◌<◌, ◌≡◌, refl, Bool, true, cond, not, ◌&&◌, take}
use Rattle.std.proofs.Common.{sym, ◌∙◌}
use Rattle.std.proofs.Math.Path.{ap}
use Rattle.std.proofs.Math.Bool.{false}
use mathlib.Core.List.{List, [], ◌∷◌, ◌++◌}
use native.Mathlib.Omega.{arith}
use Rattle.std.proofs.Math.ListN.{length, get_or, drop, drop_of_length-le}
use Rattle.lists.specs.Lists.{Row, all, any, keep, remove_first, eq_row}
use Rattle.lists.specs.Bools.{fails, true-false, test-case}
use Rattle.lists.specs.All.{any_none, eq_row-refl, eq_row-true, all_head, all_tail, all-kept}
use Rattle.lists.specs.At.{remove_at, length-remove_at}
use Rattle.lists.specs.Count.{any-count, count-any, times-less, tick-none}
use Rattle.layout.specs.Address.{secondary}
use Rattle.definition.specs.State.{State, Out, stays, also, through}
use Rattle.definition.specs.Reference.Addresses.{same_subnet}
use Rattle.definition.specs.Reference.Removal.{remove_one, gone_with, remove_v4}
use Rattle.definition.specs.Preservation.Shrinking.{remove_one_removes}
use Rattle.step_events.specs.Iterations.{Like, like_refl, like_sym, like_trans, like_eq, stays-also, also_like, through-one, through_append}
use Rattle.lists.specs.Front.{remove_front, front-more, keep-here, keep-past, take-removed, drop-removed}

-- b goes with the primary a
abbrev pub goes_with : Row → Row → Bool
goes_with a b = not (secondary a) && (secondary b && same_subnet a b)

pub goes-not_self : (a : Row) → goes_with a a ≡ false
goes-not_self a = go (secondary a)
  where
    go : (s : Bool) → not s && (s && same_subnet a a) ≡ false
    go true = refl
    go false = refl

keep-never : (l : List Row) → keep (λ b. false) l ≡ []
keep-never [] = refl
keep-never (b ∷ l) = keep-never l

pub gone_with_lem : (l : List Row) (a : Row) → gone_with l a ≡ keep (goes_with a) l ++ (a ∷ [])
unfolding gone_with
gone_with_lem l a = go (secondary a)
  where
    go : (s : Bool) → cond s (a ∷ []) (keep (λ b. secondary b && same_subnet a b) l ++ (a ∷ [])) ≡ keep (λ b. not s && (secondary b && same_subnet a b)) l ++ (a ∷ [])
    go true = ap (λ (m : List Row). m ++ (a ∷ [])) (sym (keep-never l))
    go false = refl

-- another row gone, a row is still there
pub still-there : (a x : Row) (l : List Row) → eq_row a x ≡ false → any (eq_row a) l ≡ true → any (eq_row a) (remove_first (eq_row x) l) ≡ true
still-there a x l n h =
    count-any (eq_row a) (remove_first (eq_row x) l) (omega (arith, any-count (eq_row a) l h, times-less a x l, tick-none (eq_row a x) n))

module _ (a : Row) where
  -- ---- a removal, in two parts
  unfoldable pub secondaries : State → Out
  secondaries st = through remove_one (keep (goes_with a) st.addresses) st

  pub remove_parts : (st : State) → Like (remove_v4 a st) (also (secondaries st) (remove_one a))
  unfolding remove_v4 secondaries
  remove_parts st =
      like_trans (like_eq (ap (λ (l : List Row). through remove_one l st) (gone_with_lem st.addresses a)))
      (like_trans (through_append remove_one (keep (goes_with a) st.addresses) (a ∷ []) st)
      (also_like (through remove_one (a ∷ [])) (remove_one a) (like_refl (through remove_one (keep (goes_with a) st.addresses) st)) (through-one remove_one a (through remove_one (keep (goes_with a) st.addresses) st).state)))

  others : (b : Row) → goes_with a b ≡ true → eq_row a b ≡ false
  others b h = fails (eq_row a b) (λ e. true-false (goes_with a b) h (rw (← eq_row-true a b e) (goes-not_self a)))

  -- the primary is still there when its secondaries are gone
  there-after : (l : List Row) (st : State) → all (goes_with a) l ≡ true → any (eq_row a) st.addresses ≡ true → any (eq_row a) (through remove_one l st).state.addresses ≡ true
  unfolding through also
  there-after [] st h t = t
  there-after (b ∷ l) st h t =
      there-after l (remove_one b st).state (all_tail (goes_with a) b l h)
      (rw (remove_one_removes b st).rest (still-there a b st.addresses (others b (all_head (goes_with a) b l h)) t))

  pub primary_there : (st : State) → any (eq_row a) st.addresses ≡ true → any (eq_row a) (secondaries st).state.addresses ≡ true
  unfolding secondaries
  primary_there st t = there-after (keep (goes_with a) st.addresses) st (all-kept (goes_with a) st.addresses) t

  -- ---- the pass: of n addresses j are looked at
  module _ (n : ℕ) where
    -- the place that is next
    abbrev pub place_at : ℕ → State → ℕ
    place_at j st = j + length st.addresses - n

    pub pass : ℕ → State → Out
    pass j st = through remove_one (keep (goes_with a) (drop (place_at j st) st.addresses)) st

    -- none of those looked at and left is to go
    pub record Passed (j : ℕ) (st : State) : Type 0 where
      pub clean : any (goes_with a) (take (place_at j st) st.addresses) ≡ false
      pub most : length st.addresses ≤ n
      pub least : n ≤ j + length st.addresses

  abbrev pub gone_turn : ℕ → State → Out
  gone_turn i st = cond (goes_with a (get_or st.addresses i [])) (remove_one (get_or st.addresses i []) st) (stays st)

  pub pass-start : (st : State) → Like (pass (length st.addresses) 0 st) (secondaries st) × Passed (length st.addresses) 0 st
  unfolding pass secondaries
  pass-start st =
      let start : 0 + length st.addresses - length st.addresses ≡ 0 = omega arith in (
        rw start (like_refl (through remove_one (keep (goes_with a) st.addresses) st)),
        record { clean = rw start refl; most = omega arith; least = omega arith },
      )

  module _ (n j i : ℕ) (st : State) (h : Passed n j st) (at : i + n ≡ j + length st.addresses) where
    here : place_at n j st ≡ i
    here = omega arith

    one-goes : i < length st.addresses → goes_with a (get_or st.addresses i []) ≡ true
        → Like (pass n j st) (also (remove_one (get_or st.addresses i []) st) (pass n (j + 1))) × Passed n (j + 1) (remove_one (get_or st.addresses i []) st).state
    unfolding pass through
    one-goes b e =
        let r : Row = get_or st.addresses i [] in
        let o : Out = remove_one r st in
        let clean : any (goes_with a) (take i st.addresses) ≡ false = rw here at h.clean in
        let none : any (eq_row r) (take i st.addresses) ≡ false =
        any_none (goes_with a) (eq_row r) (take i st.addresses) (λ x f. rw (← eq_row-true r x f) e) clean
        in
        let left : o.state.addresses ≡ remove_at i st.addresses =
        (remove_one_removes r st).rest ∙ remove_front (eq_row r) i st.addresses [] none b (eq_row-refl r)
        in
        let fewer : length o.state.addresses ≡ length st.addresses - 1 = ap length left ∙ length-remove_at i st.addresses b in
        let next : place_at n (j + 1) o.state ≡ i = omega arith in
        let behind : drop (place_at n (j + 1) o.state) o.state.addresses ≡ drop (suc i) st.addresses =
        rw next (ap (drop i) left ∙ drop-removed i st.addresses b)
        in (
          rw (here, keep-here (goes_with a) i st.addresses [] b e)
              (also_like (through remove_one (keep (goes_with a) (drop (suc i) st.addresses))) (pass n (j + 1)) (like_refl o)
              (like_eq (ap (λ (l : List Row). through remove_one (keep (goes_with a) l) o.state) (sym behind)))),
          record {
            clean = rw next (rw (left, take-removed i st.addresses b) clean);
            most = omega (arith, h.most);
            least = omega (arith, h.least);
          },
        )

    one-stays : i < length st.addresses → goes_with a (get_or st.addresses i []) ≡ false
        → Like (pass n j st) (also (stays st) (pass n (j + 1))) × Passed n (j + 1) st
    unfolding pass
    one-stays b e =
        let next : place_at n (j + 1) st ≡ i + 1 = omega arith in
        let clean : any (goes_with a) (take i st.addresses) ≡ false = rw here at h.clean in
        let same : pass n j st ≡ pass n (j + 1) st =
        rw (here, next) (ap (λ (l : List Row). through remove_one l st) (keep-past (goes_with a) i st.addresses [] b e))
        in (
          like_trans (like_eq same) (like_sym (stays-also st (pass n (j + 1)))),
          record { clean = rw next (front-more (goes_with a) i st.addresses [] clean b e); most = h.most; least = omega (arith, h.least) },
        )

    pub gone-iteration : j < n → Like (pass n j st) (also (gone_turn i st) (pass n (j + 1))) × Passed n (j + 1) (gone_turn i st).state
    gone-iteration b =
        let in_use : i < length st.addresses = omega arith in
        test-case (goes_with a (get_or st.addresses i [])) (λ e. rw e (one-goes in_use e)) (λ e. rw e (one-stays in_use e))

  pub pass-end : (n j : ℕ) (st : State) → Passed n j st → n ≤ j → Like (pass n j st) (stays st)
  unfolding pass through
  pass-end n j st h b =
      let none : drop (place_at n j st) st.addresses ≡ [] = drop_of_length-le st.addresses {i = place_at n j st} (omega (arith, h.most)) in
      rw none (like_refl (stays st))
