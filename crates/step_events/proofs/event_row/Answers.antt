use Rattle.std.proofs.Common.{refl, ap, ◌∙◌, ◌≡◌, ◌∷◌, ◌++◌, ◌+◌, ◌-◌, ℕ, suc, zero, List, drop, arith}
use Rattle.lists.specs.Lists.{put, zeros}
use Rattle.step_events.proofs.event_row.Goals as goal

drop-zeros : (n m : ℕ) → drop n (zeros m) ≡ zeros (m - n)
unfolding zeros
drop-zeros zero m = let e : m - 0 ≡ m = omega arith in rw e refl
drop-zeros (suc n) zero = let e : 0 - suc n ≡ 0 = omega arith in rw e refl
drop-zeros (suc n) (suc m) = let e : suc m - suc n ≡ m - n = omega arith in rw e (drop-zeros n m)

behind-two : (a b n m : ℕ) → drop (2 + n) (a ∷ b ∷ zeros m) ≡ zeros (m - n)
behind-two a b n m = let e : 2 + n ≡ suc (suc n) = omega arith in rw e (drop-zeros n m)

pub returns : goal.returns
unfolding put zeros
returns g c =
    c.store.ensures
    ∙ rw c.told-r
    (ap (λ (l : List ℕ). c.args.kind ∷ c.args.flags ∷ (c.args.r.now ++ l)) (behind-two c.args.kind c.args.flags g.row.N 32))
