-- Where an address goes, and the row that a request becomes.
-- Assumes nothing.
use Rattle.std.specs.Prelude.{ℕ, ◌≡◌, true, false, cond, List, [], length, take, drop}
use Rattle.std.proofs.Common.{arith, drop_of_length-le, take_all}
use Rattle.lists.specs.Lists.{Row, any}
use Rattle.lists.specs.At.{insert_at}
use Rattle.layout.specs.Address.{secondary}
use Rattle.definition.specs.Reference.Addresses.{yields, place4, same_subnet, asked, as_secondary}
use Rattle.rows_place.specs.Behind.{behind_of, behind-at}

-- ---- the place
-- a secondary goes to the end
pub place-last : (new : Row) (l : List Row) (n : ℕ) → length l ≡ n → secondary new ≡ true → place4 new l ≡ insert_at n new l
unfolding place4 insert_at
place-last new l n long e =
    let front : take n l ≡ l = take_all n l (omega arith) in
    let back : drop n l ≡ [] = drop_of_length-le l {i = n} (omega arith) in
    rw (e, front, back)

pub place-behind : (new : Row) (l : List Row) (k : ℕ) → secondary new ≡ false → k ≡ behind_of (yields new) l → place4 new l ≡ insert_at k new l
unfolding place4
place-behind new l k e h = rw (e, h) (behind-at (yields new) new l)

-- ---- the row that a request becomes among the addresses that are there
abbrev pub fresh_row : List Row → Row → ℕ → Row
fresh_row l q now = cond (any (λ old. same_subnet old q) l) (as_secondary (asked q now)) (asked q now)
