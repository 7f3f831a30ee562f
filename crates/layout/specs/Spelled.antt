-- A row of so many words, word by word: what holds of such a row with its words in sight holds of every row of that length.
-- Assumes nothing.
use Rattle.std.specs.Prelude.{ℕ, zero, suc, ◌≡◌, refl, [], ◌∷◌, length, get_or, drop}
use Rattle.std.proofs.Common.{ap, subst, arith}
use Rattle.lists.specs.Lists.{Row}

abbrev pub spelled : ℕ → Row → Row
spelled zero a = []
spelled (suc n) a = get_or a 0 0 ∷ spelled n (drop 1 a)

pub spelled-row : (n : ℕ) (a : Row) → length a ≡ n → spelled n a ≡ a
spelled-row zero [] h = refl
spelled-row zero (x ∷ a) h = absurd (omega arith)
spelled-row (suc n) [] h = absurd (omega arith)
spelled-row (suc n) (x ∷ a) h = ap (λ (l : Row). x ∷ l) (spelled-row n a (omega arith))

pub by-words : (P : Row → Type 0) (n : ℕ) (a : Row) → length a ≡ n → P (spelled n a) → P a
by-words P n a h p = subst P (spelled-row n a h) p
