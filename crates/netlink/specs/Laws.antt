-- Laws of attributes: one after the other, written and read back, the last of a code.
-- Assumes nothing.
use Rattle.std.specs.Prelude.{ℕ, zero, suc, ◌-◌, ◌≤◌, ◌≡◌, refl, true, false, List, [], ◌∷◌, leb, length, drop}
use Rattle.std.proofs.Common.{ap, ◌∙◌, arith, leb-true, le-leb}
use Rattle.lists.specs.Bools.{and_left, and_right, and_both}
use Rattle.netlink.specs.Attributes.{Parsed, u16, padded, whole, first, more, parsed_from, parsed}

-- ---- one attribute after the other
parsed-further : (k : ℕ) (l : List ℕ) → parsed_from k l ≡ parsed (drop k l)
unfolding parsed_from
parsed-further zero l = refl
parsed-further (suc k) [] = refl
parsed-further (suc k) (b ∷ l) = parsed-further k l

abbrev pub end : List ℕ → Parsed
end l = record { attributes = []; spare = l }

pub four : (l : List ℕ) → whole l ≡ true → 4 ≤ u16 l 0
unfolding whole
four l w = leb-true 4 (u16 l 0) (and_left (leb 4 (u16 l 0)) (leb (u16 l 0) (length l)) w)

pub within : (l : List ℕ) → whole l ≡ true → u16 l 0 ≤ length l
unfolding whole
within l w = leb-true (u16 l 0) (length l) (and_right (leb 4 (u16 l 0)) (leb (u16 l 0) (length l)) w)

pub is_whole : (l : List ℕ) → 4 ≤ u16 l 0 → u16 l 0 ≤ length l → whole l ≡ true
unfolding whole
is_whole l p q = and_both (leb 4 (u16 l 0)) (leb (u16 l 0) (length l)) (le-leb 4 (u16 l 0) p) (le-leb (u16 l 0) (length l) q)

-- the definition without its count
pub parsed-more : (l : List ℕ) → whole l ≡ true → parsed l ≡ more (first l) (parsed (drop (padded (u16 l 0)) l))
unfolding parsed_from
parsed-more [] w = absurd (omega (arith, four [] w))
parsed-more (b ∷ l) w =
    let s : ℕ = u16 (b ∷ l) 0 in
    let one : suc (padded s - 1) ≡ padded s = omega (arith, four (b ∷ l) w) in
    rw w (ap (more (first (b ∷ l))) (parsed-further (padded s - 1) l ∙ ap (λ (k : ℕ). parsed (drop k (b ∷ l))) one))

pub parsed-end : (l : List ℕ) → whole l ≡ false → parsed l ≡ end l
unfolding parsed_from
parsed-end [] w = refl
parsed-end (b ∷ l) w = rw w
