-- Words that are rows laid out one after the other, each of k words and fit.
use Rattle.std.specs.Prelude.{ℕ, ◌+◌, ◌-◌, ◌*◌, ◌<◌, eqb, ◌≡◌, Bool, true, List, [], length, get_or, take, drop}
use Rattle.std.proofs.Common.{eqb-true, arith, sym, ap, ◌∙◌, get_or-take, get_or-drop}
use Rattle.lists.specs.Lists.{Row, all, flat}
use Rattle.lists.specs.Rows.{sized, length-flat}
use Rattle.lists.specs.Parts.{part-row}
use Rattle.lists.specs.At.{all-at}

-- the words are those of the rows l
pub record Laid (k : ℕ) (fit : Row → Bool) (w : List ℕ) (l : List Row) : Type 0 where
  pub words : w ≡ flat l
  pub width : sized k l ≡ true
  pub fitting : all fit l ≡ true

-- the words are those of some rows
pub record Lays (k : ℕ) (fit : Row → Bool) (w : List ℕ) : Type 0 where
  pub list : List Row
  pub laid : Laid k fit w list

module _ {k : ℕ} {fit : Row → Bool} {w : List ℕ} {l : List Row} (h : Laid k fit w l) where
  pub laid-length : length w ≡ k * length l
  laid-length = ap length h.words ∙ length-flat k l h.width

  pub laid-row : (i : ℕ) → i < length l → take k (drop (k * i) w) ≡ get_or l i []
  laid-row i b = rw h.words (part-row k l i h.width b)

  pub laid-fit : (i : ℕ) → i < length l → fit (get_or l i []) ≡ true
  laid-fit i b = all-at fit i l [] b h.fitting

  -- the part that code lends
  pub laid-part : (i : ℕ) → i < length l → take (k * i + k - k * i) (drop (k * i) w) ≡ get_or l i []
  laid-part i b =
      let whole : k * i + k - k * i ≡ k = omega arith in
      rw whole (laid-row i b)

  pub laid-width : (i : ℕ) → i < length l → length (get_or l i []) ≡ k
  laid-width i b = eqb-true (length (get_or l i [])) k (all-at (λ r. eqb (length r) k) i l [] b h.width)

  -- word j of row i
  pub laid_word : (i j : ℕ) → i < length l → j < k → get_or w (k * i + j) 0 ≡ get_or (get_or l i []) j 0
  laid_word i j b c =
      sym (ap (λ (r : Row). get_or r j 0) (sym (laid-row i b)) ∙ get_or-take k (drop (k * i) w) j 0 c ∙ get_or-drop (k * i) w j 0)
