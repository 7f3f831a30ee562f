-- Rows read into records.
-- Assumes nothing.
use Rattle.std.specs.Prelude.{ℕ, ◌+◌, ◌<◌, ◌≡◌, List, []}
use Rattle.std.specs.Prelude.{◌∷◌, ◌++◌, map, length, get_or, take, set}
use Rattle.std.proofs.Common.{sym, ap, ◌∙◌, add-one, take-suc, take-suc-set}
use Rattle.std.proofs.lemmas.List.{map-append}
use Rattle.lists.specs.Lists.{Row}
use Rattle.row_address.specs.declared.V4.{V4}
use Rattle.row_address.specs.Words.{row_of}

-- ---- rows read into records, one after the other
pub read_more : (rows : List V4) (i : ℕ) (l : List Row) (v : V4) → i < length rows → i < length l → row_of v ≡ get_or l i [] → map row_of (take i rows) ≡ take i l
    → map row_of (take (i + 1) (set rows i v)) ≡ take (i + 1) l
read_more rows i l v b c e sofar =
    ap (λ (k : ℕ). map row_of (take k (set rows i v))) (add-one i)
    ∙ ap (map row_of) (take-suc-set rows i v b)
    ∙ map-append row_of (take i rows) (v ∷ [])
    ∙ ap (λ (h : List Row). h ++ (row_of v ∷ [])) sofar
    ∙ ap (λ (r : Row). take i l ++ (r ∷ [])) e
    ∙ sym (ap (λ (k : ℕ). take k l) (add-one i) ∙ take-suc l i [] c)
