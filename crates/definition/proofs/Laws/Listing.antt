-- The order in which `dump4` lists tables, on an example: by the low byte of their number, the newest first within one.
-- Assumes nothing.
use Rattle.std.specs.Prelude.{◌≡◌, refl, [], ◌∷◌}
use Rattle.definition.specs.Reference.Source.{table_order, below}

pub table-order : table_order (254 ∷ 255 ∷ 100 ∷ 356 ∷ 256 ∷ []) ≡ 256 ∷ 356 ∷ 100 ∷ 254 ∷ 255 ∷ []
unfolding table_order below
table-order = refl
