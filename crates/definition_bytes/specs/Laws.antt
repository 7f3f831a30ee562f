-- There are runs of the code as the claims say: of any calls, from any words. And the rows of a buffer of bytes are its parts, each
-- read as words.
-- Assumes nothing.
use Rattle.std.specs.Prelude.{ℕ, zero, suc, ◌*◌, ◌≡◌, refl, List, [], ◌∷◌, map, drop}
use Rattle.std.proofs.Common.{ap, ap₂, ◌∙◌}
use Rattle.lists.specs.Lists.{Row, flat, put, zeros, chop}
use Rattle.lists.specs.Rows.{length-zeros}
use Rattle.endian.specs.Endian.{words_of}
use Rattle.endian.specs.Laws.{words_of-take, words_of-drop}
use Rattle.definition.specs.Call.{Call, numbers}
use Rattle.definition.specs.Step.{Buffer, unlent, for_events, for_listing, for_row, semantics, step}
use Rattle.definition.specs.Noninterference.Statement.{after}
use Rattle.definition.specs.Noninterference.Public.{Lent, room_of, Seen, Ran}

-- ---- a run, lent buffers of zeros
lent-zeros : (k : Buffer) → Lent k (zeros (room_of k))
lent-zeros unlent = tt
lent-zeros (for_events room) = length-zeros room
lent-zeros (for_listing room) = length-zeros room
lent-zeros (for_row room) = length-zeros room

abbrev pub shown : Call → List ℕ → Seen
shown c w =
    record { numbers = numbers (step c w).reply; buffer = put 0 (flat (step c w).reply.rows) (zeros (room_of (semantics c).lent)) }

unfoldable pub shown_all : List Call → List ℕ → List Seen
shown_all [] w = []
shown_all (c ∷ cs) w = shown c w ∷ shown_all cs (step c w).words

pub runs : (cs : List Call) (w : List ℕ) → Ran cs w (shown_all cs w) (after cs w)
unfolding after shown_all
runs [] w = Ran.none w
runs (c ∷ cs) w =
    Ran.next c cs w (zeros (room_of (semantics c).lent)) (shown c w) (step c w).words (shown_all cs (step c w).words) (after cs (step c w).words)
    (record { lent = lent-zeros (semantics c).lent; reply = refl; words = refl; buffer = refl }) (runs cs (step c w).words)

-- ---- rows of bytes
pub rows-bytes : (k n : ℕ) (b : List ℕ) → map words_of (chop (4 * k) n b) ≡ chop k n (words_of b)
unfolding chop
rows-bytes k zero b = refl
rows-bytes k (suc n) b = ap₂ (λ (r : Row) (l : List Row). r ∷ l) (words_of-take k b) (rows-bytes k n (drop (4 * k) b) ∙ ap (chop k n) (words_of-drop k b))
