-- Of a part on bytes: a refusal leaves the cursor's bytes.
-- Assumes nothing.
use Rattle.std.specs.Prelude.{ℕ, ◌*◌, ◌≡◌, ◌≢◌, refl, Bool, true, false, ◌&&◌, List, min, eqb, leb, length}
use Rattle.std.proofs.Common.{ap, ◌∙◌, eqb-true}
use Rattle.lists.specs.Bools.{and_left, and_right}
use Rattle.endian.specs.Endian.{words_of, bytes_of}
use Rattle.endian.specs.Laws.{Below, bytes-words}
use Rattle.definition.specs.Step.{listing_room}
use Rattle.definition_parts.specs.Parts.{PartResult, begun, dump4_begin_call, dump4_next_call}
use Rattle.definition_parts.specs.Laws.{part-leaves}
use Rattle.definition_bytes.specs.Bytes.{state_fits}
use Rattle.definition_bytes.specs.Parts.{part_suffices, part_on_bytes, dump4_begin_on_bytes, dump4_next_on_bytes}

module _ (room : ℕ) (cursor : List ℕ) (rows : ℕ) (state : List ℕ) (below : Below 256 cursor) where
  three-words : part_suffices room cursor rows state ≡ true → length cursor ≡ 12
  three-words h =
      let twelve = eqb (length cursor) 12 in
      let roomy = leb (4 * (32 * min rows 256)) room in
      eqb-true (length cursor) 12 (and_left twelve roomy (and_right (state_fits state) (twelve && roomy) h))

  left : (fit : Bool) (inner : PartResult) → (fit ≡ true → length cursor ≡ 12) → (inner.reply.number ≢ 0 → inner.cursor ≡ words_of cursor)
      → (part_on_bytes fit inner cursor).reply.number ≢ 0 → (part_on_bytes fit inner cursor).cursor ≡ cursor
  left true inner long same h = ap bytes_of (same h) ∙ bytes-words 3 cursor (long refl) below
  left false inner long same h = refl

  pub begin-left : (dump4_begin_on_bytes room cursor rows state).reply.number ≢ 0 → (dump4_begin_on_bytes room cursor rows state).cursor ≡ cursor
  unfolding dump4_begin_on_bytes dump4_begin_call
  begin-left =
      left (part_suffices room cursor rows state) (dump4_begin_call listing_room (words_of cursor) rows (words_of state)) three-words
      (λ h. (part-leaves (begun (words_of state)) listing_room (words_of cursor) rows (words_of state) h).0)

  pub next-left : (dump4_next_on_bytes room cursor rows state).reply.number ≢ 0 → (dump4_next_on_bytes room cursor rows state).cursor ≡ cursor
  unfolding dump4_next_on_bytes dump4_next_call
  next-left =
      left (part_suffices room cursor rows state) (dump4_next_call listing_room (words_of cursor) rows (words_of state)) three-words
      (λ h. (part-leaves (words_of cursor) listing_room (words_of cursor) rows (words_of state) h).0)
