-- Of many destinations on bytes: spare bytes behind whole words, and answers without room, are refused before all else.
-- Assumes nothing.
use Rattle.std.specs.Prelude.{ℕ, ◌*◌, ◌%◌, ◌≡◌, Bool, false, ◌&&◌, List, eqb, leb, length}
use Rattle.std.proofs.Common.{ap, ◌∙◌}
use Rattle.std.proofs.Math.Bool.{and-false}
use Rattle.endian.specs.Endian.{words_of}
use Rattle.definition.specs.Call.{refusal}
use Rattle.definition_bytes.specs.Bytes.{state_fits}
use Rattle.definition_bytes.specs.Many.{many_suffices, lookup4_many_on_bytes}

module _ (room : ℕ) (destinations state : List ℕ) where
  unfit : many_suffices room destinations state ≡ false → lookup4_many_on_bytes room destinations state ≡ refusal 200
  unfolding lookup4_many_on_bytes
  unfit e = rw e

  whole : Bool
  whole = eqb (length destinations % 4) 0

  roomy : Bool
  roomy = leb (4 * (33 * length (words_of destinations))) room

  pub spare-bytes : eqb (length destinations % 4) 0 ≡ false → lookup4_many_on_bytes room destinations state ≡ refusal 200
  unfolding roomy
  spare-bytes e = unfit (ap (λ (b : Bool). state_fits state && (b && roomy)) e ∙ and-false (state_fits state))

  pub no-room : leb (4 * (33 * length (words_of destinations))) room ≡ false → lookup4_many_on_bytes room destinations state ≡ refusal 200
  unfolding whole
  no-room e = unfit (ap (λ (b : Bool). state_fits state && (whole && b)) e ∙ ap (λ (b : Bool). state_fits state && b) (and-false whole) ∙ and-false (state_fits state))
