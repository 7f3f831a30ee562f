-- `interface4::reading::interface4_left` meets its contract.
-- Assumes nothing.
use Prim.Native.Nat.{ℕ, ◌*◌}
use mathlib.Core.Path.{refl, ap, ◌∙◌}
use mathlib.Core.List.{List}
use Rattle.layout.specs.Address as Address
use Rattle.endian.specs.Laws.{words-whole}
use Rattle.definition.specs.Step.{left_call}
use Rattle.call_reply.specs.Answer.{reply_of}
use Rattle.interface4.specs.Reading.{row-no, row-yes}
use Rattle.interface4.proofs.reading.interface4_left.Goals as goal

pub returns-then-row-ne-ADDRESS_BYTES : goal.returns-then-row-ne-ADDRESS_BYTES
returns-then-row-ne-ADDRESS_BYTES c =
    let none = row-no (4 * Address.size) c.args.row.now c.if-row-ne-ADDRESS_BYTES.true in
    c.interface4w_left.ensures ∙ ap (λ (x : List ℕ). reply_of (left_call x c.args.clock)) none

pub returns : goal.returns
returns c =
    let row = words-whole Address.size c.args.row.now _ _ c.if-row-ne-ADDRESS_BYTES.false refl c.words_of.ensures ∙ row-yes (4 * Address.size) c.args.row.now c.if-row-ne-ADDRESS_BYTES.false in
    c.interface4w_left-2.ensures ∙ ap (λ (x : List ℕ). reply_of (left_call x c.args.clock)) row
