-- `interface4::reading::interface4_check` meets its contract.
-- Assumes nothing.
use Prim.Native.Nat.{ℕ, ◌*◌}
use mathlib.Core.Path.{refl, sym, ap, ◌∙◌}
use mathlib.Core.List.{List}
use lib.ListN.{length}
use borrow.Author.Tests.{eq-eqb, ne_eqb}
use Rattle.lists.specs.Bools.{cond-true, cond-false}
use Rattle.endian.specs.Endian.{words_of}
use Rattle.endian.specs.Laws.{words-whole}
use Rattle.definition.specs.Words.{state_size}
use Rattle.definition.specs.Call.{refusal}
use Rattle.definition_bytes.specs.Bytes.{state_fits}
use Rattle.call_reply.specs.Answer.{reply_of}
use Rattle.interface4.specs.Answer.{check_reply}
use Rattle.interface4.proofs.reading.interface4_check.Goals as goal

pub returns-then-state-ne-STATE_BYTES : goal.returns-then-state-ne-STATE_BYTES
returns-then-state-ne-STATE_BYTES c =
    let short = ne_eqb (length c.args.state.now) (4 * state_size) c.if-state-ne-STATE_BYTES.true in
    c.from.ensures ∙ ap reply_of (sym (cond-false (state_fits c.args.state.now) (check_reply (words_of c.args.state.now)) (refusal 200) short))

pub returns : goal.returns
returns c =
    let words = words-whole state_size c.args.state.now _ _ c.if-state-ne-STATE_BYTES.false refl c.words_of.ensures in
    c.interface4w_check.ensures ∙ ap (λ (w : List ℕ). reply_of (check_reply w)) words
    ∙ ap reply_of (sym (cond-true (state_fits c.args.state.now) (check_reply (words_of c.args.state.now)) (refusal 200) (eq-eqb (length c.args.state.now) (4 * state_size) c.if-state-ne-STATE_BYTES.false)))
