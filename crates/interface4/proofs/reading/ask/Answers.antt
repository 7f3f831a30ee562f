-- `interface4::reading::ask` meets its contract.
-- Assumes nothing.
use Rattle.std.specs.Prelude.{◌*◌, length}
use Rattle.std.proofs.Common.{refl, ap, eq-eqb, ne_eqb}
use Rattle.endian.specs.Laws.{words-whole}
use Rattle.definition.specs.Words.{state_size}
use Rattle.call_reply.specs.Answer.{numbers_in}
use Rattle.interface4.specs.Reading.{row-part, asked-no, asked-yes}
use Rattle.interface4.proofs.reading.ask.Goals as goal

pub returns-then-state-ne-STATE_BYTES : goal.returns-then-state-ne-STATE_BYTES
returns-then-state-ne-STATE_BYTES g c =
    let short = ne_eqb (length c.args.state.now) (4 * state_size) c.if-state-ne-STATE_BYTES.true in
    asked-no (g.met.T.Asking.described c.args.call) c.args.row.now c.args.state.now short (ap numbers_in c.from.ensures)

pub returns : goal.returns
returns g c =
    let words = words-whole state_size c.args.state.now _ _ c.if-state-ne-STATE_BYTES.false refl c.words_of.ensures in
    let row = row-part c.args.row.now _ _ c.row_size-k.result c.row_size-k.ensures.value c.words_of-2.ensures in
    asked-yes (g.met.T.Asking.described c.args.call) c.args.row.now c.args.state.now words row c.make.ensures
    (eq-eqb (length c.args.state.now) (4 * state_size) c.if-state-ne-STATE_BYTES.false) (λ i. (c.shared_slice_known-1.given i).fits)
