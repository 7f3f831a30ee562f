-- `interface4::reading::interface4_lookup4_flow` meets its contract.
-- Assumes nothing.
use Rattle.std.specs.Prelude.{◌*◌, ◌≡◌, true, length}
use Rattle.std.proofs.Common.{refl, ap}
use Rattle.layout.specs.Route as Route
use Rattle.endian.specs.Laws.{words-whole}
use Rattle.definition.specs.Words.{state_size}
use Rattle.definition_bytes.specs.Bytes.{with}
use Rattle.call_reply.specs.Answer.{numbers_in}
use Rattle.interface4.specs.Reading.{fits, found-no, found-yes}
use Rattle.interface4.proofs.reading.interface4_lookup4_flow.Goals as goal

pub returns-then-not-state-row : goal.returns-then-not-state-row
returns-then-not-state-row c = found-no c.args.ip c.args.tos c.args.oif c.args.state.now c.args.row.now c.if-not-state-row.true (ap numbers_in c.from.ensures)

pub returns : goal.returns
returns c =
    let fit : with c.args.state.now (4 * Route.size) (length c.args.row.now) ≡ true = c.if-not-state-row.false in
    let there = fits (4 * Route.size) c.args.state.now c.args.row.now fit in
    let words = words-whole state_size c.args.state.now _ _ there.state refl c.words_of.ensures in
    found-yes c.args.ip c.args.tos c.args.oif c.args.state.now c.args.row.now words refl c.lookup4_flow-answer.ensures fit
    (λ i. (c.shared_slice_known-1.given i).fits) (rw c.from-2.ensures at c.give_rows.ensures.out_after) c.give_rows.ensures.below
