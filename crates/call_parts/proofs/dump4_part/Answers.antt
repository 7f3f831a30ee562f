-- `call_parts::dump4_part` meets its contract.
use Rattle.std.proofs.Common.{refl, length}
use Rattle.definition.specs.Words.{state_of}
use Rattle.definition.specs.Preservation.Fit.{fit-state}
use Rattle.definition.proofs.Preservation.Step.{good-held}
use Rattle.definition.proofs.Preservation.Reading.{dump4-listing}
use Rattle.definition_parts.specs.Laws.{passed}
use Rattle.call_read.specs.Laws.{passes_none}
use Rattle.call_parts.specs.Laws.{part-no, cursor-no, part-yes, cursor-yes}
use Rattle.call_parts.proofs.dump4_part.Goals as goal

pub returns-in_err-s-clause-value : goal.returns-in_err-s-clause-value
returns-in_err-s-clause-value c =
    part-no c.args.place (length c.args.listing.now) c.args.cursor.now c.args.rows c.args.state.now
    (rw c.room_for.ensures at (c.reading.ensures.refuses _ c.fit_rows.ensures)) c.in_err-s.was c.from_residual.ensures.1 c.args.listing.now

pub returns-in_err-s-clause-cursor_after : goal.returns-in_err-s-clause-cursor_after
returns-in_err-s-clause-cursor_after c =
    cursor-no c.args.place (length c.args.listing.now) c.args.cursor.now c.args.rows c.args.state.now
    (rw c.room_for.ensures at (c.reading.ensures.refuses _ c.fit_rows.ensures)) c.in_err-s.was

pub take-taken-requires-clause-distinct : goal.take-taken-requires-clause-distinct
take-taken-requires-clause-distinct c =
    let z = passes_none (rw c.room_for.ensures at (c.reading.ensures.refuses _ c.fit_rows.ensures)) c.in_ok-s.was in
    let p = passed (length c.args.listing.now) c.args.cursor.now c.args.rows c.args.state.now z in
    rw c.in_ok-s.ensures.passes.0 (fit-state (state_of c.args.state.now) (good-held c.args.state.now p.held).fits).of_tables

pub take-taken-requires-clause-few : goal.take-taken-requires-clause-few
take-taken-requires-clause-few c =
    let z = passes_none (rw c.room_for.ensures at (c.reading.ensures.refuses _ c.fit_rows.ensures)) c.in_ok-s.was in
    let p = passed (length c.args.listing.now) c.args.cursor.now c.args.rows c.args.state.now z in
    rw c.in_ok-s.ensures.passes.0 (dump4-listing (state_of c.args.state.now) (good-held c.args.state.now p.held))

pub read-count-requires : goal.read-count-requires
read-count-requires c =
    let z = passes_none (rw c.room_for.ensures at (c.reading.ensures.refuses _ c.fit_rows.ensures)) c.in_ok-s.was in
    (passed (length c.args.listing.now) c.args.cursor.now c.args.rows c.args.state.now z).held.long

pub returns-clause-value : goal.returns-clause-value
returns-clause-value c =
    let z = passes_none (rw c.room_for.ensures at (c.reading.ensures.refuses _ c.fit_rows.ensures)) c.in_ok-s.was in
    let is = c.in_ok-s.ensures.passes.0 in
    part-yes c.args.place (length c.args.listing.now) c.args.cursor.now c.args.rows c.args.state.now z _
    (rw (is, c.cursor_from.ensures) at c.take-taken.ensures.rows)
    (rw (is, c.cursor_from.ensures) at c.take-taken.ensures.complete)
    (rw (c.read-count.ensures, c.of_words.ensures, c.cursor_from.ensures) refl)
    (rw (is, c.cursor_from.ensures) at c.take-taken.ensures.listing_after)

pub returns-clause-cursor_after : goal.returns-clause-cursor_after
returns-clause-cursor_after c =
    let z = passes_none (rw c.room_for.ensures at (c.reading.ensures.refuses _ c.fit_rows.ensures)) c.in_ok-s.was in
    let p = passed (length c.args.listing.now) c.args.cursor.now c.args.rows c.args.state.now z in
    let is = c.in_ok-s.ensures.passes.0 in
    cursor-yes c.args.place (length c.args.listing.now) c.args.cursor.now c.args.rows c.args.state.now z c.take-taken.result.rows p.three
    (rw (is, c.cursor_from.ensures) at c.take-taken.ensures.rows) (rw c.cursor_from.ensures at c.store.ensures)
