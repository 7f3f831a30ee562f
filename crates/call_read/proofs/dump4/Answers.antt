-- `call_read::dump4` meets its contract.
use Rattle.std.proofs.Common.{refl, length, leb-true}
use Rattle.definition.specs.Call as Call
use Rattle.std.specs.Prelude.{◌≡◌}
use Rattle.definition.specs.Words.{base, state_of}
use Rattle.definition.specs.Preservation.Fit.{fit-state}
use Rattle.definition.specs.Step.{listing_room, semantics, dump4_call}
use Rattle.definition.specs.Reference.Source.{dump4}
use Rattle.call_read.specs.Laws.{passed, writes_refused, writes_passed, listed_answer}
use Rattle.call_read.proofs.dump4.Goals as goal

pub returns-in_err-s : goal.returns-in_err-s
unfolding dump4_call
returns-in_err-s c =
    writes_refused (semantics (Call.dump4 (length c.args.listing.now))) c.args.state.now c.args.listing.now (c.reading.ensures.refuses 0 refl) c.in_err-s.was c.from_residual.ensures.1

pub list-requires-clause-distinct : goal.list-requires-clause-distinct
list-requires-clause-distinct c =
    let p = passed (semantics (Call.dump4 (length c.args.listing.now))).checks c.args.state.now (c.reading.ensures.refuses 0 refl) c.in_ok-s.was in
    rw c.in_ok-s.ensures.passes.0 (fit-state (state_of c.args.state.now) p.good.fits).of_tables

pub list-requires-clause-room : goal.list-requires-clause-room
list-requires-clause-room c =
    let p = passed (semantics (Call.dump4 (length c.args.listing.now))).checks c.args.state.now (c.reading.ensures.refuses 0 refl) c.in_ok-s.was in
    leb-true listing_room (length c.args.listing.now) p.room

pub returns : goal.returns
unfolding dump4_call
returns c =
    let call = semantics (Call.dump4 (length c.args.listing.now)) in
    let p = passed call.checks c.args.state.now (c.reading.ensures.refuses 0 refl) c.in_ok-s.was in
    let s : c.in_ok-s.s.words.now ≡ base c.args.state.now = c.in_ok-s.ensures.passes.0 in
    writes_passed call c.args.state.now p (listed_answer (dump4 (state_of c.args.state.now)) (rw s at c.list.ensures.value) (rw s at c.list.ensures.listing_after))
