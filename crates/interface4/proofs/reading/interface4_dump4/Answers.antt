-- `interface4::reading::interface4_dump4` meets its contract.
-- Assumes nothing.
use Prim.Native.Nat.{◌*◌}
use native.Mathlib.Omega.{arith}
use mathlib.Core.Path.{◌≡◌, refl, ap}
use mathlib.Core.Bool.{true}
use lib.ListN.{length}
use Rattle.endian.specs.Laws.{words-whole}
use Rattle.definition.specs.Words.{state_size}
use Rattle.definition_bytes.specs.Bytes.{with}
use Rattle.call_reply.specs.Answer.{numbers_in}
use Rattle.definition.specs.Step.{listing_room}
use Rattle.interface4.specs.Reading.{EnoughRoom, fits, listed-no, listing-room, listed-yes}
use Rattle.interface4.proofs.reading.interface4_dump4.Goals as goal

pub returns-then-not-state-listing : goal.returns-then-not-state-listing
returns-then-not-state-listing c =
    listed-no c.args.state.now c.args.listing.now c.if-not-state-listing.true (ap numbers_in c.from.ensures)

pub words_of-requires : goal.words_of-requires
words_of-requires c =
    let fit : with c.args.state.now (4 * listing_room) (length c.args.listing.now) ≡ true = c.if-not-state-listing.false in
    let there : EnoughRoom (4 * listing_room) c.args.state.now c.args.listing.now = fits _ _ _ fit in
    omega (arith, there.state)

pub give_rows-requires : goal.give_rows-requires
give_rows-requires c =
    let fit : with c.args.state.now (4 * listing_room) (length c.args.listing.now) ≡ true = c.if-not-state-listing.false in
    let there : EnoughRoom (4 * listing_room) c.args.state.now c.args.listing.now = fits _ _ _ fit in
    let words = words-whole state_size c.args.state.now _ _ there.state refl c.words_of.ensures in
    let room = listing-room c.args.state.now c.args.listing.now words refl c.dump4-answer.ensures in
    (omega (arith, room), omega (arith, room, there.room))

pub returns : goal.returns
returns c =
    let fit : with c.args.state.now (4 * listing_room) (length c.args.listing.now) ≡ true = c.if-not-state-listing.false in
    let there : EnoughRoom (4 * listing_room) c.args.state.now c.args.listing.now = fits _ _ _ fit in
    let words = words-whole state_size c.args.state.now _ _ there.state refl c.words_of.ensures in
    listed-yes c.args.state.now c.args.listing.now words refl c.dump4-answer.ensures fit
    (λ i. (c.shared_slice_known-1.given i).fits) c.give_rows.ensures.out_after c.give_rows.ensures.below
