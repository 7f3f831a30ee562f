-- `interface4::parts::part_on_bytes` meets its contract.
-- Assumes nothing.
use native.Mathlib.Omega.{arith}
use mathlib.Core.Path.{◌≡◌, refl}
use mathlib.Core.Bool.{true}
use lib.ListN.{length}
use Rattle.endian.specs.Laws.{words-whole}
use Rattle.definition.specs.Words.{state_size}
use Rattle.definition_bytes.specs.Parts.{part_suffices}
use Rattle.interface4.specs.Parts.{part-bytes, part-short, value-few, part-whole}
use Rattle.interface4.proofs.parts.part_on_bytes.Goals as goal

pub returns-then-not-state-cursor : goal.returns-then-not-state-cursor
returns-then-not-state-cursor c =
    part-short c.args.place c.args.rows c.args.state.now c.args.listing.now c.args.cursor.now (rw c.room_for-room.ensures at c.if-not-state-cursor.true) c.from.ensures

pub give_rows-requires : goal.give_rows-requires
give_rows-requires c =
    let fit : part_suffices (length c.args.listing.now) c.args.cursor.now c.args.rows c.args.state.now ≡ true = rw c.room_for-room.ensures at c.if-not-state-cursor.false in
    let there = part-bytes c.args.rows c.args.state.now c.args.listing.now c.args.cursor.now fit in
    let s = words-whole state_size c.args.state.now _ _ there.state refl c.words_of.ensures in
    let k = words-whole 3 c.args.cursor.now _ _ there.cursor refl c.words_of-2.ensures in
    let few = value-few c.args.place c.args.rows c.args.state.now c.args.cursor.now s k refl c.part-answer.ensures in
    (omega (arith, few), omega (arith, few, there.room))

pub returns : goal.returns
returns c =
    let fit : part_suffices (length c.args.listing.now) c.args.cursor.now c.args.rows c.args.state.now ≡ true = rw c.room_for-room.ensures at c.if-not-state-cursor.false in
    let there = part-bytes c.args.rows c.args.state.now c.args.listing.now c.args.cursor.now fit in
    let s = words-whole state_size c.args.state.now _ _ there.state refl c.words_of.ensures in
    let k = words-whole 3 c.args.cursor.now _ _ there.cursor refl c.words_of-2.ensures in
    part-whole c.args.place c.args.rows c.args.state.now c.args.cursor.now s k refl c.part-answer.ensures c.args.listing.now fit c.give_rows.ensures.out_after c.give_rows-2.ensures.out_after
