-- `interface4::many::interface4_lookup4_many` meets its contract.
-- Assumes nothing.
use Rattle.std.specs.Prelude.{◌≡◌, true, false, length}
use Rattle.std.proofs.Common.{refl, ◌∙◌, sym}
use Rattle.endian.specs.Laws.{words-whole}
use Rattle.definition.specs.Words.{state_size}
use Rattle.definition_bytes.specs.Many.{many_suffices}
use Rattle.interface4.specs.Many.{suffices-as, many-state, many-short, first-words, many-whole}
use Rattle.interface4.proofs.many.interface4_lookup4_many.Goals as goal

pub returns-then-not-state-destinations : goal.returns-then-not-state-destinations
returns-then-not-state-destinations c =
    let s = c.args.state.now in
    let d = c.args.destinations.now in
    let b = c.args.answers.now in
    let short : many_suffices (length b) d s ≡ false = sym (suffices-as s d b) ∙ (rw c.has_room.ensures at c.if-not-state-destinations.true) in
    let m = many-short s d b short c.from.ensures in
    record { value = m.value; answers_after = m.answers_after }

pub returns : goal.returns
returns c =
    let s = c.args.state.now in
    let d = c.args.destinations.now in
    let b = c.args.answers.now in
    let fit : many_suffices (length b) d s ≡ true = sym (suffices-as s d b) ∙ (rw c.has_room.ensures at c.if-not-state-destinations.false) in
    let there = many-state s d b fit in
    let n = c.min-n.result in
    let words = words-whole state_size s _ _ there refl c.words_of.ensures in
    let first = first-words s d b n c.min-n.ensures _ _ c.words_of-2.ensures in
    let m = many-whole s d b n c.min-n.ensures _ words first refl c.interface4w_lookup4_many-answer.ensures.value _ c.interface4w_lookup4_many-answer.ensures.answers_after fit
    c.answered.ensures c.give_rows.ensures.out_after in
    record { value = m.value; answers_after = m.answers_after }
