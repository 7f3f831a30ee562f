-- `interface4::changing::change` meets its contract.
-- Assumes nothing.
use Rattle.std.proofs.Common.{rules, arith, refl, sym, ap, ◌∙◌, ◌≡◌, true}
use Rattle.call_reply.specs.Answer.{numbers_in}
use Rattle.interface4.specs.Changing.{change_fits, EnoughBytes, fits, changed-no, emitted-room, still, changed-yes, did-gave}
use Rattle.interface4.proofs.changing.change.Goals as goal

pub returns-then-not-request-WORDS : goal.returns-then-not-request-WORDS
returns-then-not-request-WORDS g c =
    changed-no g.T.Changing.change g.T.Changing.WORDS g.met.T.Changing.described c.args.request.now c.args.state.now c.args.events.now c.args.clock c.args.allowance c.requires.none
    (rw c.WORDS.ensures at c.if-not-request-WORDS.true) (ap numbers_in c.from.ensures)

pub words_of-requires : goal.words_of-requires
words_of-requires g c =
    let fit : change_fits g.T.Changing.WORDS c.args.request.now c.args.state.now c.args.events.now ≡ true = rw c.WORDS.ensures at c.if-not-request-WORDS.false in
    let there : EnoughBytes g.T.Changing.WORDS c.args.request.now c.args.state.now c.args.events.now = fits _ _ _ _ fit in
    omega (arith, there.request, g.met.T.Changing.described.few)

pub words_of-requires-2 : goal.words_of-requires-2
words_of-requires-2 g c =
    let fit : change_fits g.T.Changing.WORDS c.args.request.now c.args.state.now c.args.events.now ≡ true = rw c.WORDS.ensures at c.if-not-request-WORDS.false in
    let there : EnoughBytes g.T.Changing.WORDS c.args.request.now c.args.state.now c.args.events.now = fits _ _ _ _ fit in
    omega (arith, there.state)

pub give_back-requires : goal.give_back-requires
give_back-requires g c =
    let fit : change_fits g.T.Changing.WORDS c.args.request.now c.args.state.now c.args.events.now ≡ true = rw c.WORDS.ensures at c.if-not-request-WORDS.false in
    let there : EnoughBytes g.T.Changing.WORDS c.args.request.now c.args.state.now c.args.events.now = fits _ _ _ _ fit in
    let kept = still g.T.Changing.change g.T.Changing.WORDS g.met.T.Changing.described c.args.request.now c.args.state.now c.args.events.now c.args.clock c.args.allowance c.requires.none fit _ _
    c.words_of.ensures c.words_of-2.ensures refl (did-gave (rw c.WORDS-2.ensures at c.make-answer.ensures))
    (λ i. (c.slice_known-1.given i).fits) in
    record { s_len = (search rules, there.state); state_value = λ h. kept (sym c.still.ensures ∙ h) }

pub give_rows-requires : goal.give_rows-requires
give_rows-requires g c =
    let fit : change_fits g.T.Changing.WORDS c.args.request.now c.args.state.now c.args.events.now ≡ true = rw c.WORDS.ensures at c.if-not-request-WORDS.false in
    let there : EnoughBytes g.T.Changing.WORDS c.args.request.now c.args.state.now c.args.events.now = fits _ _ _ _ fit in
    let room = emitted-room g.T.Changing.change g.T.Changing.WORDS g.met.T.Changing.described c.args.request.now c.args.state.now c.args.events.now c.args.clock c.args.allowance c.requires.none fit _ _
    c.words_of.ensures c.words_of-2.ensures refl (did-gave (rw c.WORDS-2.ensures at c.make-answer.ensures)) in
    (room.0, omega (arith, room.1, there.events))

pub returns : goal.returns
returns g c =
    let fit : change_fits g.T.Changing.WORDS c.args.request.now c.args.state.now c.args.events.now ≡ true = rw c.WORDS.ensures at c.if-not-request-WORDS.false in
    changed-yes g.T.Changing.change g.T.Changing.WORDS g.met.T.Changing.described c.args.request.now c.args.state.now c.args.events.now c.args.clock c.args.allowance c.requires.none fit _ _
    c.words_of.ensures c.words_of-2.ensures refl (did-gave (rw c.WORDS-2.ensures at c.make-answer.ensures))
    c.give_back.ensures.state_after c.give_rows.ensures.out_after c.give_back.ensures.below c.give_rows.ensures.below
