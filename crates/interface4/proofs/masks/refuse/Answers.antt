-- `interface4::masks::refuse` meets its contract.
-- Assumes nothing.
use Prim.Native.Nat.{ℕ, ◌*◌}
use native.Mathlib.Omega.{arith}
use mathlib.Core.Path.{◌≡◌, refl, sym, ap, ◌∙◌}
use mathlib.Core.Bool.{true}
use mathlib.Core.List.{List}
use Rattle.lists.specs.Bools.{cond-true, cond-false}
use Rattle.endian.specs.Endian.{words_of}
use Rattle.endian.specs.Laws.{words-whole}
use Rattle.definition.specs.Words.{state_size}
use Rattle.definition.specs.Call.{refusal}
use Rattle.definition.specs.Step.{checked, event_room}
use Rattle.definition_bytes.specs.Bytes.{with}
use Rattle.call_reply.specs.Answer.{reply_of}
use Rattle.refusal.specs.Refusal.{number_of}
use Rattle.interface4.specs.Mask.{state-long}
use Rattle.interface4.specs.Made.{check-said}
use Rattle.interface4.proofs.masks.refuse.Goals as goal

abbrev number : ℕ → List ℕ → ℕ
number n w = checked (record { buffers = true; row = true; request = n }) w

pub returns-then-not-state-room : goal.returns-then-not-state-room
returns-then-not-state-room c =
    c.from.ensures
    ∙ ap reply_of (sym (cond-false (with c.args.state.now (4 * event_room) c.args.room) (refusal (number (number_of c.args.bad) (words_of c.args.state.now))) (refusal 200) c.if-not-state-room.true))

pub words_of-requires : goal.words_of-requires
words_of-requires c =
    let fit : with c.args.state.now (4 * event_room) c.args.room ≡ true = c.if-not-state-room.false in
    omega (arith, state-long c.args.state.now c.args.room fit)

pub returns : goal.returns
returns c =
    let fit : with c.args.state.now (4 * event_room) c.args.room ≡ true = c.if-not-state-room.false in
    let words = words-whole state_size c.args.state.now _ _ (state-long c.args.state.now c.args.room fit) refl c.words_of.ensures in
    let said = c.checked.ensures.refuses (number_of c.args.bad) (refl, c.requires) in
    c.of.ensures ∙ check-said c.checked.result said ∙ ap (λ (w : List ℕ). reply_of (refusal (number (number_of c.args.bad) w))) words
    ∙ ap reply_of (sym (cond-true (with c.args.state.now (4 * event_room) c.args.room) (refusal (number (number_of c.args.bad) (words_of c.args.state.now))) (refusal 200) fit))
