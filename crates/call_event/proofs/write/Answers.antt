-- Refused for want of room, refused for the event, or written.
use Rattle.std.specs.Prelude.{◌≡◌, refl, true, false}
use Rattle.std.specs.Result.{IsErr, IsErrAnd}
use Rattle.std.proofs.Common.{ap, ◌∙◌, arith, rules, leb, leb-true, length}
use Rattle.lists.specs.Lists.{put}
use Rattle.std.proofs.lemmas.Bool.{leb-false}
use Rattle.refusal.specs.declared.Refusal.TheVariants.{Malformed}
use Rattle.refusal.specs.Refusal.{number_of}
use Rattle.refusal.specs.Laws.{failed, passed}
use Rattle.netlink_event.specs.Writer.{writes, event_message}
use Rattle.netlink_event.proofs.Refusals.{short-room, unwritten, is-sent}
use Rattle.call_event.proofs.Laws.{is-refused, is-written}
use Rattle.call_event.proofs.write.Goals as goal

pub returns-in_err-unless : goal.returns-in_err-unless
returns-in_err-unless c =
    let a = c.args in
    let room = length a.message.now in
    let why = failed (leb 216 room) _ c.in_err-unless.field-0.0 c.in_err-unless.ensures in
    let is = is-refused _ a.message.now c.from_residual.result c.in_err-unless.field-0.0 200 c.from_residual.ensures (ap number_of why.1) (λ z. omega (arith, z))
    (short-room room a.sequence a.port a.clock a.event.now (omega (arith, leb-false 216 room why.0))) in
    record { refuses = is.refuses; says = is.says; bytes_after = is.bytes }

pub returns-in_err-event : goal.returns-in_err-event
returns-in_err-event c =
    let a = c.args in
    let room = length a.message.now in
    let enough = leb-true 216 room (passed (leb 216 room) _ c.in_ok-unless.ensures) in
    let no : writes a.event.now ≡ false = search rules in
    let r = c.from_residual-in_err-event.result in
    let why : IsErr r × IsErrAnd r (λ x. x ≡ Malformed) = search rules in
    let is = is-refused _ a.message.now r Malformed 201 why refl (λ z. omega (arith, z)) (unwritten room a.sequence a.port a.clock a.event.now enough no) in
    record { refuses = is.refuses; says = is.says; bytes_after = is.bytes }

pub write-requires-clause-fit : goal.write-requires-clause-fit
write-requires-clause-fit c = search rules

pub write-requires-clause-room : goal.write-requires-clause-room
write-requires-clause-room c =
    leb-true 216 (length c.args.message.now) (passed (leb 216 (length c.args.message.now)) _ c.in_ok-unless.ensures)

pub returns : goal.returns
returns c =
    let a = c.args in
    let room = length a.message.now in
    let enough = leb-true 216 room (passed (leb 216 room) _ c.in_ok-unless.ensures) in
    let fit : writes a.event.now ≡ true = search rules in
    let same : c.in_ok-event.event.now ≡ a.event.now = search rules in
    let message = event_message a.sequence a.port a.clock in
    let is = is-written _ (message a.event.now) a.message.now (is-sent room a.sequence a.port a.clock a.event.now enough fit)
    (c.write.ensures.value ∙ ap length (ap message same)) (c.write.ensures.out_after ∙ ap (λ e. put 0 (message e) a.message.now) same) in
    record { refuses = is.refuses; says = is.says; bytes_after = is.bytes }
