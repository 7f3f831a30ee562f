use Rattle.std.proofs.Common.{◌≢◌, arith, sym, ap, ◌∙◌, length, leb}
use Rattle.refusal.specs.Refusal.{number_of}
use Rattle.refusal.specs.Laws.{failed, passed}
use Rattle.netlink.specs.Exactly.{known}
use Rattle.netlink.specs.Reader.{headed, refusal}
use Rattle.netlink.specs.Types.{number_of as type_of}
use Rattle.netlink_refusal.specs.Order.{number_for}
use Rattle.netlink_refusal.specs.ShapeLaws.{headless, unknown, number-is}
use Rattle.call_message.specs.Answer.{request_of}
use Rattle.call_message.specs.Laws.{refused-by, no_room, not-read, no_head, is_head, known-type, request_is, written}
use Rattle.call_message.proofs.read.Goals as goal

pub returns-in_err-unless : goal.returns-in_err-unless
returns-in_err-unless c =
    let room = length c.args.words.now in
    let why = failed (leb 49 room) _ c.in_err-unless.field-0.0 c.in_err-unless.ensures in
    let is = refused-by room c.args.up c.args.message.now c.args.words.now c.from_residual.result c.in_err-unless.field-0.0 200 c.from_residual.ensures
    (ap number_of why.1) (λ z. omega (arith, z)) (no_room room c.args.up c.args.message.now c.args.words.now why.0) in
    record { refuses = is.0; says = is.1.0; words_after = is.1.1 }

pub returns-in_err-end : goal.returns-in_err-end
returns-in_err-end c =
    let room = length c.args.words.now in
    let enough = passed (leb 49 room) _ c.in_ok-unless.ensures in
    let m = c.args.message.now in
    let why = no_head (headed m) (number_of c.in_err-end.field-0.0) c.in_err-end.ensures.refuses.0 c.in_err-end.ensures.refuses.1 in
    let number = headless m why.0 in
    let some : refusal m ≢ 0 = λ z. omega (arith, number, z) in
    let is = refused-by room c.args.up m c.args.words.now c.from_residual-in_err-end.result c.in_err-end.field-0.0 (refusal m)
    c.from_residual-in_err-end.ensures (why.1 ∙ sym number) some (not-read room c.args.up m c.args.words.now enough some) in
    record { refuses = is.0; says = is.1.0; words_after = is.1.1 }

pub returns-in_err-kind : goal.returns-in_err-kind
returns-in_err-kind c =
    let room = length c.args.words.now in
    let enough = passed (leb 49 room) _ c.in_ok-unless.ensures in
    let m = c.args.message.now in
    let other = c.in_err-kind.ensures in
    let number = unknown m (is_head (headed m) c.in_ok-end.ensures.refuses) (ap known (sym c.half.ensures) ∙ other.1) in
    let some : refusal m ≢ 0 = λ z. omega (arith, number, z) in
    let is = refused-by room c.args.up m c.args.words.now c.from_residual-in_err-kind.result c.in_err-kind.field-0.0 (refusal m)
    c.from_residual-in_err-kind.ensures (ap number_of other.0 ∙ sym number) some (not-read room c.args.up m c.args.words.now enough some) in
    record { refuses = is.0; says = is.1.0; words_after = is.1.1 }

pub returns : goal.returns
returns c =
    let room = length c.args.words.now in
    let enough = passed (leb 49 room) _ c.in_ok-unless.ensures in
    let m = c.args.message.now in
    let kind = c.in_ok-kind.kind in
    let end = c.in_ok-end.end in
    let type = c.in_ok-kind.ensures ∙ c.half.ensures in
    let ends = c.in_ok-end.ensures.ends.0 in
    let number = number-is m (is_head (headed m) c.in_ok-end.ensures.refuses) (type_of kind) end type (known-type kind) ends in
    let is = written room c.args.up m c.args.words.now c.request.new.words (type_of kind) (number_for (type_of kind) m end) (request_of c.args.up kind m end) c.request.result enough number type
    (request_is c.args.up m (type_of kind) end type ends) c.request.ensures in
    record { refuses = is.0; says = is.1.0; words_after = is.1.1 }
