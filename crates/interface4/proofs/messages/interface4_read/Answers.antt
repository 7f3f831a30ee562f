-- `interface4::messages::interface4_read` meets its contract.
-- Assumes nothing.
use Prim.Native.Nat.{◌*◌, ◌≤◌}
use native.Mathlib.Omega.{arith}
use mathlib.Core.Path.{sym, ap, ◌∙◌}
use lib.ListN.{length}
use Rattle.layout.specs.Request.{del_route4_size}
use Rattle.call_message.specs.Laws.{counted}
use Rattle.call_reply.specs.Answer.{reply_of}
use Rattle.call_reply.specs.declared.Reply.{Reply}
use Rattle.interface4.specs.Message.{unread, unread-rows, on-words, on-words-rows}
use Rattle.interface4.proofs.messages.interface4_read.Goals as goal

pub returns-then-request-lt-REQUEST_BYTES : goal.returns-then-request-lt-REQUEST_BYTES
returns-then-request-lt-REQUEST_BYTES c =
    record { value = c.from.ensures ∙ ap reply_of (sym (unread (length c.args.request.now) c.args.up c.args.message.now c.if-request-lt-REQUEST_BYTES.true)); request_after = unread-rows (length c.args.request.now) c.args.up c.args.message.now c.if-request-lt-REQUEST_BYTES.true c.args.request.now }

pub give_request-requires : goal.give_request-requires
give_request-requires c =
    let few : c.interface4w_read-answer.result.second ≤ del_route4_size = omega (arith, ap (λ (r : Reply). r.second) c.interface4w_read-answer.ensures.value, (counted del_route4_size c.args.up c.args.message.now).few) in
    (omega (arith, few), omega (arith, few, c.if-request-lt-REQUEST_BYTES.false))

pub returns : goal.returns
returns c =
    let room : 4 * del_route4_size ≤ length c.args.request.now = omega (arith, c.if-request-lt-REQUEST_BYTES.false) in
    let on-words-reply = ap reply_of (sym (on-words (length c.args.request.now) c.args.up c.args.message.now room)) in
    record {
      value = c.interface4w_read-answer.ensures.value ∙ on-words-reply;
      request_after = on-words-rows (length c.args.request.now) c.args.up c.args.message.now room _ _ c.args.request.now _ _ (ap (λ (r : Reply). r.second) c.interface4w_read-answer.ensures.value) c.interface4w_read-answer.ensures.request_after
          c.give_request.ensures;
    }
