-- `interface4::events::interface4_write` meets its contract: refused by 200, refused by 201, or the call on the event's words.
-- Assumes nothing.
use Rattle.std.specs.Prelude.{◌*◌, ◌≤◌, ◌≡◌, length}
use Rattle.std.proofs.Common.{rules, arith, sym, ap, ◌∙◌}
use Rattle.lists.specs.Lists.{Row, flat, put}
use Rattle.lists.specs.Put.{put-no-rows}
use Rattle.endian.specs.Laws.{words-whole}
use Rattle.layout.specs.Event as Event
use Rattle.definition.specs.Call.{Reply}
use Rattle.netlink_event.specs.Writer.{write_call}
use Rattle.netlink_event.proofs.Refusals.{short-bytes, cut-bytes, whole-bytes}
use Rattle.call_reply.specs.Answer.{reply_of}
use Rattle.interface4.proofs.events.interface4_write.Goals as goal

pub returns-then-message-lt-MESSAGE_BYTES : goal.returns-then-message-lt-MESSAGE_BYTES
returns-then-message-lt-MESSAGE_BYTES c =
    let a = c.args in
    let m = a.message.now in
    let is = sym (short-bytes (length m) a.sequence a.port a.clock a.event.now c.if-message-lt-MESSAGE_BYTES.true) in
    record { value = c.from.ensures ∙ ap reply_of is; message_after = put-no-rows m ∙ ap (λ (r : Reply). put 0 (flat r.rows) m) is }

pub returns-then-event-ne-ROW_BYTES : goal.returns-then-event-ne-ROW_BYTES
returns-then-event-ne-ROW_BYTES c =
    let a = c.args in
    let m = a.message.now in
    let room : 216 ≤ length m = omega (arith, c.if-message-lt-MESSAGE_BYTES.false) in
    let is = sym (cut-bytes (length m) a.sequence a.port a.clock a.event.now room c.if-event-ne-ROW_BYTES.true) in
    record { value = c.from-then-event-ne-ROW_BYTES.ensures ∙ ap reply_of is; message_after = put-no-rows m ∙ ap (λ (r : Reply). put 0 (flat r.rows) m) is }

pub returns : goal.returns
returns c =
    let a = c.args in
    let m = a.message.now in
    let room : 216 ≤ length m = omega (arith, c.if-message-lt-MESSAGE_BYTES.false) in
    let long : length a.event.now ≡ 4 * Event.size = c.if-event-ne-ROW_BYTES.false in
    let words = words-whole Event.size a.event.now _ _ long (search rules) c.words_of.ensures in
    let is = sym (whole-bytes (length m) a.sequence a.port a.clock a.event.now room long) in
    record {
      value = c.interface4w_write.ensures.value ∙ ap (λ (e : Row). reply_of (write_call (length m) a.sequence a.port a.clock e)) words ∙ ap reply_of is;
      message_after =
          c.interface4w_write.ensures.message_after
          ∙ ap (λ (e : Row). put 0 (flat (write_call (length m) a.sequence a.port a.clock e).rows) m) words
          ∙ ap (λ (r : Reply). put 0 (flat r.rows) m) is;
    }
