use Rattle.std.proofs.Common.{sym, ap, ◌∙◌, List, ℕ}
use Rattle.lists.specs.Lists.{put}
use Rattle.netlink.specs.Attributes.{attributes}
use Rattle.netlink.specs.Codes.{rtm_new_addr}
use Rattle.netlink.specs.Reader.{family, sizes, new_addr}
use Rattle.netlink.specs.Types.{number_of}
use Rattle.netlink_refusal.specs.Order.{body_of}
use Rattle.call_message.specs.Answer.{address_number}
use Rattle.call_message.specs.Laws.{of-address, number-of, same_rows, wrote-refused, length_new_addr}
use Rattle.call_message.proofs.new_addr.Goals as goal

pub returns-in_err-write_new_addr : goal.returns-in_err-write_new_addr
returns-in_err-write_new_addr c =
    let m = c.args.m.now in
    let q = c.in_ok-message.message in
    let parts = c.in_ok-message.ensures.parts in
    let l = attributes q.body.now in
    let is = number-of rtm_new_addr m q.bytes.now q.body.now c.args.end (address_number rtm_new_addr q.bytes.now q.body.now) parts.bytes_are parts.body_is
    c.in_ok-message.ensures.refuses (of-address (family q.bytes.now) q.body.now (sizes rtm_new_addr l))
    in
    wrote-refused rtm_new_addr c.from_residual-in_err-write_new_addr.result c.in_err-write_new_addr.field-0.0 _ _ _ c.args.words.now _
    c.from_residual-in_err-write_new_addr.ensures is c.in_err-write_new_addr.ensures

pub returns : goal.returns
returns c =
    let m = c.args.m.now in
    let q = c.in_ok-message.message in
    let parts = c.in_ok-message.ensures.parts in
    let l = attributes q.body.now in
    let k = attributes (body_of rtm_new_addr m c.args.end) in
    let filled = c.in_ok-write_new_addr.ensures in (
      number-of rtm_new_addr m q.bytes.now q.body.now c.args.end 0 parts.bytes_are parts.body_is c.in_ok-message.ensures.refuses
          (of-address (family q.bytes.now) q.body.now (sizes rtm_new_addr l) ∙ filled.0),
      (
        ap number_of parts.kind_is,
        (
          sym (length_new_addr c.args.up m k),
          filled.1 ∙ ap (λ (x : List ℕ). put 0 x c.args.words.now) (same_rows (new_addr c.args.up) parts.bytes_are parts.body_is),
        ),
      ),
    )
