use Rattle.std.proofs.Common.{sym, ap, ◌∙◌, ◌&&◌, List, ℕ}
use Rattle.lists.specs.Lists.{all, put}
use Rattle.netlink.specs.Attributes.{attributes, right}
use Rattle.netlink.specs.Codes.{rtm_del_route}
use Rattle.netlink.specs.Reader.{family, nested_right, del_route}
use Rattle.netlink.specs.Types.{number_of}
use Rattle.netlink_refusal.specs.Order.{body_of}
use Rattle.call_message.specs.Answer.{route_number}
use Rattle.call_message.specs.Laws.{of-deleted, number-of, same_rows, wrote-refused, length_del_route}
use Rattle.call_message.proofs.del_route.Goals as goal

pub returns-in_err-write_del_route : goal.returns-in_err-write_del_route
returns-in_err-write_del_route c =
    let m = c.args.m.now in
    let q = c.in_ok-message.message in
    let parts = c.in_ok-message.ensures.parts in
    let l = attributes q.body.now in
    let is = number-of rtm_del_route m q.bytes.now q.body.now c.args.end (route_number q.bytes.now q.body.now) parts.bytes_are parts.body_is
    c.in_ok-message.ensures.refuses (of-deleted (family q.bytes.now) (right q.body.now && all nested_right l) l)
    in
    wrote-refused rtm_del_route c.from_residual-in_err-write_del_route.result c.in_err-write_del_route.field-0.0 _ _ _ c.args.words.now _
    c.from_residual-in_err-write_del_route.ensures is c.in_err-write_del_route.ensures

pub returns : goal.returns
returns c =
    let m = c.args.m.now in
    let q = c.in_ok-message.message in
    let parts = c.in_ok-message.ensures.parts in
    let l = attributes q.body.now in
    let k = attributes (body_of rtm_del_route m c.args.end) in
    let filled = c.in_ok-write_del_route.ensures in (
      number-of rtm_del_route m q.bytes.now q.body.now c.args.end 0 parts.bytes_are parts.body_is c.in_ok-message.ensures.refuses
          (of-deleted (family q.bytes.now) (right q.body.now && all nested_right l) l ∙ filled.0),
      (
        ap number_of parts.kind_is,
        (
          sym (length_del_route 0 m k),
          filled.1 ∙ ap (λ (x : List ℕ). put 0 x c.args.words.now) (same_rows (del_route) parts.bytes_are parts.body_is),
        ),
      ),
    )
