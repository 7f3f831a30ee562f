use Rattle.std.proofs.Common.{sym, ap, ◌∙◌, ◌&&◌, List, ℕ}
use Rattle.lists.specs.Lists.{all, put}
use Rattle.netlink.specs.Attributes.{attributes, right}
use Rattle.netlink.specs.Codes.{rtm_new_route}
use Rattle.netlink.specs.Reader.{family, nested_right, new_route}
use Rattle.netlink.specs.Types.{number_of}
use Rattle.netlink_refusal.specs.Order.{body_of}
use Rattle.call_message.specs.Answer.{route_number}
use Rattle.call_message.specs.Laws.{of-route, number-of, same_rows, wrote-refused, length_new_route}
use Rattle.call_message.proofs.new_route.Goals as goal

pub returns-in_err-write_new_route : goal.returns-in_err-write_new_route
returns-in_err-write_new_route c =
    let m = c.args.m.now in
    let q = c.in_ok-message.message in
    let parts = c.in_ok-message.ensures.parts in
    let l = attributes q.body.now in
    let is = number-of rtm_new_route m q.bytes.now q.body.now c.args.end (route_number q.bytes.now q.body.now) parts.bytes_are parts.body_is
    c.in_ok-message.ensures.refuses (of-route (family q.bytes.now) (right q.body.now && all nested_right l) l)
    in
    wrote-refused rtm_new_route c.from_residual-in_err-write_new_route.result c.in_err-write_new_route.field-0.0 _ _ _ c.args.words.now _
    c.from_residual-in_err-write_new_route.ensures is c.in_err-write_new_route.ensures

pub returns : goal.returns
returns c =
    let m = c.args.m.now in
    let q = c.in_ok-message.message in
    let parts = c.in_ok-message.ensures.parts in
    let l = attributes q.body.now in
    let k = attributes (body_of rtm_new_route m c.args.end) in
    let filled = c.in_ok-write_new_route.ensures in (
      number-of rtm_new_route m q.bytes.now q.body.now c.args.end 0 parts.bytes_are parts.body_is c.in_ok-message.ensures.refuses
          (of-route (family q.bytes.now) (right q.body.now && all nested_right l) l ∙ filled.0),
      (
        ap number_of parts.kind_is,
        (
          sym (length_new_route c.args.up m k),
          filled.1 ∙ ap (λ (x : List ℕ). put 0 x c.args.words.now) (same_rows (new_route c.args.up) parts.bytes_are parts.body_is),
        ),
      ),
    )
