-- The row of an event that isn't refused could stand in a well-formed state.
use Rattle.std.proofs.Common.{arith, take-take, ap, ◌∙◌, ◌≡◌, drop}
use Rattle.layout.specs.Address.{fit_address}
use Rattle.layout.specs.Route.{fit_route}
use Rattle.netlink_event.specs.Writer.{address_row, route_row}
use Rattle.netlink_event.proofs.Fit.{address-fits, route-fits}
use Rattle.netlink_put.specs.Wrote.{◌and_then◌, same}
use Rattle.netlink_write.proofs.Message.{of-address, of-route, low-kind, high-kind, body-bound}
use Rattle.netlink_write.proofs.body.Goals as goal

pub address_head-requires-clause-fit : goal.address_head-requires-clause-fit
address_head-requires-clause-fit c =
    let e = c.args.event.now in
    let is = rw c.unwrap-row.ensures at c.first_chunk.ensures.cases in
    let row : c.unwrap-row.result.now ≡ address_row e = is.same ∙ take-take 20 32 (drop 2 e) (omega arith) in
    ap fit_address row ∙ address-fits e c.requires.fit (low-kind c.args.clock e c.requires.fit c.if-event-le-DEL_ADDR4.true)

pub address_attributes-requires-clause-fit : goal.address_attributes-requires-clause-fit
address_attributes-requires-clause-fit c =
    let e = c.args.event.now in
    let is = rw c.unwrap-row.ensures at c.first_chunk.ensures.cases in
    let row : c.unwrap-row.result.now ≡ address_row e = is.same ∙ take-take 20 32 (drop 2 e) (omega arith) in
    ap fit_address row ∙ address-fits e c.requires.fit (low-kind c.args.clock e c.requires.fit c.if-event-le-DEL_ADDR4.true)

pub route_head-requires-clause-fit : goal.route_head-requires-clause-fit
route_head-requires-clause-fit c =
    let e = c.args.event.now in
    let is = rw c.unwrap-row-else-event-le-DEL_ADDR4.ensures at c.first_chunk-else-event-le-DEL_ADDR4.ensures.cases in
    let row : c.unwrap-row-else-event-le-DEL_ADDR4.result.now ≡ route_row e = is.same ∙ take-take 32 32 (drop 2 e) (omega arith) in
    ap fit_route row ∙ route-fits e c.requires.fit (high-kind c.args.clock e c.requires.fit (omega (arith, c.if-event-le-DEL_ADDR4.false)))

pub returns-then-event-le-DEL_ADDR4-clause-bound : goal.returns-then-event-le-DEL_ADDR4-clause-bound
returns-then-event-le-DEL_ADDR4-clause-bound c = body-bound c.args.clock c.args.event.now c.requires.fit

pub returns-then-event-le-DEL_ADDR4-clause-text : goal.returns-then-event-le-DEL_ADDR4-clause-text
returns-then-event-le-DEL_ADDR4-clause-text c =
    let e = c.args.event.now in
    let is = rw c.unwrap-row.ensures at c.first_chunk.ensures.cases in
    let row : c.unwrap-row.result.now ≡ address_row e = is.same ∙ take-take 20 32 (drop 2 e) (omega arith) in
    let a = low-kind c.args.clock e c.requires.fit c.if-event-le-DEL_ADDR4.true in
    same _ (of-address c.args.clock e a) (rw row at c.address_head.ensures and_then (rw row at c.address_attributes.ensures.text).bytes)

pub returns-else-event-le-DEL_ADDR4-clause-bound : goal.returns-else-event-le-DEL_ADDR4-clause-bound
returns-else-event-le-DEL_ADDR4-clause-bound c = body-bound c.args.clock c.args.event.now c.requires.fit

pub returns-else-event-le-DEL_ADDR4-clause-text : goal.returns-else-event-le-DEL_ADDR4-clause-text
returns-else-event-le-DEL_ADDR4-clause-text c =
    let e = c.args.event.now in
    let is = rw c.unwrap-row-else-event-le-DEL_ADDR4.ensures at c.first_chunk-else-event-le-DEL_ADDR4.ensures.cases in
    let row : c.unwrap-row-else-event-le-DEL_ADDR4.result.now ≡ route_row e = is.same ∙ take-take 32 32 (drop 2 e) (omega arith) in
    let r = high-kind c.args.clock e c.requires.fit (omega (arith, c.if-event-le-DEL_ADDR4.false)) in
    same _ (of-route c.args.clock e r) (rw row at c.route_head.ensures and_then (rw row at c.route_attributes.ensures.text).bytes)
