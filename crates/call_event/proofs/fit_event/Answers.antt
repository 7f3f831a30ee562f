-- The tests, case by case.
use Rattle.std.proofs.Common.{◌≡◌, sym, ap, ◌∙◌, arith, rules, false, length}
use Rattle.std.specs.Option.{is_some}
use Rattle.layout.specs.Address.{fit_address}
use Rattle.layout.specs.Route.{fit_route}
use Rattle.netlink_event.specs.Writer.{writes, address_row, route_row}
use Rattle.netlink_event.proofs.Refusals.{no_event, wide_flags, each-refuses, low-kind, high-kind, no-kind, by-address, by-route}
use Rattle.call_event.proofs.fit_event.Goals as goal
use Rattle.call_event.proofs.fit_event.Goals.{in_default-via-then-event-lt1, in_default-via-else-event-lt1+else-this-lt3+else-this-lt5}

pub returns-in_err-event-clause-fits : goal.returns-in_err-event-clause-fits
returns-in_err-event-clause-fits c =
    let none : is_some c.from_residual.result ≡ false = search rules in
    none ∙ sym (each-refuses c.args.event.now (no_event c.in_err-event.ensures.cases))

pub returns-then-event-gt65535-clause-fits : goal.returns-then-event-gt65535-clause-fits
returns-then-event-gt65535-clause-fits c =
    sym (each-refuses c.in_ok-event.event.now (wide_flags c.if-event-gt65535.true)) ∙ ap writes c.in_ok-event.ensures.cases.same

pub returns-in-1-clause-fits : goal.returns-in-1-clause-fits
returns-in-1-clause-fits c =
    let e = c.in_ok-event.event.now in
    let long : length e ≡ 34 = omega arith in
    let answer : is_some c.then_some.result ≡ fit_address (address_row e) = search rules in
    answer ∙ by-address e long c.if-event-gt65535.false (low-kind e (omega arith) (omega arith)) ∙ ap writes c.in_ok-event.ensures.cases.same

pub returns-in-3-clause-fits : goal.returns-in-3-clause-fits
returns-in-3-clause-fits c =
    let e = c.in_ok-event.event.now in
    let long : length e ≡ 34 = omega arith in
    let answer : is_some c.then_some-in-3.result ≡ fit_route (route_row e) = search rules in
    answer ∙ by-route e long c.if-event-gt65535.false (high-kind e (omega arith) (omega arith)) ∙ ap writes c.in_ok-event.ensures.cases.same

pub returns-in_default-clause-fits : goal.returns-in_default-clause-fits
returns-in_default-clause-fits c =
    let none : writes c.in_ok-event.event.now ≡ false =
    elim c.in_default.branch [
      | in_default-via-then-event-lt1 w ↦ no-kind c.in_ok-event.event.now (λ a b. omega arith)
      | in_default-via-else-event-lt1+else-this-lt3+else-this-lt5 w ↦ no-kind c.in_ok-event.event.now (λ a b. omega arith)
    ]
    in
    sym none ∙ ap writes c.in_ok-event.ensures.cases.same
