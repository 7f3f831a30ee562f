use Rattle.std.proofs.Common.{refl}
use Rattle.state_well_formed.specs.Look.{form_parts, too_many-addresses, too_many-routes, too_many-tables}
use Rattle.state_well_formed.proofs.well_formed.Goals as goal

pub returns-then-a-gt-ADDRESS_LIMIT : goal.returns-then-a-gt-ADDRESS_LIMIT
returns-then-a-gt-ADDRESS_LIMIT c =
    too_many-addresses c.args.s.now c.if-a-gt-ADDRESS_LIMIT.true

pub returns-then-r-gt-ROUTE_LIMIT : goal.returns-then-r-gt-ROUTE_LIMIT
returns-then-r-gt-ROUTE_LIMIT c =
    too_many-routes c.args.s.now c.if-r-gt-ROUTE_LIMIT.true

pub returns-then-t-gt-TABLE_LIMIT : goal.returns-then-t-gt-TABLE_LIMIT
returns-then-t-gt-TABLE_LIMIT c =
    too_many-tables c.args.s.now c.if-t-gt-TABLE_LIMIT.true

pub returns : goal.returns
returns c =
    form_parts c.args.s.now c.requires refl refl refl c.if-a-gt-ADDRESS_LIMIT.false c.if-r-gt-ROUTE_LIMIT.false c.if-t-gt-TABLE_LIMIT.false
    c.as_chunks.ensures.front c.as_chunks-2.ensures.front c.addresses_form.ensures c.routes_form.ensures c.none_twice.ensures c.unused_zero.ensures
