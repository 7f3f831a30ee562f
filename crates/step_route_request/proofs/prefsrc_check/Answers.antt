-- `step_route_request::prefsrc_check` meets its contract.
-- Assumes nothing.
use Rattle.std.proofs.Common.{eqb, ◌||◌}
use Rattle.step_route_request.specs.Check.{own-listed, no-prefsrc, good-prefsrc, bad_prefsrc}
use Rattle.step_route_request.proofs.prefsrc_check.Goals as goal

pub returns-then-q-ne1 : goal.returns-then-q-ne1
returns-then-q-ne1 c = λ st h f. no-prefsrc c.args.q.now st c.args.t c.requires c.args.linked c.if-q-ne1.true

pub returns-then-valid_prefsrc4 : goal.returns-then-valid_prefsrc4
returns-then-valid_prefsrc4 c = λ st h f.
    let v = rw (c.routes-routes.ensures.rows st h) at c.valid_prefsrc4.ensures in
    good-prefsrc c.args.q.now st c.args.t c.requires c.args.linked c.if-q-ne1.false c.valid_prefsrc4.result (c.listed.result || eqb c.prefsrc_table-own.result c.args.t) c.args.local (own-listed h c.prefsrc_table-own.result c.args.t c.listed.result c.prefsrc_table-own.ensures c.listed.ensures) f v c.if-valid_prefsrc4.true

pub returns : goal.returns
returns c = λ st h f.
    let v = rw (c.routes-routes.ensures.rows st h) at c.valid_prefsrc4.ensures in
    bad_prefsrc c.args.q.now st c.args.t c.requires c.args.linked c.if-q-ne1.false c.valid_prefsrc4.result (c.listed.result || eqb c.prefsrc_table-own.result c.args.t) c.args.local (own-listed h c.prefsrc_table-own.result c.args.t c.listed.result c.prefsrc_table-own.ensures c.listed.ensures) f v c.if-valid_prefsrc4.false
