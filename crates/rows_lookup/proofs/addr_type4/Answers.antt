use Rattle.std.proofs.Common.{sym, ap, ◌∙◌, rules}
use Rattle.lists.specs.Library.{lent}
use Rattle.rows_lookup.specs.AddrType.{kind-answered}
use Rattle.rows_lookup.proofs.addr_type4.Goals as goal

pub returns-in-Some : goal.returns-in-Some
returns-in-Some c =
    let found = sym c.table_lookup4.ensures ∙ ap lent c.in-Some.is in
    rw (c.unwrap_or.ensures, c.try_from.ensures, kind-answered _ _ _ c.in-Some.r.now _ c.args.routes.fit found) (search rules)
