use Rattle.std.proofs.Common.{rules}
use Rattle.lists.specs.Library.{own}
use Rattle.rows_source.specs.Select.{select-found}
use Rattle.rows_source.proofs.select4.Goals as goal

pub returns : goal.returns
returns g c =
    select-found g.A.Address.words c.args.scope (own c.args.dst) c.args.addresses.now c.first.result c.or_else.result c.map.result (search rules) (search rules) (search rules)
