use Rattle.std.proofs.Common.{sym, ◌∙◌}
use Rattle.row_subnet.specs.Laws.{primary-found}
use Rattle.row_subnet.proofs.primary_of.Goals as goal

pub returns : goal.returns
returns g c =
    c.local-2.ensures
    ∙ primary-found g.A.Address.words c.args.addresses.now c.args.a c.primary_at.result c.unwrap_or-primary.ensures
    (sym c.secondary.ensures ∙ c.if-not-secondary.false) c.primary_at.ensures
