use Rattle.std.proofs.Common.{ap, ◌∙◌}
use Rattle.definition.specs.Reference.Lookup.{Flow}
use Rattle.rows_lookup.specs.Answer.{answered, lookup_rows}
use Rattle.rows_source.specs.Source.{found_source, no_source}
use Rattle.rows_source.proofs.source.Goals as goal

pub returns-in-Ok : goal.returns-in-Ok
returns-in-Ok c =
    let to = ap (λ (f : Flow). answered (lookup_rows c.args.default_listed c.args.routes.rows.now f)) c.to.ensures in
    c.unwrap_or.ensures ∙ found_source _ _ _ _ (c.lookup4_in.ensures ∙ to) c.in-Ok.is c.source4.result c.source4.ensures

pub returns-in-Err : goal.returns-in-Err
returns-in-Err c =
    let to = ap (λ (f : Flow). answered (lookup_rows c.args.default_listed c.args.routes.rows.now f)) c.to.ensures in
    no_source c.args.addresses.rows.now c.args.ip _ _ (c.lookup4_in.ensures ∙ to) c.in-Err.is
