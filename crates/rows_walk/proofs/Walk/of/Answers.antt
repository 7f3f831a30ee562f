use Rattle.std.proofs.Common.{refl, []}
use Rattle.rows_walk.specs.Keeps.{keeps-nothing}
use Rattle.rows_walk.specs.Walked.{walked-nothing}
use Rattle.rows_walk.proofs.Walk.of.Goals as goal

pub returns : goal.returns
returns c =
    record { tables = refl; passed = []; split = refl; behind = refl; ahead = walked-nothing c.args.routes.rows.now; kept = keeps-nothing; counted = refl }
