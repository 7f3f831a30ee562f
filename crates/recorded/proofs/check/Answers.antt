use Rattle.std.proofs.Common.{rules, ◌≡◌, ◌∙◌}
use Rattle.std.specs.List.{fold}
use Rattle.recorded.specs.Laws.{checked, fold-check}
use Rattle.recorded.proofs.check.Goals as goal

pub returns : goal.returns
returns c =
    let e : c.fold.result ≡ fold checked 1 c.args.words.now = search rules in
    e ∙ fold-check c.args.words.now 1
