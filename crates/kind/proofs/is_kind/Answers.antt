use Rattle.std.proofs.Common.{◌∙◌, ap}
use Rattle.std.specs.Result.{is_ok}
use Rattle.kind.specs.Laws.{is-kind-found}
use Rattle.kind.proofs.is_kind.Goals as goal

pub returns : goal.returns
returns c = c.is_ok.ensures.value ∙ ap is_ok c.try_from.ensures ∙ is-kind-found c.args.code
