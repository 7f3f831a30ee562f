use Rattle.std.proofs.Common.{◌∙◌, ◌≡◌, arith}
use Rattle.std.proofs.lemmas.Grind.{common_steps}
use Rattle.definition.specs.Reference.Lookup.{main_table, listed}
use Rattle.state_read.specs.Parts.{listed-there}
use Rattle.step_drop_routes.proofs.falls.Goals as goal

pub returns-then-not-local4 : goal.returns-then-not-local4
returns-then-not-local4 c =
    λ st h.
    let there : c.listed.result ≡ listed main_table st = c.listed.ensures ∙ listed-there h 254 in
    grind (arith, common_steps)
