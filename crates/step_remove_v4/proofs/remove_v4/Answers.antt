use Rattle.step_remove_v4.specs.One.{primary_present, removed-step}
use Rattle.step_remove_v4.proofs.remove_v4.Goals as goal

pub remove_one-requires : goal.remove_one-requires
remove_one-requires c =
    primary_present c.args.a.now c.requires.there (c.remove_secondaries.ensures c.requires.state c.requires.fits)

pub returns : goal.returns
returns c = λ st f q. removed-step c.args.a.now q (c.remove_secondaries.ensures st f) c.remove_one.ensures
