-- After i iterations those of the first i routes that depend on that source are told.
use Rattle.definition.specs.Words.{decode}
use Rattle.definition.specs.Reference.Removal.{dependent_on}
use Rattle.step_drop_prefsrc.specs.Sweep.{Sweeping}
use Rattle.step_drop_prefsrc.proofs.drop_dependents.Given as goal

abbrev pub invariant-loop-i : goal.invariant-loop-i
invariant-loop-i l = Sweeping (dependent_on l.ip) (decode l.initial.change.state.words.now).routes l.i l.initial.change l.change
