use Rattle.std.proofs.Common.{refl}
use Rattle.lists.specs.Lists.{zeros}
use Rattle.rows_many.proofs.answer_of.Goals as goal

pub returns-in-Err-clause-words : goal.returns-in-Err-clause-words
returns-in-Err-clause-words c = unfold zeros in rw (c.in-Err.is, c.number.ensures) refl
