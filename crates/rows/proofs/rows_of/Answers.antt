use Rattle.std.proofs.Common.{◌∙◌}
use Rattle.rows.specs.Rows.{chunks-laid}
use Rattle.rows.proofs.rows_of.Goals as goal

pub invariant_of-result : goal.invariant_of-result
invariant_of-result g c =
    record { fit = rw (c.as_chunks.ensures.front, chunks-laid _ c.requires.nonzero c.requires.lays.laid) c.requires.lays.laid.fitting }

pub returns : goal.returns
returns g c = λ l h. c.as_chunks.ensures.front ∙ chunks-laid _ c.requires.nonzero h
