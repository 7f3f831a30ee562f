-- `row_address::ends` meets its contract, by the law of one word.
-- Assumes nothing.
use Rattle.row_address.proofs.LabelWords.{ends-by}
use Rattle.row_address.proofs.ends.Goals as goal

pub returns : goal.returns
returns c = rw (c.from.ensures, c.min.ensures) (ends-by c.args.word c.args.n c.ranges.word.fits)
