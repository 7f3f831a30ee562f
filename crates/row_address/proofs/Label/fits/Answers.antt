-- `row_address::Label::fits` meets its contract, word by word.
-- Assumes nothing.
use Rattle.std.proofs.Common.{rules}
use Rattle.row_address.proofs.LabelWords.{fits-by-words}
use Rattle.row_address.proofs.Label.fits.Goals as goal

pub returns : goal.returns
returns c =
    rw (c.ends.ensures, c.ends-2.ensures, c.ends-3.ensures, c.ends-4.ensures, c.saturating_sub.ensures, c.saturating_sub-2.ensures, c.saturating_sub-3.ensures)
    (fits-by-words c.args.self.len _ _ _ _ (search rules) (search rules) (search rules))
