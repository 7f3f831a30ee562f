-- What is written to the part that is lent is put in the whole.
use Rattle.std.proofs.Common.{arith}
use Rattle.words.proofs.Part.{put_mid-put}
use Rattle.words.proofs.store.Goals as goal

pub returns : goal.returns
returns c = put_mid-put _ _ _ _ _ c.copy_from_slice.ensures.after (omega arith)
