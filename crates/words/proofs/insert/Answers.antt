-- A run ahead of the run that moved is one run.
use Rattle.std.proofs.Common.{ap, ◌∙◌, ◌+◌, length, arith, List, ℕ}
use Rattle.lists.specs.Lists.{put}
use Rattle.lists.specs.Put.{put_in}
use Rattle.words.proofs.Part.{pasted}
use Rattle.words.proofs.insert.Goals as goal

pub returns : goal.returns
returns c =
    let a = c.args in
    c.store.ensures
    ∙ ap (λ (l : List ℕ). put a.at a.vs.now l) (pasted a.at (a.at + length a.vs.now) a.n _ a.s.now _ c.copy_within.ensures.after (omega arith) (omega arith))
    ∙ put_in a.at a.n a.vs.now a.s.now c.requires
