-- The part that is filled is zeros.
use Rattle.std.proofs.Common.{arith, ◌∙◌, length-drop}
use Rattle.std.proofs.Math.ListN.{length-take}
use Rattle.lists.specs.Lists.{zeros}
use Rattle.lists.specs.Rows.{length-zeros}
use Rattle.words.proofs.Part.{put_mid-put, replicate-zeros}
use Rattle.words.proofs.clear.Goals as goal

pub returns : goal.returns
returns c =
    let a = c.args in
    put_mid-put a.at _ (zeros a.n) a.s.now _
    (c.fill.ensures.after (λ y e. e) ∙ replicate-zeros _ a.n (simp (length-take, length-drop) (omega arith)))
    (rw length-zeros (omega arith))
