-- `row_address::clear` meets its contract, by the law of a flag's mask; the mask is a word, so that its bit is one of 32.
-- Assumes nothing.
use Rattle.std.proofs.Common.{arith, ◌<◌}
use Rattle.std.proofs.Math.Nat.{pow-le-pow_right}
use Rattle.std.proofs.lemmas.Bool.{ltb-true, ltb-false}
use Rattle.std.specs.Prelude.{ltb}
use Rattle.lists.specs.Bools.{test-case}
use Rattle.layout.specs.Bits.{clear_and}
use Rattle.row_address.proofs.clear.Goals as goal

pub returns : goal.returns
returns c k e =
    let word : k < 32 =
    test-case (ltb k 32) (λ t. ltb-true k 32 t)
    (λ f. absurd (omega (arith, e, pow-le-pow_right {n = 2} (omega arith) {i = 32} {j = k} (ltb-false k 32 f)))) in
    rw e (clear_and k c.args.flags word (omega arith))
