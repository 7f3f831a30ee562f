-- The or of the parts is 0 where each of their words is.
use Rattle.std.proofs.Common.{◌≡◌, ℕ, List, ◌∷◌, ◌*◌, ◌/◌, length, drop, ap, ◌∙◌, rules}
use Rattle.std.specs.List.{fold}
use Rattle.std.specs.Int.Bits.{bit_or}
use Rattle.std.specs.Simd.{first_chunks}
use Rattle.lists.specs.Lists.{all_zero}
use Rattle.words.specs.Scan.{or_all, scanned}
use Rattle.std.proofs.Math.Dec.{eqb}
use Rattle.words.proofs.all_zero.Goals as goal

pub returns : goal.returns
returns c =
    let rest : List ℕ = c.in-Some.rest.now in
    let first : ℕ = c.in-Some.first.now in
    let seen : c.fold.result ≡ fold (λ (some : ℕ) (part : List ℕ). bit_or some (or_all part)) (bit_or first (or_all (drop (length rest / 64 * 64) rest))) (first_chunks 64 (length rest / 64) rest) =
    search rules
    in
    let whole : first ∷ rest ≡ c.args.s.now = search rules in
    ap (λ (x : ℕ). eqb x 0) seen ∙ scanned first 64 (length rest / 64) rest ∙ ap all_zero whole
