-- `streams::at_end` meets its contract: what can be read is the byte.
-- Assumes nothing.
use Rattle.std.specs.Prelude.{◌≡◌, ℕ, false, List, [], ◌∷◌, Result, Ok, Err, OnOk, is_err, length}
use Rattle.std.proofs.Common.{sym, ◌∙◌, arith}
use Rattle.std.specs.Io.KnownBytes.{Consumes}
use Rattle.streams.proofs.at_end.Goals as goal

-- one byte that was read
one : (R : List ℕ → Type 0) (l : List ℕ) → length l ≡ 1 → R l → (b : ℕ) × R (b ∷ [])
one R [] e h = absurd (omega (arith, e))
one R (b ∷ []) e h = (b, h)
one R (b ∷ a ∷ l) e h = absurd (omega (arith, e))

there : {E : Type 0} (r : Result (Unit {0}) E) (C : Type 0) → OnOk r C → is_err r ≡ false → C
there (Ok u) C h e = h
there (Err x) C h e = absurd (cc)

pub returns : goal.returns
returns g c =
    λ h.
    one (λ (bs : List ℕ). Consumes (g.R.Read.remaining c.args.input.now) (g.R.Read.remaining c.read_exact.new.self) bs) c.read_exact.new.buf c.read_exact.auto.buf
    (there c.read_exact.result _ c.read_exact.ensures.bytes (sym c.is_err.ensures.value ∙ h))
