-- A refusal that `?` hands on, and a check that passes or fails.
-- Assumes nothing.
use Rattle.std.specs.Prelude.{ℕ, ◌≡◌, ◌≢◌, refl, Bool, true, false, Result, Ok, Err}
use Rattle.std.proofs.Common.{sym, ap, ◌∙◌}
use Rattle.std.specs.Result.{IsErr, IsErrAnd}
use Rattle.refusal.specs.declared.Refusal.{Refusal}
use Rattle.refusal.specs.Refusal.{number_of, Refuses, unless}

pub handed-on : {A : Type 0} (r : Result A Refusal) (e : Refusal) (n : ℕ) → IsErr r × IsErrAnd r (λ x. x ≡ e) → number_of e ≡ n → n ≢ 0 → Refuses r n
handed-on (Ok a) e n h f g = absurd h.1
handed-on (Err x) e n h f g = (ap number_of h.1 ∙ f, g)

pub passed : (b : Bool) (why : Refusal) {u : Unit {0}} → Ok u ≡ unless b why → b ≡ true
passed true why h = refl
passed false why h = cc

pub failed : (b : Bool) (why e : Refusal) → Err e ≡ unless b why → (b ≡ false) × (e ≡ why)
failed true why e h = cc
failed false why e h = (refl, cc)

-- the refusal of a check that failed, handed on
pub check-failed : {A : Type 0} (r : Result A Refusal) (e : Refusal) (n : ℕ) (b : Bool) (why : Refusal) → IsErr r × IsErrAnd r (λ x. x ≡ e)
    → Err e ≡ unless b why → (b ≡ false → n ≡ number_of why) → number_of why ≢ 0 → Refuses r n
check-failed r e n b why h f g z =
    let is = failed b why e f in
    let same : n ≡ number_of why = g is.0 in
    handed-on r e n h (ap number_of is.1 ∙ sym same) (λ w. z (sym same ∙ w))
