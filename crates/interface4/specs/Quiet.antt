-- `expire` on words changes nothing where it emits nothing.
-- Assumes nothing.
use Rattle.std.specs.Prelude.{ℕ, ◌≡◌, refl, true, List, eqb, length}
use Rattle.std.proofs.Common.{ap, ◌∙◌, eqb-true}
use Rattle.lists.specs.Bools.{cond-case}
use Rattle.definition.specs.State.{Out}
use Rattle.definition.specs.Words.{state_of, leaves}
use Rattle.definition.specs.Call.{Call}
use Rattle.definition.specs.Step.{Result, roomy, outcome, semantics, step}
use Rattle.definition.specs.Reference.Addresses.{goes}
use Rattle.definition.specs.Reference.Removal.{expire}
use Rattle.definition.specs.Laws.Expire.{expire-quiet}
use Rattle.definition.proofs.Preservation.Step.{perform-case, checked-held, leaves-decode}

abbrev Quiet : List ℕ → Result → Type 0
Quiet w r = r.reply.value ≡ 0 → r.words ≡ w

outcome-quiet : (o : Out) (w : List ℕ) → (length o.emitted ≡ 0 → leaves w o.state ≡ w) → Quiet w (outcome (goes o) w)
outcome-quiet o w q = cond-case (Quiet w) (roomy (goes o)) (λ e h. q h) (λ e h. refl)

pub expire-stays : (events now allowance : ℕ) (w : List ℕ) → eqb (step (Call.expire events now allowance) w).reply.value 0 ≡ true → (step (Call.expire events now allowance) w).words ≡ w
expire-stays events now allowance w h =
    let c = semantics (Call.expire events now allowance) in
    let quiet : Quiet w (step (Call.expire events now allowance) w) =
    perform-case (Quiet w) w c
    (λ z. outcome-quiet (expire allowance now (state_of w)) w (λ h.
    ap (leaves w) (expire-quiet allowance now (state_of w) h) ∙ leaves-decode w (checked-held c.checks w z)))
    (λ n e z h. refl)
    in
    quiet (eqb-true (step (Call.expire events now allowance) w).reply.value 0 h)
