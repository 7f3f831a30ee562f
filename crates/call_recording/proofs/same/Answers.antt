-- `call_recording::same` meets its contract.
use Rattle.std.proofs.Common.{◌≡◌, ap, ap₂, ◌∙◌, Bool, ◌&&◌, map}
use Rattle.definition_recording.specs.Recording.{whole, same_call}
use Rattle.call_recording.specs.Laws.{nothing-left, words-events, same-unfit, same-fit, call-refused, call-passed, both-lent, says-no}
use Rattle.call_recording.proofs.same.Goals as goal

pub returns-in_err-unless : goal.returns-in_err-unless
returns-in_err-unless c =
    let v = c.args.first.now in
    let w = c.args.second.now in
    let fit = whole v && whole w in
    let same : (c.is_empty.result && c.is_empty-2.result) ≡ fit =
    ap₂ (λ (a b : Bool). a && b) (nothing-left 34 v c.is_empty.ensures c.as_chunks.ensures.back_len) (nothing-left 34 w c.is_empty-2.ensures c.as_chunks-2.ensures.back_len)
    in
    let no = call-refused (same_call v w) fit same c.unless.ensures _ c.in_err-unless.was (same-unfit v w) in
    says-no (same_call v w) _ c.from_residual.result no.0 no.1 c.from_residual.ensures.1

pub returns : goal.returns
returns c =
    let v = c.args.first.now in
    let w = c.args.second.now in
    let fit = whole v && whole w in
    let same : (c.is_empty.result && c.is_empty-2.result) ≡ fit =
    ap₂ (λ (a b : Bool). a && b) (nothing-left 34 v c.is_empty.ensures c.as_chunks.ensures.back_len) (nothing-left 34 w c.is_empty-2.ensures c.as_chunks-2.ensures.back_len)
    in
    let is = same-fit v w (call-passed (same_call v w) fit same c.unless.ensures c.in_ok-unless.was) in
    let first = ap (map (λ e. e)) c.as_chunks.ensures.front ∙ words-events v in
    let second = ap (map (λ e. e)) c.as_chunks-2.ensures.front ∙ words-events w in
    rw (is ∙ both-lent first second) c.same_rows.ensures
