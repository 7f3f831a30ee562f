-- `call_recording::same_bytes` meets its contract.
use Rattle.std.proofs.Common.{◌≡◌, ap, ap₂, ◌∙◌, Bool, ◌&&◌, map}
use Rattle.endian.specs.Endian.{words_of}
use Rattle.definition_bytes.specs.Recording.{whole_bytes, same_on_bytes}
use Rattle.call_recording.specs.Laws.{nothing-left, bytes-events, same-bytes-unfit, same-bytes-fit, call-refused, call-passed, both-lent, says-no}
use Rattle.call_recording.proofs.same_bytes.Goals as goal

pub returns-in_err-unless : goal.returns-in_err-unless
returns-in_err-unless c =
    let v = c.args.first.now in
    let w = c.args.second.now in
    let fit = whole_bytes v && whole_bytes w in
    let same : (c.is_empty.result && c.is_empty-2.result) ≡ fit =
    ap₂ (λ (a b : Bool). a && b) (nothing-left 136 v c.is_empty.ensures c.as_chunks.ensures.back_len) (nothing-left 136 w c.is_empty-2.ensures c.as_chunks-2.ensures.back_len)
    in
    let no = call-refused (same_on_bytes v w) fit same c.unless.ensures _ c.in_err-unless.was (same-bytes-unfit v w) in
    says-no (same_on_bytes v w) _ c.from_residual.result no.0 no.1 c.from_residual.ensures.1

pub returns : goal.returns
returns c =
    let v = c.args.first.now in
    let w = c.args.second.now in
    let fit = whole_bytes v && whole_bytes w in
    let same : (c.is_empty.result && c.is_empty-2.result) ≡ fit =
    ap₂ (λ (a b : Bool). a && b) (nothing-left 136 v c.is_empty.ensures c.as_chunks.ensures.back_len) (nothing-left 136 w c.is_empty-2.ensures c.as_chunks-2.ensures.back_len)
    in
    let is = same-bytes-fit v w (call-passed (same_on_bytes v w) fit same c.unless.ensures c.in_ok-unless.was) in
    let first = ap (map words_of) c.as_chunks.ensures.front ∙ bytes-events v in
    let second = ap (map words_of) c.as_chunks-2.ensures.front ∙ bytes-events w in
    rw (is ∙ both-lent first second) c.same_rows.ensures
