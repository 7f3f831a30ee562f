-- `call_recording::rebuild_bytes` meets its contract.
use Rattle.std.proofs.Common.{◌≡◌, refl, ap, ◌∙◌, Bool, ◌&&◌, leb, length, map, List, ℕ}
use Rattle.lists.specs.Lists.{put}
use Rattle.endian.specs.Endian.{words_of, bytes_of}
use Rattle.definition_bytes.specs.Recording.{whole_bytes, rebuild_on_bytes}
use Rattle.call_recording.specs.Laws.{fresh, nothing-left, bytes-events, bytes-unfit, bytes-fit, call-refused, call-passed, reply-refused, reply-rows, says-no, says-rows, bytes-no, flattened}
use Rattle.call_recording.proofs.rebuild_bytes.Goals as goal

pub returns-in_err-unless : goal.returns-in_err-unless
returns-in_err-unless c =
    let w = c.args.recording.now in
    let room = length c.args.rows.now in
    let fit = whole_bytes w && leb 32768 room in
    let same : (c.is_empty.result && leb 32768 room) ≡ fit = ap (λ (b : Bool). b && leb 32768 room) (nothing-left 136 w c.is_empty.ensures c.as_chunks.ensures.back_len) in
    let no = call-refused (rebuild_on_bytes room w) fit same c.unless.ensures _ c.in_err-unless.was (bytes-unfit room w) in
    record {
      value = says-no (rebuild_on_bytes room w) _ c.from_residual.result no.0 no.1 c.from_residual.ensures.1;
      rows_after = bytes-no c.args.rows.now no.0;
    }

pub rebuilt-requires : goal.rebuilt-requires
rebuilt-requires c = fresh 9507

pub returns-in_err-routes : goal.returns-in_err-routes
returns-in_err-routes c =
    let w = c.args.recording.now in
    let room = length c.args.rows.now in
    let fit = whole_bytes w && leb 32768 room in
    let same : (c.is_empty.result && leb 32768 room) ≡ fit = ap (λ (b : Bool). b && leb 32768 room) (nothing-left 136 w c.is_empty.ensures c.as_chunks.ensures.back_len) in
    let is = bytes-fit room w (call-passed (rebuild_on_bytes room w) fit same c.unless.ensures c.in_ok-unless.was) in
    let events = ap (map words_of) c.as_chunks.ensures.front ∙ bytes-events w in
    let no = reply-refused is events c.in_err-routes.field-0.0 c.in_err-routes.ensures in
    record {
      value = says-no (rebuild_on_bytes room w) _ c.from_residual-in_err-routes.result no c.in_err-routes.ensures.1 c.from_residual-in_err-routes.ensures.1;
      rows_after = bytes-no c.args.rows.now no;
    }

pub returns : goal.returns
returns c =
    let w = c.args.recording.now in
    let room = length c.args.rows.now in
    let fit = whole_bytes w && leb 32768 room in
    let same : (c.is_empty.result && leb 32768 room) ≡ fit = ap (λ (b : Bool). b && leb 32768 room) (nothing-left 136 w c.is_empty.ensures c.as_chunks.ensures.back_len) in
    let is = bytes-fit room w (call-passed (rebuild_on_bytes room w) fit same c.unless.ensures c.in_ok-unless.was) in
    let events = ap (map words_of) c.as_chunks.ensures.front ∙ bytes-events w in
    let l = c.in_ok-routes.routes.now in
    let yes = reply-rows is events l c.in_ok-routes.ensures.0 in
    record {
      value = rw yes (says-rows l refl);
      rows_after = rw yes (c.bytes_of.ensures ∙ ap (λ (v : List ℕ). put 0 (bytes_of v) c.args.rows.now) (c.as_flattened.ensures.value ∙ flattened l));
    }
