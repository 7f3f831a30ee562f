-- `call_recording::rebuild` meets its contract.
use Rattle.std.proofs.Common.{◌≡◌, refl, ap, ◌∙◌, Bool, ◌&&◌, leb, length, map, List, ℕ}
use Rattle.lists.specs.Lists.{put}
use Rattle.definition_recording.specs.Recording.{whole, rebuild_call}
use Rattle.call_read.specs.Laws.{listed_answer}
use Rattle.call_recording.specs.Laws.{fresh, nothing-left, words-events, rebuild_unfit, rebuild_fit, call-refused, call-passed, reply-refused, reply-rows, writes-no, flattened}
use Rattle.call_recording.proofs.rebuild.Goals as goal

pub returns-in_err-unless : goal.returns-in_err-unless
returns-in_err-unless c =
    let w = c.args.recording.now in
    let room = length c.args.rows.now in
    let fit = whole w && leb 8192 room in
    let same : (c.is_empty.result && leb 8192 room) ≡ fit = ap (λ (b : Bool). b && leb 8192 room) (nothing-left 34 w c.is_empty.ensures c.as_chunks.ensures.back_len) in
    let no = call-refused (rebuild_call room w) fit same c.unless.ensures _ c.in_err-unless.was (rebuild_unfit room w) in
    writes-no (rebuild_call room w) _ c.from_residual.result no.0 no.1 c.from_residual.ensures.1 c.args.rows.now

pub rebuilt-requires : goal.rebuilt-requires
rebuilt-requires c = fresh 9507

pub returns-in_err-routes : goal.returns-in_err-routes
returns-in_err-routes c =
    let w = c.args.recording.now in
    let room = length c.args.rows.now in
    let fit = whole w && leb 8192 room in
    let same : (c.is_empty.result && leb 8192 room) ≡ fit = ap (λ (b : Bool). b && leb 8192 room) (nothing-left 34 w c.is_empty.ensures c.as_chunks.ensures.back_len) in
    let is = rebuild_fit room w (call-passed (rebuild_call room w) fit same c.unless.ensures c.in_ok-unless.was) in
    let events = ap (map (λ e. e)) c.as_chunks.ensures.front ∙ words-events w in
    let no = reply-refused is events c.in_err-routes.field-0.0 c.in_err-routes.ensures in
    writes-no (rebuild_call room w) _ c.from_residual-in_err-routes.result no c.in_err-routes.ensures.1 c.from_residual-in_err-routes.ensures.1 c.args.rows.now

pub returns : goal.returns
returns c =
    let w = c.args.recording.now in
    let room = length c.args.rows.now in
    let fit = whole w && leb 8192 room in
    let same : (c.is_empty.result && leb 8192 room) ≡ fit = ap (λ (b : Bool). b && leb 8192 room) (nothing-left 34 w c.is_empty.ensures c.as_chunks.ensures.back_len) in
    let is = rebuild_fit room w (call-passed (rebuild_call room w) fit same c.unless.ensures c.in_ok-unless.was) in
    let events = ap (map (λ e. e)) c.as_chunks.ensures.front ∙ words-events w in
    let l = c.in_ok-routes.routes.now in
    let yes = reply-rows is events l c.in_ok-routes.ensures.0 in
    let stored = c.store.ensures ∙ ap (λ (v : List ℕ). put 0 v c.args.rows.now) (c.as_flattened.ensures.value ∙ flattened l) in
    rw yes (listed_answer l refl stored)
