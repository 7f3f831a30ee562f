-- `step_rebuild::add` meets its contract.
use Rattle.std.proofs.Common.{refl, sym, ◌∙◌, not, ltb, ltb-true, ltb-false, length}
use Rattle.refusal.specs.declared.Refusal.TheVariants.{UnfitEvent}
use Rattle.refusal.specs.Laws.{passed}
use Rattle.definition_recording.specs.Recording.{added_row}
use Rattle.step_insert.specs.Plan.{turned}
use Rattle.step_rebuild.specs.Holds.{table_of}
use Rattle.step_rebuild.specs.Laws.{refused-by, there-already, none-to-replace, replaced, no-room, put-behind, put-ahead}
use Rattle.step_rebuild.proofs.add.Goals as goal
use Rattle.step_rebuild.proofs.add.Goals.{then-has-2, else-has-2}

pub returns-in_err-unless-clause-came : goal.returns-in_err-unless-clause-came
returns-in_err-unless-clause-came c =
    λ l h.
    let a = c.alike4-alike.result in
    let x = added_row c.args.row.now c.args.flags l in
    let rows = c.routes.ensures.rows (table_of l) (rw c.stored.ensures h.represents) in
    let run = (rw rows at c.alike4-alike.ensures.run) h.fit.in_order in
    refused-by x c.args.s.now.words.now c.from_residual.result c.in_err-unless.field-0.0 (not a.there) c.unless.ensures c.in_err-unless.was c.from_residual.ensures.1
    (λ b. there-already c.args.row.now c.args.flags l run (turned a.there b))

pub returns-in_err-unless-2-clause-came : goal.returns-in_err-unless-2-clause-came
returns-in_err-unless-2-clause-came c =
    λ l h.
    let a = c.alike4-alike.result in
    let x = added_row c.args.row.now c.args.flags l in
    let rows = c.routes.ensures.rows (table_of l) (rw c.stored.ensures h.represents) in
    let run = (rw rows at c.alike4-alike.ensures.run) h.fit.in_order in
    let fresh = turned a.there (passed (not a.there) UnfitEvent (sym c.in_ok-unless.was ∙ c.unless.ensures)) in
    refused-by x c.args.s.now.words.now c.from_residual-in_err-unless-2.result c.in_err-unless-2.field-0.0 (ltb a.start a.end) c.unless-then-has.ensures c.in_err-unless-2.was
    c.from_residual-in_err-unless-2.ensures.1
    (λ b. none-to-replace c.args.row.now c.args.flags l run fresh (sym (c.has.ensures 8 refl) ∙ c.if-has.true) (ltb-false a.start a.end b))

pub returns-then-has-clause-came : goal.returns-then-has-clause-came
returns-then-has-clause-came c =
    λ l h.
    let a = c.alike4-alike.result in
    let rows = c.routes.ensures.rows (table_of l) (rw c.stored.ensures h.represents) in
    let run = (rw rows at c.alike4-alike.ensures.run) h.fit.in_order in
    let fresh = turned a.there (passed (not a.there) UnfitEvent (sym c.in_ok-unless.was ∙ c.unless.ensures)) in
    let some = ltb-true a.start a.end (passed (ltb a.start a.end) UnfitEvent (sym c.in_ok-unless-2.was ∙ c.unless-then-has.ensures)) in
    replaced c.args.row.now c.args.flags l run fresh c.requires h.fit (sym (c.has.ensures 8 refl) ∙ c.if-has.true) some (c.replace_route.ensures.holds (table_of l) h.represents)

pub returns-in_err-unless-3-clause-came : goal.returns-in_err-unless-3-clause-came
returns-in_err-unless-3-clause-came c =
    λ l h.
    let a = c.alike4-alike.result in
    let x = added_row c.args.row.now c.args.flags l in
    let rows = c.routes.ensures.rows (table_of l) (rw c.stored.ensures h.represents) in
    let run = (rw rows at c.alike4-alike.ensures.run) h.fit.in_order in
    let fresh = turned a.there (passed (not a.there) UnfitEvent (sym c.in_ok-unless.was ∙ c.unless.ensures)) in
    let n = length c.routes.result.rows.now in
    refused-by x c.args.s.now.words.now c.from_residual-in_err-unless-3.result c.in_err-unless-3.field-0.0 (ltb n 256) c.unless-2.ensures c.in_err-unless-3.was
    c.from_residual-in_err-unless-3.ensures.1
    (λ b. no-room c.args.row.now c.args.flags l run fresh (sym (c.has.ensures 8 refl) ∙ c.if-has.false) h.fit (rw rows at (ltb-false n 256 b)))

pub returns-clause-came : goal.returns-clause-came
returns-clause-came c =
    λ l h.
    let a = c.alike4-alike.result in
    let rows = c.routes.ensures.rows (table_of l) (rw c.stored.ensures h.represents) in
    let run = (rw rows at c.alike4-alike.ensures.run) h.fit.in_order in
    let fresh = turned a.there (passed (not a.there) UnfitEvent (sym c.in_ok-unless.was ∙ c.unless.ensures)) in
    let n = length c.routes.result.rows.now in
    let room = rw rows at (ltb-true n 256 (passed (ltb n 256) UnfitEvent (sym c.in_ok-unless-3.was ∙ c.unless-2.ensures))) in
    let off = sym (c.has.ensures 8 refl) ∙ c.if-has.false in
    let holds = c.insert_route.ensures.holds (table_of l) h.represents in
    elim c.if-has-2.branch [
      | then-has-2 w ↦ put-behind c.args.row.now c.args.flags l run fresh off h.fit c.requires room (sym (c.has-2.ensures 11 refl) ∙ w.if-has-2.true) (rw w.place-is at holds)
      | else-has-2 w ↦ put-ahead c.args.row.now c.args.flags l run fresh off h.fit c.requires room (sym (c.has-2.ensures 11 refl) ∙ w.if-has-2.false) (rw w.place-is at holds)
    ]
