-- So many bytes are a state's words, and no others; and these by the form of the first of them.
use Rattle.std.proofs.Common.{refl, sym, ap, ◌∙◌}
use Rattle.std.proofs.lemmas.Bool.{eqb-true, eqb-false}
use Rattle.definition.specs.Words.{state_size, formed}
use Rattle.endian.specs.Endian.{words_of}
use Rattle.endian.specs.Laws.{words-whole}
use Rattle.refusal.specs.Laws.{passed}
use Rattle.app_show.specs.Laws.{shown_ill, shown-words, shown-other, refused}
use Rattle.app_show.proofs.read_state.Goals as goal

pub returns-in_err-unless : goal.returns-in_err-unless
returns-in_err-unless c =
    refused _ c.from_residual.result c.in_err-unless.field-0.0 c.args.bytes.now _ _ c.from_residual.ensures c.in_err-unless.ensures
    (λ e. shown-other c.args.bytes.now (eqb-false _ _ e))

pub returns-in_err-unless-2 : goal.returns-in_err-unless-2
returns-in_err-unless-2 c =
    let long = eqb-true _ _ (passed _ _ c.in_ok-unless.ensures) in
    let s = words-whole state_size c.args.bytes.now _ _ long refl c.words_of.ensures in
    let form = ap formed (sym s) ∙ sym c.formed.ensures in
    refused _ c.from_residual-in_err-unless-2.result c.in_err-unless-2.field-0.0 c.args.bytes.now _ _
    c.from_residual-in_err-unless-2.ensures c.in_err-unless-2.ensures
    (λ e. shown-words c.args.bytes.now long ∙ shown_ill (words_of c.args.bytes.now) (form ∙ e))

pub returns : goal.returns
returns c =
    let long = eqb-true _ _ (passed _ _ c.in_ok-unless.ensures) in
    let s = words-whole state_size c.args.bytes.now _ _ long refl c.words_of.ensures in
    (s, long, sym c.formed.ensures ∙ passed _ _ c.in_ok-unless-2.ensures)
