-- `call_records::primary_of_words` meets its contract.
use Rattle.std.proofs.Common.{◌≡◌, ap, ◌∙◌, rules}
use Rattle.definition.specs.Reference.Addresses.{primary_of}
use Rattle.definition.specs.Words.{state_of}
use Rattle.layout.specs.Address.{fit_address}
use Rattle.call_records.specs.Call.{of_primary, primary_of_call}
use Rattle.call_read.specs.Laws.{held, passed, says-refused, says-passed, handed, row-request, valuing-answer}
use Rattle.call_records.proofs.primary_of_words.Goals as goal

pub returns-in_err-s : goal.returns-in_err-s
unfolding primary_of_call
returns-in_err-s c =
    let fit = fit_address c.args.row.now in
    let refuses = row-request c.reading.result fit c.args.state.now (c.reading.ensures.refuses _ (handed c.fit_address.result c.ok_or-row.ensures.value c.fit_address.ensures.fits)) in
    says-refused (of_primary c.args.row.now) c.args.state.now refuses c.in_err-s.was c.from_residual.ensures.1

pub returns : goal.returns
unfolding primary_of_call
returns c =
    let fit = fit_address c.args.row.now in
    let refuses = row-request c.reading.result fit c.args.state.now (c.reading.ensures.refuses _ (handed c.fit_address.result c.ok_or-row.ensures.value c.fit_address.ensures.fits)) in
    let p = passed (of_primary c.args.row.now).checks c.args.state.now refuses c.in_ok-s.was in
    let row : c.in_ok-s.row.now ≡ c.args.row.now = search rules in
    says-passed (of_primary c.args.row.now) c.args.state.now p
    (valuing-answer c.primary_of_in.result _ (c.primary_of_in.ensures (state_of c.args.state.now) (held p c.in_ok-s.ensures.passes.0) ∙ ap (primary_of (state_of c.args.state.now).addresses) row))
