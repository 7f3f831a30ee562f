-- `row_address::left` meets its contract: the reference's values for a row that fits, else 201.
-- Assumes nothing.
use Rattle.std.proofs.Common.{◌≡◌, ap, ◌∙◌, true, Ok, rules}
use Rattle.layout.specs.Address.{fit_address}
use Rattle.row_address.specs.Row.{left_reply, reply_of}
use Rattle.row_address.specs.Laws.{left-answered, left-says}
use Rattle.row_address.proofs.left.Goals as goal

pub returns-in_err-row-clause-result_value : goal.returns-in_err-row-clause-result_value
returns-in_err-row-clause-result_value c =
    let answer : c.from_residual.result ≡ left_reply c.args.row.now c.args.clock = search rules in
    ap reply_of answer ∙ left-says c.args.row.now c.args.clock

pub returns : goal.returns
returns c =
    let fit : fit_address c.args.row.now ≡ true = search rules in
    let row : c.in_ok-row.row.now ≡ c.args.row.now = search rules in
    let answer : Ok c.left.result ≡ left_reply c.args.row.now c.args.clock = rw (c.left.ensures, c.from.ensures.0, row) (left-answered c.args.row.now c.args.clock fit) in
    record { value = answer; result_value = ap reply_of answer ∙ left-says c.args.row.now c.args.clock }
