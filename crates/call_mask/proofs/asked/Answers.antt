-- `call_mask::asked` meets its contract.
use Rattle.call_mask.specs.Laws.{bad-asked}
use Rattle.call_mask.proofs.asked.Goals as goal

pub returns-in-Err-clause-bad : goal.returns-in-Err-clause-bad
returns-in-Err-clause-bad g c =
    bad-asked g.row.N c.args.at c.in_ok-q.ensures.0 c.in_ok-q.ensures.1 c.in-Err.ensures.1 c.args.room c.args.state.now c.in-Err.ensures.0 c.checked.result c.checked.ensures.refuses
