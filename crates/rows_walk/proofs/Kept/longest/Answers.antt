use Rattle.rows_walk.specs.Longest.{picked-none, picked-some}
use Rattle.rows_walk.proofs.Kept.longest.Goals as goal

pub returns-in_err-first : goal.returns-in_err-first
returns-in_err-first c = rw c.from_residual.ensures (picked-none c.args.ip c.args.self.now.rows c.first.ensures c.in_err-first.was)

pub returns : goal.returns
returns c = picked-some c.args.ip c.args.self.now.rows c.first.ensures _ c.in_ok-first.was
