use Rattle.std.specs.Prelude.{take}
use Rattle.rows_many.specs.Sets.{answer_to}
use Rattle.rows_many.specs.Walks.{Both}
use Rattle.rows_many.specs.Written.{Written}
use Rattle.rows_many.proofs.lookup4_many.Given as goal

abbrev pub invariant-loop-j : goal.invariant-loop-j
invariant-loop-j l = record {
  walks : Both l.default_listed l.routes.rows.now (take l.j l.destinations) l.walks;
  written : Written (answer_to l.default_listed l.routes.rows.now) l.destinations l.j l.initial.answers l.answers;
}
