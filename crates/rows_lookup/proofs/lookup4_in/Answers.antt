use Rattle.std.proofs.Common.{subst}
use Rattle.lists.specs.Library.{lent}
use Rattle.rows_lookup.specs.Answer.{rules, upper_settles, upper-last, lower_settles, lower-last}
use Rattle.rows_lookup.proofs.lookup4_in.Goals as goal

pub returns-in-Some : goal.returns-in-Some
returns-in-Some c = upper_settles _ _ _ _ c.table_lookup4.ensures _ (subst (rules (lent c.table_lookup4.result)) c.in-Some.is c.ruled.ensures)

pub returns-then-not-default_listed : goal.returns-then-not-default_listed
returns-then-not-default_listed c = upper-last _ _ _ _ c.table_lookup4.ensures (subst (rules (lent c.table_lookup4.result)) c.in_default.is c.ruled.ensures) c.if-not-default_listed.true

pub returns-in-Some-ruled : goal.returns-in-Some-ruled
returns-in-Some-ruled c =
    lower_settles _ _ _ _ c.table_lookup4.ensures (subst (rules (lent c.table_lookup4.result)) c.in_default.is c.ruled.ensures) c.if-not-default_listed.false _ c.table_lookup4-2.ensures _ (subst (rules (lent c.table_lookup4-2.result)) c.in-Some-ruled.is c.ruled-2.ensures)

pub returns : goal.returns
returns c =
    lower-last _ _ _ _ c.table_lookup4.ensures (subst (rules (lent c.table_lookup4.result)) c.in_default.is c.ruled.ensures) c.if-not-default_listed.false _ c.table_lookup4-2.ensures (subst (rules (lent c.table_lookup4-2.result)) c.in_default-ruled.is c.ruled-2.ensures)
