use Rattle.std.proofs.Common.{subst, sym, refl, ◌∙◌}
use Rattle.lists.specs.Library.{lent}
use Rattle.rows_lookup.specs.Answer.{rules, upper_settles, upper-last, lower_settles, lower-last}
use Rattle.rows_many.specs.Walks.{upper, lower, to-first, to-second, both_settled, both-unlisted, both_on}
use Rattle.rows_many.proofs.Walks.answer.Goals as goal

pub returns-in-Some : goal.returns-in-Some
returns-in-Some c = λ b l ds up above h.
    let u = c.answer.ensures upper l _ up (to-first b l ds c.args.ip above) h.first in
    let r = subst (rules (lent c.answer.result)) c.in-Some.is c.ruled.ensures in
    (upper_settles l _ b _ u.0 _ r, both_settled b l ds c.args.ip above c.args.self.now h _ refl u.1 _ u.0 r.0 refl)

pub returns-then-not-self : goal.returns-then-not-self
returns-then-not-self c = λ b l ds up above h.
    let u = c.answer.ensures upper l _ up (to-first b l ds c.args.ip above) h.first in
    let past = subst (rules (lent c.answer.result)) c.in_default.is c.ruled.ensures in
    let off = sym h.listed_is ∙ c.if-not-self.true in
    (upper-last l _ b _ u.0 past off, both-unlisted b l ds c.args.ip above c.args.self.now h _ refl u.1 _ u.0 off refl)

pub returns-in-Some-ruled : goal.returns-in-Some-ruled
returns-in-Some-ruled c = λ b l ds up above h.
    let u = c.answer.ensures upper l _ up (to-first b l ds c.args.ip above) h.first in
    let past = subst (rules (lent c.answer.result)) c.in_default.is c.ruled.ensures in
    let on = sym h.listed_is ∙ c.if-not-self.false in
    let w = c.answer-2.ensures lower l _ up (to-second b l ds c.args.ip above) h.second in
    let r = subst (rules (lent c.answer-2.result)) c.in-Some-ruled.is c.ruled-2.ensures in
    (lower_settles l _ b _ u.0 past on _ w.0 _ r, both_on b l ds c.args.ip above c.args.self.now h _ refl u.1 _ u.0 on past w.1)

pub returns : goal.returns
returns c = λ b l ds up above h.
    let u = c.answer.ensures upper l _ up (to-first b l ds c.args.ip above) h.first in
    let past = subst (rules (lent c.answer.result)) c.in_default.is c.ruled.ensures in
    let on = sym h.listed_is ∙ c.if-not-self.false in
    let w = c.answer-2.ensures lower l _ up (to-second b l ds c.args.ip above) h.second in
    let over = subst (rules (lent c.answer-2.result)) c.in_default-ruled.is c.ruled-2.ensures in
    (lower-last l _ b _ u.0 past on _ w.0 over, both_on b l ds c.args.ip above c.args.self.now h _ refl u.1 _ u.0 on past w.1)
