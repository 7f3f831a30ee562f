use Rattle.std.proofs.Common.{rules, eqb}
use Rattle.std.proofs.lemmas.Iterator.{YieldsList-from_slice}
use Rattle.std.proofs.lemmas.Iterator.Search.{position_from_yields_List}
use borrow.Author.Tests.{tests}
use Rattle.netlink_attributes.specs.LabelLaws.{front}
use Rattle.netlink_attributes.proofs.bytes.label.Goals as goal

pub returns : goal.returns
returns c =
    front c.args.p.now c.position.result c.unwrap_or-end.result
    (position_from_yields_List (λ b. eqb b 0) _ _ c.position.result c.position.ensures.ran (YieldsList-from_slice c.args.p.now (cc)) (λ x b q k. search (rules, tests)))
    c.unwrap_or-end.ensures
