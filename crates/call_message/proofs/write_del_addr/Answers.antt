use Rattle.std.proofs.Common.{ap, ◌∙◌, List, ℕ}
use Rattle.lists.specs.Lists.{put}
use Rattle.netlink.specs.Attributes.{attributes, right}
use Rattle.netlink.specs.Codes.{rtm_del_addr}
use Rattle.netlink.specs.Reader.{family, sizes}
use Rattle.netlink_address.specs.declared.del_addr.DelAddr.{DelAddr}
use Rattle.netlink_address.specs.Words.{del_addr_words}
use Rattle.netlink_address.specs.Laws.{del_addr-words}
use Rattle.call_message.specs.Laws.{both-pass, filled-refused}
use Rattle.call_message.proofs.write_del_addr.Goals as goal

pub returns-in_err-fields : goal.returns-in_err-fields
returns-in_err-fields c =
    let why = c.in_err-fields.ensures.refuses in
    filled-refused c.from_residual.result c.in_err-fields.field-0.0 _ _ c.args.words.now c.from_residual.ensures why.0 why.1

pub returns : goal.returns
returns c =
    let m = c.args.message.bytes.now in
    let b = c.args.message.body.now in
    let w = c.args.words.now in
    let read = c.in_ok-fields.ensures in
    let sized = (both-pass (family m) (right b) (sizes rtm_del_addr (attributes b)) read.refuses).1 in (
      read.refuses,
      c.write.ensures
          ∙ ap (λ (s : DelAddr). put 0 (del_addr_words m s) w) read.fields
          ∙ ap (λ (x : List ℕ). put 0 x w) (del_addr-words (attributes b) m sized),
    )
